use Rattle.std.proofs.Common.{◌≡◌, length, []}
use Rattle.hir_store.specs.Range.{Grows, HasExprs}
use Rattle.hir_env.specs.Whole.{exprs_part}
use Rattle.hir_lower_builder.specs.Lower.{lower_each}
use Rattle.hir_lower_builder.specs.Nests.{Each}
use Rattle.hir_lower_builder.proofs.parts.Lowerer.collect_each.Given as goal

abbrev pub invariant-loop-all : goal.invariant-loop-all
invariant-loop-all g l = let at = g.P.LowerParts.rctx l.self.parts in record {
  so_far : lower_each [] (exprs_part at l.fn.all) l.fn.state ≡ lower_each l.done (exprs_part at l.all) l.state;
  may : Each (g.P.LowerParts.can l.self.parts).expr l.all;
  placed : Grows l.fn.state.stored l.state.stored × HasExprs l.state.stored l.done;
}

abbrev pub decreases-loop-all : goal.decreases-loop-all
decreases-loop-all g l = length l.all
