use Rattle.std.proofs.Common.{◌≡◌, length}
use Rattle.hir_syntax.specs.declared.types.GenericArg.{out-GenericArg}
use Rattle.hir_store.specs.Range.{Grows}
use Rattle.hir_env.specs.Whole.{generic_args_part}
use Rattle.hir_lower_builder.specs.Lower.{lower_args}
use Rattle.hir_lower_builder.specs.Methods.{HasLists}
use Rattle.hir_lower_builder.specs.Nests.{Each, KidsArg}
use Rattle.hir_lower_type.proofs.args.args.Given as goal

abbrev pub invariant-loop-left : goal.invariant-loop-left
invariant-loop-left g l = let at = g.P.LowerParts.rctx l.lowerer.parts in record {
  so_far : lower_args l.fn.lists (generic_args_part at l.fn.left) l.fn.state ≡ lower_args l.lists (generic_args_part at l.left) l.state;
  may : Each (λ a. KidsArg (g.P.LowerParts.can l.lowerer.parts) at.place (out-GenericArg a)) l.left;
  placed : Grows l.fn.state.stored l.state.stored × HasLists l.state.stored l.lists;
}

abbrev pub decreases-loop-left : goal.decreases-loop-left
decreases-loop-left g l = length l.left
