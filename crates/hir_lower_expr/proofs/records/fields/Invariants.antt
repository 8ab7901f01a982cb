use Rattle.std.proofs.Common.{◌≡◌, length, []}
use Rattle.hir_store.specs.Range.{Grows, HasFields}
use Rattle.hir_env.specs.Whole.{fields_part}
use Rattle.hir_lower_builder.specs.Lower.{lower_fields}
use Rattle.hir_lower_builder.specs.Nests.{KidsFields}
use Rattle.hir_lower_expr.proofs.records.fields.Given as goal

abbrev pub invariant-loop-left : goal.invariant-loop-left
invariant-loop-left g l = let at = g.P.LowerParts.rctx l.lowerer.parts in record {
  so_far : lower_fields [] (fields_part at l.fn.left) l.fn.state ≡ lower_fields l.done (fields_part at l.left) l.state;
  may : KidsFields (g.P.LowerParts.can l.lowerer.parts) at.place l.left;
  placed : Grows l.fn.state.stored l.state.stored × HasFields l.state.stored l.done;
}

abbrev pub decreases-loop-left : goal.decreases-loop-left
decreases-loop-left g l = length l.left
