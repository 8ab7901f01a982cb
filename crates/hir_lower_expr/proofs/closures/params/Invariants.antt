use Rattle.std.proofs.Common.{◌≡◌, length}
use Rattle.hir_store.specs.Range.{Grows}
use Rattle.hir_env.specs.Whole.{closure_params_part}
use Rattle.hir_lower_builder.specs.Lower.{lower_params}
use Rattle.hir_lower_builder.specs.Methods.{HasClosureParams}
use Rattle.hir_lower_builder.specs.Nests.{KidsClosureParams}
use Rattle.hir_lower_expr.proofs.closures.params.Given as goal

abbrev pub invariant-loop-left : goal.invariant-loop-left
invariant-loop-left g l = let at = g.P.LowerParts.rctx l.lowerer.parts in record {
  so_far : lower_params l.fn.params (closure_params_part at l.fn.left) l.fn.state
      ≡ lower_params l.params (closure_params_part at l.left) l.state;
  may : KidsClosureParams (g.P.LowerParts.can l.lowerer.parts) at.place l.left;
  placed : Grows l.fn.state.stored l.state.stored × HasClosureParams l.state.stored l.params;
}

abbrev pub decreases-loop-left : goal.decreases-loop-left
decreases-loop-left g l = length l.left
