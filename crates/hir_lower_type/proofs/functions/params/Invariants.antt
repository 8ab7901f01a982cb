use Rattle.std.proofs.Common.{◌≡◌, length, []}
use Rattle.hir_syntax.specs.declared.types.Param.{out-Param}
use Rattle.hir_store.specs.Range.{Grows, HasTypes}
use Rattle.hir_lower_builder.specs.Lower.{lower_parts}
use Rattle.hir_lower_builder.specs.Nests.{Each, KidsParam}
use Rattle.hir_lower_type.specs.Params.{params_at}
use Rattle.hir_lower_type.proofs.functions.params.Given as goal

abbrev pub invariant-loop-left : goal.invariant-loop-left
invariant-loop-left g l = let at = g.P.LowerParts.rctx l.lowerer.parts in record {
  so_far : lower_parts [] (params_at at l.fn.left) l.fn.state ≡ lower_parts l.done (params_at at l.left) l.state;
  may : Each (λ x. KidsParam (g.P.LowerParts.can l.lowerer.parts) at.place (out-Param x)) l.left;
  placed : Grows l.fn.state.stored l.state.stored × HasTypes l.state.stored l.done;
}

abbrev pub decreases-loop-left : goal.decreases-loop-left
decreases-loop-left g l = length l.left
