use Rattle.std.proofs.Common.{◌≡◌, length, []}
use Rattle.hir_store.specs.Range.{Grows, HasTypes}
use Rattle.hir_env.specs.Whole.{type_args_part}
use Rattle.hir_lower_builder.specs.Lower.{lower_parts}
use Rattle.hir_lower_builder.specs.Nests.{Each, KidsTypeArg}
use Rattle.hir_lower_path.proofs.args.type_args.Given as goal

abbrev pub invariant-loop-left : goal.invariant-loop-left
invariant-loop-left g l = let at = g.P.LowerParts.rctx l.lowerer.parts in record {
  so_far : lower_parts [] (type_args_part at l.fn.left) l.fn.state ≡ lower_parts l.done (type_args_part at l.left) l.state;
  may : Each (KidsTypeArg (g.P.LowerParts.can l.lowerer.parts) at.place) l.left;
  placed : Grows l.fn.state.stored l.state.stored × HasTypes l.state.stored l.done;
}

abbrev pub decreases-loop-left : goal.decreases-loop-left
decreases-loop-left g l = length l.left
