use Rattle.std.proofs.Common.{◌≡◌, length}
use Rattle.hir_store.specs.Range.{Grows, HasTypes}
use Rattle.hir_lower_callbacks.specs.ResolveCtxs.{rctx_at}
use Rattle.hir_lower_item.specs.Answering.{arguments_of}
use Rattle.hir_lower_item.specs.Lower.{argument_types}
use Rattle.hir_lower_item.proofs.function.argument_types.Given as goal

abbrev pub invariant-loop-left : goal.invariant-loop-left
invariant-loop-left g l = let at = rctx_at (g.E.LowerEnv.answers l.env) l.place in record {
  so_far : argument_types l.fn.done (arguments_of at l.def l.fn.left) l.fn.state
      ≡ argument_types l.done (arguments_of at l.def l.left) l.state;
  placed : Grows l.fn.state.stored l.state.stored × HasTypes l.state.stored l.done;
}

abbrev pub decreases-loop-left : goal.decreases-loop-left
decreases-loop-left g l = length l.left
