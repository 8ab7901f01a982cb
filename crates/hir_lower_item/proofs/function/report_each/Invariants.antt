use Rattle.std.proofs.Common.{◌≡◌, length}
use Rattle.hir_store.specs.Range.{Grows}
use Rattle.hir_lower_callbacks.specs.ResolveCtxs.{rctx_at}
use Rattle.hir_lower_item.specs.Answering.{arguments_of}
use Rattle.hir_lower_item.specs.Lower.{report_each}
use Rattle.hir_lower_item.proofs.function.report_each.Given as goal

abbrev pub invariant-loop-left : goal.invariant-loop-left
invariant-loop-left g l = let at = rctx_at (g.E.LowerEnv.answers l.env) l.place in record {
  so_far : report_each (arguments_of at l.def l.fn.left) l.fn.state ≡ report_each (arguments_of at l.def l.left) l.state;
  placed : Grows l.fn.state.stored l.state.stored;
}

abbrev pub decreases-loop-left : goal.decreases-loop-left
decreases-loop-left g l = length l.left
