use Rattle.std.proofs.Common.{◌≡◌, length}
use Rattle.hir_store.specs.Range.{Grows}
use Rattle.hir_lower_callbacks.specs.ResolveCtxs.{rctx_at}
use Rattle.hir_lower_item.specs.Answering.{params_part}
use Rattle.hir_lower_item.specs.Lower.{lower_params}
use Rattle.hir_lower_item.proofs.params.each_param.Given as goal

abbrev pub invariant-loop-left : goal.invariant-loop-left
invariant-loop-left g l = let at = rctx_at (g.E.LowerEnv.answers l.env) l.place in record {
  so_far : lower_params l.def (params_part at l.def l.fn.left) l.fn.state ≡ lower_params l.def (params_part at l.def l.left) l.state;
  placed : Grows l.fn.state.stored l.state.stored;
}

abbrev pub decreases-loop-left : goal.decreases-loop-left
decreases-loop-left g l = length l.left
