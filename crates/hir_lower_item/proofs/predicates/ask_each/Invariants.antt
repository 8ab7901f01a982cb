use Rattle.std.proofs.Common.{◌≡◌, length}
use Rattle.hir_store.specs.Range.{Grows}
use Rattle.hir_env.specs.Whole.{bounds_part}
use Rattle.hir_lower_callbacks.specs.ResolveCtxs.{rctx_at}
use Rattle.hir_lower_item.specs.Lower.{ask_each}
use Rattle.hir_lower_item.proofs.predicates.ask_each.Given as goal

abbrev pub invariant-loop-left : goal.invariant-loop-left
invariant-loop-left g l = let at = rctx_at (g.E.LowerEnv.answers l.env) l.place in record {
  so_far : ask_each l.binder l.target (bounds_part at l.fn.left) l.fn.state ≡ ask_each l.binder l.target (bounds_part at l.left) l.state;
  placed : Grows l.fn.state.stored l.state.stored;
}

abbrev pub decreases-loop-left : goal.decreases-loop-left
decreases-loop-left g l = length l.left
