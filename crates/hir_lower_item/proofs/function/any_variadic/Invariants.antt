use Rattle.std.proofs.Common.{◌≡◌, length}
use Rattle.hir_lower_callbacks.specs.ResolveCtxs.{rctx_at}
use Rattle.hir_lower_item.specs.Answering.{arguments_of}
use Rattle.hir_lower_item.specs.Lower.{any_variadic}
use Rattle.hir_lower_item.proofs.function.any_variadic.Given as goal

abbrev pub invariant-loop-left : goal.invariant-loop-left
invariant-loop-left g l = let at = rctx_at (g.E.LowerEnv.answers l.env) l.place in
    any_variadic (arguments_of at l.def l.fn.left) ≡ any_variadic (arguments_of at l.def l.left)

abbrev pub decreases-loop-left : goal.decreases-loop-left
decreases-loop-left g l = length l.left
