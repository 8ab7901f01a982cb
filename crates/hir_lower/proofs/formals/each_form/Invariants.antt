use Rattle.std.proofs.Common.{◌≡◌, length, []}
use Rattle.hir_store.specs.Range.{Grows, HasPats}
use Rattle.hir_env.specs.Formals.{formals_part}
use Rattle.hir_lower.specs.Formals.{each_formal}
use Rattle.hir_lower_callbacks.specs.ResolveCtxs.{rctx_at}
use Rattle.hir_lower.proofs.formals.each_form.Given as goal

abbrev pub invariant-loop-left : goal.invariant-loop-left
invariant-loop-left g l = let at = rctx_at (g.E.LowerEnv.answers l.env) l.place in record {
  so_far : each_formal l.skipped [] (formals_part at l.bare l.fn.left) l.fn.state
      ≡ each_formal l.skipped l.pats (formals_part at l.bare l.left) l.state;
  placed : Grows l.fn.state.stored l.state.stored × HasPats l.state.stored l.pats;
}

abbrev pub decreases-loop-left : goal.decreases-loop-left
decreases-loop-left g l = length l.left
