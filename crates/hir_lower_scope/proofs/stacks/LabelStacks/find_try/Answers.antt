use Rattle.std.proofs.Common.{◌∙◌, ap, sym, reverse}
use Rattle.hir_lower_scope.specs.Ribs.{last_try, past_barrier, tries_of}
use Rattle.hir_lower_scope.proofs.WalkLemmas.{try_found}
use Rattle.hir_lower_scope.proofs.stacks.LabelStacks.find_try.Goals as goal

pub returns : goal.returns
returns c = c.last_try.ensures
    ∙ (ap (λ ts. last_try c.barrier.result (reverse ts)) c.as_slice.ensures.value
    ∙ (ap (λ b. last_try b (reverse c.self.inside.tries.items)) c.barrier.ensures
    ∙ (ap (λ ts. last_try (past_barrier c.args.self.now) ts) c.self.invariant.tries
    ∙ (ap (λ rs. last_try (past_barrier c.args.self.now) (tries_of rs)) c.self.view_is ∙ sym (try_found c.args.self.now)))))
