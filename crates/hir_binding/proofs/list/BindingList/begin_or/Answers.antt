use Rattle.std.proofs.Common.{sym, ◌∙◌, ap, inl, inr}
use Rattle.hir_binding.specs.declared.seen.SeenNames.{SeenNames}
use Rattle.hir_binding.specs.Steps.{Set}
use Rattle.hir_binding.specs.Seen.{mark_of, set_of}
use Rattle.hir_binding.proofs.Places.{pushed_cases}
use Rattle.hir_binding.proofs.Lists.{sets_push, entered_is}
use Rattle.hir_binding.proofs.list.BindingList.begin_or.Goals as goal

pub invariant_of-self-2-clause-known_here : goal.invariant_of-self-2-clause-known_here
invariant_of-self-2-clause-known_here c = λ k h. absurd (h (ap (λ (s : SeenNames). mark_of s k) c.replace-around.ensures.after ∙ ap
    (λ (s : Set). s.mark) (c.new-first.ensures k)))

pub invariant_of-self-2-clause-known_around : goal.invariant_of-self-2-clause-known_around
invariant_of-self-2-clause-known_around c = λ i s k e h.
    let p = rw c.in_ok-reserve.ensures.items at c.push_reserved.ensures.items in
    elim (pushed_cases c.args.self.now.outer.items c.replace-around.result i s (rw p at e)) [
      | inl old ↦ c.args.self.now.known_around i s k old h
      | inr new ↦ c.args.self.now.known_here k (λ u. h (ap (λ (x : SeenNames). mark_of x k) (sym new ∙ c.replace-around.ensures.value) ∙ u))
    ]

pub returns-clause-tracked : goal.returns-clause-tracked
returns-clause-tracked c = λ k. entered_is _ _ (set_of c.args.self.now.here k) _ _ _
    (ap (λ (s : SeenNames). set_of s k) c.replace-around.ensures.after ∙ c.new-first.ensures k)
    (sets_push k c.args.self.now.outer.items c.push_reserved.new.self.items c.args.self.now.here
    (let p = rw c.in_ok-reserve.ensures.items at c.push_reserved.ensures.items in rw c.replace-around.ensures.value at p))
