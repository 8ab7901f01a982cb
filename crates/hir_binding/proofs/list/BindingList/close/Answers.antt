use Rattle.std.proofs.lemmas.List.{with_items_is}
use Rattle.hir_binding.specs.declared.list.Entry.{Entry}
use Rattle.std.proofs.Common.{List, Option, ◌∙◌, ap, arith, slice_get, length, option_map}
use Rattle.hir_binding.specs.declared.seen.SeenNames.{SeenNames}
use Rattle.hir_binding.specs.Seen.{mark_of, set_of}
use Rattle.hir_binding.specs.Entries.{ended_entry}
use Rattle.hir_binding.specs.Bindings.{mode_of, problem_of, tracked}
use Rattle.hir_binding.proofs.Places.{pushed_end, pushed_before}
use Rattle.hir_binding.proofs.Lists.{sets_push, mode_ended, problem_ended, closed, has_entry}
use Rattle.hir_binding.proofs.list.BindingList.close.Goals as goal

pub invariant_of-self-clause-known_here : goal.invariant_of-self-clause-known_here
invariant_of-self-clause-known_here c = λ k h.
    let t = c.take_last-around.ensures.items in
    c.args.self.now.known_around (length c.take_last-around.new.self.items) c.take_last-around.result k
    (rw t (pushed_end c.take_last-around.new.self.items c.take_last-around.result))
    (λ u. h (ap (λ (s : SeenNames). mark_of s k) c.replace.ensures.after ∙ u))

pub invariant_of-self-clause-known_around : goal.invariant_of-self-clause-known_around
invariant_of-self-clause-known_around c = λ i s k e h.
    let t = c.take_last-around.ensures.items in
    c.args.self.now.known_around i s k (rw t (pushed_before c.take_last-around.new.self.items c.take_last-around.result i s e)) h

pub returns-clause-tracked : goal.returns-clause-tracked
returns-clause-tracked c = λ k.
    let entry = ap (λ (l : List Entry). slice_get l k) (with_items_is c.args.self.now.entries c.end_alternative.new.entries
    (c.end_alternative.auto.entries ∙ c.as_mut_slice.ensures.len)) ∙
    (c.end_alternative.ensures k ∙ ap (λ (l : List Entry). option_map (ended_entry (mark_of c.args.self.now.here k)) (slice_get l k))
    c.as_mut_slice.ensures.value) in
    rw c.replace.ensures.value (closed (tracked c.args.self.now k) _ _ (set_of c.replace.new.dest k) _
    (ap (λ (o : Option Entry). mode_of o) entry ∙ mode_ended (mark_of c.args.self.now.here k) _)
    (ap (λ (o : Option Entry). problem_of o) entry ∙ problem_ended (mark_of c.args.self.now.here k) _
    (λ h. has_entry c.args.self.now.entries.items k (let i = c.args.self.now.known_here k h in let e =
    c.args.self.now.entries.ok.0 in omega arith)))
    (rw c.replace.ensures.after (sets_push k c.take_last-around.new.self.items c.args.self.now.outer.items c.take_last-around.result
    c.take_last-around.ensures.items)))
