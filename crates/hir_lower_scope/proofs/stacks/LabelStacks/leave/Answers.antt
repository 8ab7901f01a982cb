use Rattle.std.proofs.Common.{◌≡◌, ◌∙◌, ap, subst, ◌∷◌, reverse, arith, length, cond, false}
use Rattle.std.proofs.lemmas.List.{length-reverse}
use Rattle.std.specs.BTreeMap.{is_at}
use Rattle.std.specs.BTreeSet.{contains}
use Rattle.std.specs.Vec.{vec_len}
use Rattle.hir_lower_scope.specs.Depths.{by_key}
use Rattle.hir_lower_scope.specs.Stacks.{Sorted, label_cmp, macro_cmp}
use Rattle.hir_lower_scope.specs.declared.stacks.Opened.TheVariants as opened
use Rattle.hir_lower_scope.proofs.StackLemmas.{reverse_push, without_last, sorted_unlabel, sorted_unmacro, sorted_untry, sorted_unborder}
use Rattle.hir_lower_scope.proofs.stacks.LabelStacks.leave.Goals as goal

pub invariant_of-self-in-Some-Label : goal.invariant_of-self-in-Some-Label
invariant_of-self-in-Some-Label c =
    let i = c.self.inside in
    let left = reverse c.pop.new.self.items in
    let k = c.in-Some-Label.number in
    let h = c.in-Some-Label.hygiene in
    let os : reverse i.opened.items ≡ opened.Label k h c.in-Some-Label.field-0-2 ∷ left =
    ap reverse c.in-Some-Label.ensures.items
    ∙ (reverse_push c.pop.new.self.items c.in-Some-Label.field-0 ∙ ap (λ o. o ∷ left) c.in-Some-Label.field-0-is) in
    let deep : c.len.result ≡ length left = omega (arith, c.len.ensures, length-reverse c.pop.new.self.items) in
    sorted_unlabel i.names.entries i.labels i.macros left (reverse i.tries.items) (reverse i.barriers.items) k h c.in-Some-Label.field-0-2
    (subst (λ os. Sorted i.names.entries i.labels i.macros os (reverse i.tries.items) (reverse i.barriers.items)) os c.self.invariant)
    c.remove.new.self
    (λ x. c.remove.ensures.updates.0 x
    ∙ ap (λ d. cond (is_at (by_key label_cmp ((k, h), d)) x) false (contains (by_key label_cmp) i.labels x)) deep)

pub invariant_of-self-in-Some-MacroDef : goal.invariant_of-self-in-Some-MacroDef
invariant_of-self-in-Some-MacroDef c =
    let i = c.self.inside in
    let left = reverse c.pop.new.self.items in
    let d = c.in-Some-MacroDef.def in
    let os : reverse i.opened.items ≡ opened.MacroDef d ∷ left =
    ap reverse c.in-Some-MacroDef.ensures.items
    ∙ (reverse_push c.pop.new.self.items c.in-Some-MacroDef.field-0 ∙ ap (λ o. o ∷ left) c.in-Some-MacroDef.field-0-is) in
    let deep : c.len-in-Some-MacroDef.result ≡ length left =
    omega (arith, c.len-in-Some-MacroDef.ensures, length-reverse c.pop.new.self.items) in
    sorted_unmacro i.names.entries i.labels i.macros left (reverse i.tries.items) (reverse i.barriers.items) d
    (subst (λ os. Sorted i.names.entries i.labels i.macros os (reverse i.tries.items) (reverse i.barriers.items)) os c.self.invariant)
    c.remove-in-Some-MacroDef.new.self
    (λ x. c.remove-in-Some-MacroDef.ensures.updates.0 x
    ∙ ap (λ l. cond (is_at (by_key macro_cmp (d, l)) x) false (contains (by_key macro_cmp) i.macros x)) deep)

pub invariant_of-self-in-Some-Try : goal.invariant_of-self-in-Some-Try
invariant_of-self-in-Some-Try c =
    let i = c.self.inside in
    let left = reverse c.pop.new.self.items in
    let a = c.in-Some-Try.field-0-0 in
    let typed = c.in-Some-Try.field-0-1 in
    let os : reverse i.opened.items ≡ opened.Try a typed ∷ left =
    ap reverse c.in-Some-Try.ensures.items
    ∙ (reverse_push c.pop.new.self.items c.in-Some-Try.field-0 ∙ ap (λ o. o ∷ left) c.in-Some-Try.field-0-is) in
    let long = i.tries.ok.0 in
    rw (without_last c.pop-in-Some-Try.result i.tries.items c.pop-in-Some-Try.new.self.items (vec_len i.tries)
    (vec_len c.pop-in-Some-Try.new.self) (omega (arith, long)) c.pop-in-Some-Try.ensures.cases c.pop-in-Some-Try.ensures.items)
    (sorted_untry i.names.entries i.labels i.macros left (reverse i.tries.items) (reverse i.barriers.items) a typed
    (subst (λ os. Sorted i.names.entries i.labels i.macros os (reverse i.tries.items) (reverse i.barriers.items)) os c.self.invariant))

pub invariant_of-self-in-Some-Barrier : goal.invariant_of-self-in-Some-Barrier
invariant_of-self-in-Some-Barrier c =
    let i = c.self.inside in
    let left = reverse c.pop.new.self.items in
    let os : reverse i.opened.items ≡ opened.Barrier ∷ left =
    ap reverse c.in-Some-Barrier.ensures.items
    ∙ (reverse_push c.pop.new.self.items c.in-Some-Barrier.field-0 ∙ ap (λ o. o ∷ left) c.in-Some-Barrier.field-0-is) in
    let long = i.barriers.ok.0 in
    rw (without_last c.pop-in-Some-Barrier.result i.barriers.items c.pop-in-Some-Barrier.new.self.items (vec_len i.barriers)
    (vec_len c.pop-in-Some-Barrier.new.self) (omega (arith, long)) c.pop-in-Some-Barrier.ensures.cases
    c.pop-in-Some-Barrier.ensures.items)
    (sorted_unborder i.names.entries i.labels i.macros left (reverse i.tries.items) (reverse i.barriers.items)
    (subst (λ os. Sorted i.names.entries i.labels i.macros os (reverse i.tries.items) (reverse i.barriers.items)) os c.self.invariant))
