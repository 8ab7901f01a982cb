use Rattle.std.proofs.Common.{arith, ◌≡◌, ◌∙◌, ap, [], ◌∷◌, ◌++◌, length, reverse, cond, true}
use Rattle.std.proofs.lemmas.List.{length-reverse}
use Rattle.std.specs.BTreeMap.{is_at}
use Rattle.std.specs.BTreeSet.{contains}
use Rattle.hir_lower_scope.specs.ScopeRibs.{label_rib}
use Rattle.hir_lower_scope.specs.Depths.{by_key}
use Rattle.hir_lower_scope.specs.Stacks.{ribs_of, label_cmp}
use Rattle.hir_lower_scope.specs.declared.stacks.Opened.TheVariants as opened
use Rattle.hir_lower_scope.proofs.StackLemmas.{if_err, name_there, reverse_push, ribs_grown, sorted_grown, sorted_label, same_labels}
use Rattle.hir_lower_scope.proofs.stacks.LabelStacks.enter_label.Goals as goal

pub invariant_of-self-in_err-number : goal.invariant_of-self-in_err-number
invariant_of-self-in_err-number c =
    let i = c.self.inside in
    rw c.in_ok-reserve.ensures.items
    (sorted_grown i.names.entries c.number_for.new.names.entries c.number_for.ensures.grown i.labels i.macros
    (reverse i.opened.items) (reverse i.tries.items) (reverse i.barriers.items) c.self.invariant)

pub returns-in_err-number-clause-err : goal.returns-in_err-number-clause-err
returns-in_err-number-clause-err c =
    let i = c.self.inside in
    if_err c.from_residual-in_err-number.result
    (ap (λ os. ribs_of c.number_for.new.names.entries (reverse os)) c.in_ok-reserve.ensures.items
    ∙ (ribs_grown i.names.entries c.number_for.new.names.entries c.number_for.ensures.grown (reverse i.opened.items)
    c.self.invariant.numbered ∙ c.self.view_is))

pub invariant_of-self-in_err-insert : goal.invariant_of-self-in_err-insert
invariant_of-self-in_err-insert c =
    let i = c.self.inside in
    rw c.in_ok-reserve.ensures.items
    (same_labels c.number_for.new.names.entries i.labels c.insert.new.self i.macros (reverse i.opened.items) (reverse i.tries.items)
    (reverse i.barriers.items) c.in_err-insert.ensures.err
    (sorted_grown i.names.entries c.number_for.new.names.entries c.number_for.ensures.grown i.labels i.macros
    (reverse i.opened.items) (reverse i.tries.items) (reverse i.barriers.items) c.self.invariant))

pub returns-in_err-insert-clause-err : goal.returns-in_err-insert-clause-err
returns-in_err-insert-clause-err c =
    let i = c.self.inside in
    if_err c.from_residual-in_err-insert.result
    (ap (λ os. ribs_of c.number_for.new.names.entries (reverse os)) c.in_ok-reserve.ensures.items
    ∙ (ribs_grown i.names.entries c.number_for.new.names.entries c.number_for.ensures.grown (reverse i.opened.items)
    c.self.invariant.numbered ∙ c.self.view_is))

pub invariant_of-self-2 : goal.invariant_of-self-2
invariant_of-self-2 c =
    let i = c.self.inside in
    let k = c.in_ok-number.number in
    let deep : c.len-depth.result ≡ length (reverse i.opened.items) =
    omega (arith, c.len-depth.ensures, c.in_ok-reserve.ensures.len, i.opened.ok.0, length-reverse i.opened.items) in
    rw (
      c.push_reserved.ensures.items,
      c.in_ok-reserve.ensures.items,
      reverse_push i.opened.items (opened.Label k c.args.hygiene c.args.label),
    )
    (sorted_label c.number_for.new.names.entries i.labels i.macros (reverse i.opened.items) (reverse i.tries.items)
    (reverse i.barriers.items)
    (sorted_grown i.names.entries c.number_for.new.names.entries c.number_for.ensures.grown i.labels i.macros
    (reverse i.opened.items) (reverse i.tries.items) (reverse i.barriers.items) c.self.invariant)
    c.args.name k c.args.hygiene c.args.label c.in_ok-number.ensures.number c.insert.new.self
    (λ x. c.in_ok-insert.ensures.updates.0 x
    ∙ ap (λ d. cond (is_at (by_key label_cmp ((k, c.args.hygiene), d)) x) true (contains (by_key label_cmp) i.labels x)) deep))

pub returns-clause-ok : goal.returns-clause-ok
returns-clause-ok c =
    let i = c.self.inside in
    let k = c.in_ok-number.number in
    let names = c.number_for.new.names.entries in
    let os = reverse i.opened.items in
    let named = name_there names c.in_ok-number.ensures.grown.known c.args.name k c.in_ok-number.ensures.number in
    let opens = opened.Label k c.args.hygiene c.args.label in
    ap (λ os. ribs_of names (reverse os)) c.push_reserved.ensures.items
    ∙ (ap (λ os. ribs_of names (reverse (os ++ opens ∷ []))) c.in_ok-reserve.ensures.items
    ∙ (ap (ribs_of names) (reverse_push i.opened.items opens)
    ∙ (ap (λ n. label_rib n c.args.hygiene c.args.label ∷ ribs_of names os) named
    ∙ ap (λ rs. label_rib c.args.name c.args.hygiene c.args.label ∷ rs)
    (ribs_grown i.names.entries names c.number_for.ensures.grown os c.self.invariant.numbered ∙ c.self.view_is))))
