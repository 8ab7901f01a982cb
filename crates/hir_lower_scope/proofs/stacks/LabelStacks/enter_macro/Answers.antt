use Rattle.std.proofs.Common.{arith, ◌≡◌, ◌∙◌, ap, length, reverse, cond, true}
use Rattle.std.proofs.lemmas.List.{length-reverse}
use Rattle.std.specs.BTreeMap.{is_at}
use Rattle.std.specs.BTreeSet.{contains}
use Rattle.hir_lower_scope.specs.Depths.{by_key}
use Rattle.hir_lower_scope.specs.Stacks.{macro_cmp}
use Rattle.hir_lower_scope.specs.declared.stacks.Opened.TheVariants as opened
use Rattle.hir_lower_scope.proofs.StackLemmas.{reverse_push, sorted_macro}
use Rattle.hir_lower_scope.proofs.stacks.LabelStacks.enter_macro.Goals as goal

pub invariant_of-self-2 : goal.invariant_of-self-2
invariant_of-self-2 c =
    let i = c.self.inside in
    let deep : c.len-depth.result ≡ length (reverse i.opened.items) =
    omega (arith, c.len-depth.ensures, c.in_ok-reserve.ensures.len, i.opened.ok.0, length-reverse i.opened.items) in
    rw (c.push_reserved.ensures.items, c.in_ok-reserve.ensures.items, reverse_push i.opened.items (opened.MacroDef c.args.def))
    (sorted_macro i.names.entries i.labels i.macros (reverse i.opened.items) (reverse i.tries.items) (reverse i.barriers.items)
    c.self.invariant c.args.def c.insert.new.self
    (λ x. c.in_ok-insert.ensures.updates.0 x
    ∙ ap (λ d. cond (is_at (by_key macro_cmp (c.args.def, d)) x) true (contains (by_key macro_cmp) i.macros x)) deep))
