use Rattle.std.proofs.Common.{◌∙◌, ◌≡◌, sym, ap, Some}
use Rattle.std.specs.BTreeSet.{contains}
use Rattle.hir_lower_scope.specs.Depths.{by_key}
use Rattle.hir_lower_scope.specs.Ribs.{rib_at, is_label}
use Rattle.hir_lower_scope.specs.Stacks.{number_of, label_cmp, is_marked}
use Rattle.hir_lower_scope.proofs.StackLemmas.{deepest_as}
use Rattle.hir_lower_scope.proofs.stacks.LabelStacks.label_below.Goals as goal

pub returns : goal.returns
returns c =
    let i = c.self.inside in
    let name = c.args.name.now in
    let h = c.args.hygiene in
    let k = c.in_ok-number.field-0.now in
    let number : number_of name i.names.entries ≡ Some k = sym c.in_ok-number.ensures.value in
    deepest_as (λ q. contains (by_key label_cmp) i.labels ((k, h), q)) (λ q. is_label name h (rib_at q c.args.self.now))
    (λ q. ap (λ o. is_marked i.labels o h q) (sym number)
    ∙ (c.self.invariant.labels name h q ∙ ap (λ rs. is_label name h (rib_at q rs)) c.self.view_is))
    c.args.below c.deepest.result c.deepest.ensures
