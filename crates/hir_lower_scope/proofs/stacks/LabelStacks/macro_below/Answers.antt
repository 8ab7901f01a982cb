use Rattle.std.proofs.Common.{◌∙◌, sym, ap, Some}
use Rattle.std.specs.BTreeSet.{contains}
use Rattle.hir_lower_scope.specs.Depths.{by_key}
use Rattle.hir_lower_scope.specs.Ribs.{rib_at, is_outer}
use Rattle.hir_lower_scope.specs.Stacks.{macro_cmp}
use Rattle.hir_lower_scope.proofs.StackLemmas.{deepest_as}
use Rattle.hir_lower_scope.proofs.stacks.LabelStacks.macro_below.Goals as goal

pub returns : goal.returns
returns c =
    let i = c.self.inside in
    let d = c.in_ok-outer.field-0 in
    deepest_as (λ q. contains (by_key macro_cmp) i.macros (d, q)) (λ q. is_outer c.args.outer (rib_at q c.args.self.now))
    (λ q. c.self.invariant.macros d q
    ∙ (ap (λ rs. is_outer (Some d) (rib_at q rs)) c.self.view_is
    ∙ ap (λ o. is_outer o (rib_at q c.args.self.now)) (sym c.in_ok-outer.was)))
    c.args.below c.deepest.result c.deepest.ensures
