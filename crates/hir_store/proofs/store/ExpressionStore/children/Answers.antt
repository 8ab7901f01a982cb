use Rattle.std.proofs.lemmas.Grind.{common_steps}
use Rattle.std.proofs.Common.{◌∙◌, ◌≤◌, ap, length, subst, sym, arith}
use Rattle.hir_store.specs.declared.store.ExpressionStore.TheView.{view}
use Rattle.hir_store.specs.Arenas.{past}
use Rattle.hir_store.specs.Children.{children_of}
use Rattle.hir_store.specs.Range.{past_expr}
use Rattle.hir_store.specs.Stored.{Store}
use Rattle.hir_store.proofs.ChildLemmas.{children_exist}
use Rattle.hir_store.proofs.store.ExpressionStore.children.Goals as goal

pub returns-clause-in_range : goal.returns-clause-in_range
returns-clause-in_range c =
    let s : Store = view c.self.inside in
    let P : Store → Type 0 = λ v. past past_expr c.of_present.result ≤ length v.exprs in
    let named = c.of_present.ensures ∙ ap children_of c.get.ensures in
    subst P c.self.view_is
    (subst (λ ids. past past_expr ids ≤ length s.exprs) (sym named) (children_exist s c.args.id.0 c.self.invariant))

pub returns-clause-named : goal.returns-clause-named
returns-clause-named c = grind (arith, common_steps, children_exist)
