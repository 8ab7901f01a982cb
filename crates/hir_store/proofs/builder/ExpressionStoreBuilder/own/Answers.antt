use Rattle.std.proofs.lemmas.Grind.{common_steps}
use Rattle.std.proofs.Common.{subst, sym, arith}
use Rattle.hir_store.specs.declared.builder.ExpressionStoreBuilder.TheView.{view}
use Rattle.hir_store.specs.Bindings.{with_owner}
use Rattle.hir_store.specs.Stored.{Stored}
use Rattle.hir_store.specs.Range.{HasExpr}
use Rattle.hir_store.specs.StoreSink.{Extends, own}
use Rattle.hir_store.proofs.Extending.{extends_owner}
use Rattle.hir_store.proofs.Range.{range_owner}
use Rattle.hir_store.proofs.builder.ExpressionStoreBuilder.own.Goals as goal

pub invariant_of-self : goal.invariant_of-self
invariant_of-self c =
    let s : Stored = view c.self.inside in
    let P : Stored → Type 0 = λ v. HasExpr v c.args.owner in
    rw c.own.ensures (range_owner s c.args.start c.args.owner c.self.invariant (subst P (sym c.self.view_is) c.requires))

pub returns-clause-stays : goal.returns-clause-stays
returns-clause-stays c =
    let s : Stored = view c.self.inside in
    let P : Stored → Type 0 = λ v. Extends v (record s { bindings = with_owner s.bindings c.args.start c.args.owner }) in
    rw c.own.ensures (subst P c.self.view_is (extends_owner s c.args.start c.args.owner))

pub returns-clause-stored : goal.returns-clause-stored
unfolding own
returns-clause-stored c = grind (arith, common_steps, extends_owner)
