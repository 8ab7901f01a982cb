use Rattle.std.proofs.lemmas.Grind.{common_steps}
use Rattle.std.proofs.Common.{[], ◌∷◌, ◌++◌, subst, arith}
use Rattle.hir_store.specs.declared.builder.ExpressionStoreBuilder.TheView.{view}
use Rattle.hir_store.specs.Stored.{Stored}
use Rattle.hir_store.specs.StoreSink.{Extends, enter_block}
use Rattle.hir_store.proofs.Extending.{extends_block, extends_refl}
use Rattle.hir_store.proofs.builder.ExpressionStoreBuilder.enter_block.Goals as goal

pub returns-clause-stays : goal.returns-clause-stays
returns-clause-stays c =
    let s : Stored = view c.self.inside in
    let P : Stored → Type 0 = λ v. Extends v (record s { block_scopes = s.block_scopes ++ c.args.block ∷ [] }) in
    rw c.in_ok-push.ensures.ok (subst P c.self.view_is (extends_block s c.args.block))

pub returns-in_err-push-clause-stays : goal.returns-in_err-push-clause-stays
returns-in_err-push-clause-stays c =
    let s : Stored = view c.self.inside in
    let P : Stored → Type 0 = λ v. Extends v s in
    rw c.in_err-push.ensures.err (subst P c.self.view_is (extends_refl s))

pub invariant_of-self : goal.invariant_of-self
unfolding enter_block
invariant_of-self c = grind (arith, common_steps, extends_block)

pub returns-clause-stored : goal.returns-clause-stored
unfolding enter_block
returns-clause-stored c = grind (arith, common_steps, extends_block)

pub invariant_of-self-2 : goal.invariant_of-self-2
unfolding enter_block
invariant_of-self-2 c = grind (arith, common_steps, extends_block)
