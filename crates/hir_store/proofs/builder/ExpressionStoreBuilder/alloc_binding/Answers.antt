use Rattle.std.proofs.Common.{◌↔◌, IsErrOf, subst}
use Rattle.hir_store.specs.declared.builder.ExpressionStoreBuilder.TheView.{view}
use Rattle.hir_store.specs.Bindings.{BindingsAtLimit}
use Rattle.hir_store.specs.declared.error.StoreError.TheVariants.{Full}
use Rattle.hir_store.specs.Stored.{Stored}
use Rattle.hir_store.specs.Range.{HasBindingId}
use Rattle.hir_store.specs.StoreSink.{Extends, Stores, alloc_binding}
use Rattle.hir_store.proofs.Extending.{extends_binding}
use Rattle.hir_store.proofs.Range.{range_binding, stores_binding}
use Rattle.hir_store.proofs.builder.ExpressionStoreBuilder.alloc_binding.Goals as goal

pub invariant_of-self : goal.invariant_of-self
invariant_of-self c =
    let s : Stored = view c.self.inside in
    range_binding s c.args.binding _ _ c.alloc.ensures.stored c.self.invariant

pub returns-clause-stored : goal.returns-clause-stored
returns-clause-stored c =
    let s : Stored = view c.self.inside in
    let P : Stored → Type 0 = λ v.
    Stores HasBindingId (alloc_binding c.args.binding) v c.alloc.result (record s { bindings = c.alloc.new.self }) in
    subst P c.self.view_is (stores_binding s c.args.binding _ _ c.alloc.ensures.stored)

pub returns-clause-stays : goal.returns-clause-stays
returns-clause-stays c =
    let s : Stored = view c.self.inside in
    let P : Stored → Type 0 = λ v. Extends v (record s { bindings = c.alloc.new.self }) in
    subst P c.self.view_is (extends_binding s c.args.binding _ _ c.alloc.ensures.stored)

pub returns-clause-full : goal.returns-clause-full
returns-clause-full c =
    let P : Stored → Type 0 = λ v. IsErrOf c.alloc.result Full ↔ BindingsAtLimit v.bindings in
    subst P c.self.view_is c.alloc.ensures.full
