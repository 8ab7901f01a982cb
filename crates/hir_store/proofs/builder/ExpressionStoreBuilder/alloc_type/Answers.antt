use Rattle.std.proofs.Common.{◌↔◌, IsErrOf, subst, sym}
use Rattle.hir_store.specs.declared.builder.ExpressionStoreBuilder.TheView.{view}
use Rattle.hir_store.specs.Arenas.{AtLimit}
use Rattle.hir_store.specs.declared.error.StoreError.TheVariants.{Full}
use Rattle.hir_store.specs.Stored.{Stored}
use Rattle.hir_store.specs.Range.{HasType, HasTypeParts}
use Rattle.hir_store.specs.StoreSink.{Extends, Stores, alloc_type}
use Rattle.hir_store.proofs.Extending.{extends_type}
use Rattle.hir_store.proofs.Range.{range_type, stores_type}
use Rattle.hir_store.proofs.builder.ExpressionStoreBuilder.alloc_type.Goals as goal

pub invariant_of-self : goal.invariant_of-self
invariant_of-self c =
    let s : Stored = view c.self.inside in
    let P : Stored → Type 0 = λ v. HasTypeParts v c.args.ty in
    range_type s c.args.ty c.args.source _ _ c.alloc.ensures.stored (subst P (sym c.self.view_is) c.requires) c.self.invariant

pub returns-clause-stored : goal.returns-clause-stored
returns-clause-stored c =
    let s : Stored = view c.self.inside in
    let P : Stored → Type 0 = λ v.
    Stores HasType (alloc_type c.args.ty c.args.source) v c.alloc.result (record s { types = c.alloc.new.self }) in
    subst P c.self.view_is (stores_type s c.args.ty c.args.source _ _ c.alloc.ensures.stored)

pub returns-clause-stays : goal.returns-clause-stays
returns-clause-stays c =
    let s : Stored = view c.self.inside in
    let P : Stored → Type 0 = λ v. Extends v (record s { types = c.alloc.new.self }) in
    subst P c.self.view_is (extends_type s c.args.ty c.args.source _ _ c.alloc.ensures.stored)

pub returns-clause-full : goal.returns-clause-full
returns-clause-full c =
    let P : Stored → Type 0 = λ v. IsErrOf c.alloc.result Full ↔ AtLimit v.types in
    subst P c.self.view_is c.alloc.ensures.full
