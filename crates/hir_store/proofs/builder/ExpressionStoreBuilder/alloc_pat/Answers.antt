use Rattle.std.proofs.Common.{◌↔◌, IsErrOf, subst, sym}
use Rattle.hir_store.specs.declared.builder.ExpressionStoreBuilder.TheView.{view}
use Rattle.hir_store.specs.Arenas as sourced
use Rattle.hir_store.specs.Arenas.{AtLimit}
use Rattle.hir_store.specs.declared.error.StoreError.TheVariants.{Full}
use Rattle.hir_store.specs.Stored.{Stored}
use Rattle.hir_store.specs.Range.{HasPat, HasPatParts}
use Rattle.hir_store.specs.StoreSink.{Extends, Stores, alloc_pat, pat_id}
use Rattle.hir_store.proofs.Extending.{extends_pat}
use Rattle.hir_store.proofs.Range.{range_pat, stores_pat}
use Rattle.hir_store.proofs.builder.ExpressionStoreBuilder.alloc_pat.Goals as goal

pub invariant_of-self : goal.invariant_of-self
invariant_of-self c =
    let s : Stored = view c.self.inside in
    let P : Stored → Type 0 = λ v. HasPatParts v c.args.pat in
    range_pat s (sourced.alloc pat_id c.args.pat c.args.source) c.args.pat _ _ c.alloc.ensures.stored
    (subst P (sym c.self.view_is) c.requires) c.self.invariant

pub returns-clause-stored : goal.returns-clause-stored
returns-clause-stored c =
    let s : Stored = view c.self.inside in
    let P : Stored → Type 0 = λ v.
    Stores HasPat (alloc_pat c.args.pat c.args.source) v c.alloc.result (record s { pats = c.alloc.new.self }) in
    subst P c.self.view_is (stores_pat s c.args.pat c.args.source _ _ c.alloc.ensures.stored)

pub returns-clause-stays : goal.returns-clause-stays
returns-clause-stays c =
    let s : Stored = view c.self.inside in
    let P : Stored → Type 0 = λ v. Extends v (record s { pats = c.alloc.new.self }) in
    subst P c.self.view_is (extends_pat s (sourced.alloc pat_id c.args.pat c.args.source) c.args.pat _ _ c.alloc.ensures.stored)

pub returns-clause-full : goal.returns-clause-full
returns-clause-full c =
    let P : Stored → Type 0 = λ v. IsErrOf c.alloc.result Full ↔ AtLimit v.pats in
    subst P c.self.view_is c.alloc.ensures.full
