use Rattle.std.proofs.Common.{◌↔◌, IsErrOf, subst, sym}
use Rattle.hir_store.specs.declared.builder.ExpressionStoreBuilder.TheView.{view}
use Rattle.hir_store.specs.Arenas as sourced
use Rattle.hir_store.specs.Arenas.{AtLimit}
use Rattle.hir_store.specs.declared.error.StoreError.TheVariants.{Full}
use Rattle.hir_store.specs.Stored.{Stored}
use Rattle.hir_store.specs.Range.{HasExpr, HasParts}
use Rattle.hir_store.specs.StoreSink.{Extends, Stores, alloc_desugared, expr_id}
use Rattle.hir_store.proofs.Extending.{extends_expr}
use Rattle.hir_store.proofs.Range.{range_expr, stores_made}
use Rattle.hir_store.proofs.builder.ExpressionStoreBuilder.alloc_desugared.Goals as goal

pub invariant_of-self : goal.invariant_of-self
invariant_of-self c =
    let s : Stored = view c.self.inside in
    let P : Stored → Type 0 = λ v. HasParts v c.args.expr in
    range_expr s (sourced.alloc_desugared expr_id c.args.expr c.args.source) c.args.expr _ _ c.alloc_desugared.ensures.stored
    (subst P (sym c.self.view_is) c.requires) c.self.invariant

pub returns-clause-stored : goal.returns-clause-stored
returns-clause-stored c =
    let s : Stored = view c.self.inside in
    let P : Stored → Type 0 = λ v.
    Stores HasExpr (alloc_desugared c.args.expr c.args.source) v c.alloc_desugared.result
    (record s { exprs = c.alloc_desugared.new.self }) in
    subst P c.self.view_is (stores_made s c.args.expr c.args.source _ _ c.alloc_desugared.ensures.stored)

pub returns-clause-stays : goal.returns-clause-stays
returns-clause-stays c =
    let s : Stored = view c.self.inside in
    let P : Stored → Type 0 = λ v. Extends v (record s { exprs = c.alloc_desugared.new.self }) in
    subst P c.self.view_is (extends_expr s (sourced.alloc_desugared expr_id c.args.expr c.args.source) c.args.expr _ _
    c.alloc_desugared.ensures.stored)

pub returns-clause-full : goal.returns-clause-full
returns-clause-full c =
    let P : Stored → Type 0 = λ v. IsErrOf c.alloc_desugared.result Full ↔ AtLimit v.exprs in
    subst P c.self.view_is c.alloc_desugared.ensures.full
