use Rattle.std.proofs.Common.{subst, sym}
use Rattle.hir_store.specs.declared.builder.ExpressionStoreBuilder.TheView.{view}
use Rattle.hir_store.specs.Stored.{Stored}
use Rattle.hir_store.specs.Range.{HasExpr}
use Rattle.hir_store.specs.FirstMap.{with_first_by}
use Rattle.hir_store.specs.StoreSink.{Extends, same_expr}
use Rattle.hir_store.proofs.Extending.{extends_field, extends_refl}
use Rattle.hir_store.proofs.Range.{range_field}
use Rattle.hir_store.proofs.builder.ExpressionStoreBuilder.point_field.Goals as goal

pub invariant_of-self-2 : goal.invariant_of-self-2
invariant_of-self-2 c =
    let s : Stored = view c.self.inside in
    let P : Stored → Type 0 = λ v. HasExpr v c.args.expr in
    rw c.in_ok-insert.ensures.ok
    (range_field s c.args.expr c.args.field c.self.invariant (subst P (sym c.self.view_is) c.requires))

pub returns-clause-stays : goal.returns-clause-stays
returns-clause-stays c =
    let s : Stored = view c.self.inside in
    let P : Stored → Type 0 = λ v.
    Extends v (record s { field_map_back = with_first_by same_expr s.field_map_back c.args.expr c.args.field }) in
    rw c.in_ok-insert.ensures.ok (subst P c.self.view_is (extends_field s c.args.expr c.args.field))

pub returns-in_err-insert-clause-stays : goal.returns-in_err-insert-clause-stays
returns-in_err-insert-clause-stays c =
    let s : Stored = view c.self.inside in
    let P : Stored → Type 0 = λ v. Extends v s in
    rw c.in_err-insert.ensures.err (subst P c.self.view_is (extends_refl s))
