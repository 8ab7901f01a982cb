use Rattle.std.proofs.Common.{subst}
use Rattle.hir_store.specs.declared.builder.ExpressionStoreBuilder.TheView.{view}
use Rattle.hir_store.specs.Stored.{Stored}
use Rattle.hir_store.specs.StoreSink.{Extends}
use Rattle.hir_store.specs.Arenas.{with_mapping}
use Rattle.hir_store.proofs.Extending.{extends_point_type, extends_refl}
use Rattle.hir_store.proofs.builder.ExpressionStoreBuilder.point_type.Goals as goal

pub returns-clause-stays : goal.returns-clause-stays
returns-clause-stays c =
    let s : Stored = view c.self.inside in
    let P : Stored → Type 0 = λ v. Extends v (record s { types = with_mapping s.types c.args.node c.args.id }) in
    rw c.in_ok-point.ensures.ok (subst P c.self.view_is (extends_point_type s c.args.node c.args.id))

pub returns-in_err-point-clause-stays : goal.returns-in_err-point-clause-stays
returns-in_err-point-clause-stays c =
    let s : Stored = view c.self.inside in
    let P : Stored → Type 0 = λ v. Extends v s in
    rw c.in_err-point.ensures.unchanged (subst P c.self.view_is (extends_refl s))
