use Rattle.std.proofs.Common.{subst, sym}
use Rattle.indexmap.specs.IndexMap.{insert_entry}
use Rattle.hir_store.specs.declared.builder.ExpressionStoreBuilder.TheView.{view}
use Rattle.hir_store.specs.Pointers.{same_pointer}
use Rattle.hir_store.specs.Stored.{Stored}
use Rattle.hir_store.specs.Range.{HasPat}
use Rattle.hir_store.specs.StoreSink.{Extends}
use Rattle.hir_store.proofs.Extending.{extends_point_target, extends_refl}
use Rattle.hir_store.proofs.Range.{range_target}
use Rattle.hir_store.proofs.builder.ExpressionStoreBuilder.point_target.Goals as goal

pub invariant_of-self-2 : goal.invariant_of-self-2
invariant_of-self-2 c =
    let s : Stored = view c.self.inside in
    let P : Stored → Type 0 = λ v. HasPat v c.args.id in
    rw c.in_ok-insert.ensures.ok
    (range_target s c.args.node c.args.id c.self.invariant (subst P (sym c.self.view_is) c.requires))

pub returns-clause-stays : goal.returns-clause-stays
returns-clause-stays c =
    let s : Stored = view c.self.inside in
    let P : Stored → Type 0 = λ v.
    Extends v (record s { target_map = insert_entry same_pointer s.target_map c.args.node c.args.id }) in
    rw c.in_ok-insert.ensures.ok (subst P c.self.view_is (extends_point_target s c.args.node c.args.id))

pub returns-in_err-insert-clause-stays : goal.returns-in_err-insert-clause-stays
returns-in_err-insert-clause-stays c =
    let s : Stored = view c.self.inside in
    let P : Stored → Type 0 = λ v. Extends v s in
    rw c.in_err-insert.ensures.err (subst P c.self.view_is (extends_refl s))
