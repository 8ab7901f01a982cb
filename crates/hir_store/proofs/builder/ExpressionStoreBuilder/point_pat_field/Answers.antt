use Rattle.std.proofs.lemmas.Grind.{common_steps}
use Rattle.std.proofs.Common.{subst, sym, arith}
use Rattle.hir_store.specs.declared.builder.ExpressionStoreBuilder.TheView.{view}
use Rattle.hir_store.specs.Stored.{Stored}
use Rattle.hir_store.specs.Range.{HasPat}
use Rattle.hir_store.specs.FirstMap.{with_first_by}
use Rattle.hir_store.specs.StoreSink.{Extends, same_pat, point_pat_field}
use Rattle.hir_store.proofs.Extending.{extends_pat_field, extends_refl}
use Rattle.hir_store.proofs.Range.{range_pat_field}
use Rattle.hir_store.proofs.builder.ExpressionStoreBuilder.point_pat_field.Goals as goal

pub invariant_of-self-2 : goal.invariant_of-self-2
invariant_of-self-2 c =
    let s : Stored = view c.self.inside in
    let P : Stored → Type 0 = λ v. HasPat v c.args.pat in
    rw c.in_ok-insert.ensures.ok
    (range_pat_field s c.args.pat c.args.field c.self.invariant (subst P (sym c.self.view_is) c.requires))

pub returns-clause-stays : goal.returns-clause-stays
returns-clause-stays c =
    let s : Stored = view c.self.inside in
    let P : Stored → Type 0 = λ v.
    Extends v (record s { pat_field_map_back = with_first_by same_pat s.pat_field_map_back c.args.pat c.args.field }) in
    rw c.in_ok-insert.ensures.ok (subst P c.self.view_is (extends_pat_field s c.args.pat c.args.field))

pub returns-in_err-insert-clause-stays : goal.returns-in_err-insert-clause-stays
returns-in_err-insert-clause-stays c =
    let s : Stored = view c.self.inside in
    let P : Stored → Type 0 = λ v. Extends v s in
    rw c.in_err-insert.ensures.err (subst P c.self.view_is (extends_refl s))

pub returns-clause-stored : goal.returns-clause-stored
unfolding point_pat_field
returns-clause-stored c = grind (arith, common_steps, extends_pat_field)

pub invariant_of-self : goal.invariant_of-self
unfolding point_pat_field
invariant_of-self c = grind (arith, common_steps, extends_pat_field)
