use Rattle.std.proofs.lemmas.Grind.{common_steps}
use Rattle.std.proofs.Common.{subst, arith}
use Rattle.hir_store.specs.declared.builder.ExpressionStoreBuilder.TheView.{view}
use Rattle.hir_store.specs.Stored.{Stored}
use Rattle.hir_store.specs.StoreSink.{Extends, point_pat}
use Rattle.hir_store.specs.Arenas.{with_mapping}
use Rattle.hir_store.proofs.Extending.{extends_point_pat, extends_refl}
use Rattle.hir_store.proofs.builder.ExpressionStoreBuilder.point_pat.Goals as goal

pub returns-clause-stays : goal.returns-clause-stays
returns-clause-stays c =
    let s : Stored = view c.self.inside in
    let P : Stored → Type 0 = λ v. Extends v (record s { pats = with_mapping s.pats c.args.node c.args.id }) in
    rw c.in_ok-point.ensures.ok (subst P c.self.view_is (extends_point_pat s c.args.node c.args.id))

pub returns-in_err-point-clause-stays : goal.returns-in_err-point-clause-stays
returns-in_err-point-clause-stays c =
    let s : Stored = view c.self.inside in
    let P : Stored → Type 0 = λ v. Extends v s in
    rw c.in_err-point.ensures.unchanged (subst P c.self.view_is (extends_refl s))

pub returns-in_err-point-clause-stored : goal.returns-in_err-point-clause-stored
unfolding point_pat
returns-in_err-point-clause-stored c = grind (arith, common_steps, extends_point_pat)

pub invariant_of-self-2 : goal.invariant_of-self-2
unfolding point_pat
invariant_of-self-2 c = grind (arith, common_steps, extends_point_pat)

pub point-requires : goal.point-requires
unfolding point_pat
point-requires c = grind (arith, common_steps, extends_point_pat)

pub returns-clause-stored : goal.returns-clause-stored
unfolding point_pat
returns-clause-stored c = grind (arith, common_steps, extends_point_pat)

pub invariant_of-self : goal.invariant_of-self
unfolding point_pat
invariant_of-self c = grind (arith, common_steps, extends_point_pat)
