use Rattle.std.proofs.lemmas.Grind.{common_steps}
use Rattle.std.proofs.Common.{subst, arith}
use Rattle.hir_store.specs.declared.builder.ExpressionStoreBuilder.TheView.{view}
use Rattle.hir_store.specs.Bindings.{with_problem}
use Rattle.hir_store.specs.Stored.{Stored}
use Rattle.hir_store.specs.StoreSink.{Extends, set_problem}
use Rattle.hir_store.proofs.Extending.{extends_problem}
use Rattle.hir_store.proofs.Range.{range_problem}
use Rattle.hir_store.proofs.builder.ExpressionStoreBuilder.set_problem.Goals as goal

pub invariant_of-self : goal.invariant_of-self
invariant_of-self c =
    let s : Stored = view c.self.inside in
    rw c.set_problem.ensures (range_problem s c.args.binding c.args.problem c.self.invariant)

pub returns-clause-stays : goal.returns-clause-stays
returns-clause-stays c =
    let s : Stored = view c.self.inside in
    let P : Stored → Type 0 = λ v. Extends v (record s { bindings = with_problem s.bindings c.args.binding c.args.problem }) in
    rw c.set_problem.ensures (subst P c.self.view_is (extends_problem s c.args.binding c.args.problem))

pub returns-clause-stored : goal.returns-clause-stored
unfolding set_problem
returns-clause-stored c = grind (arith, common_steps, extends_problem)

pub set_problem-requires : goal.set_problem-requires
unfolding set_problem
set_problem-requires c = grind (arith, common_steps, extends_problem)
