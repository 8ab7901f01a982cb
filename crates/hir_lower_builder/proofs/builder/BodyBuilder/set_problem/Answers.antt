use Rattle.std.proofs.lemmas.Grind.{common_steps}
use Rattle.std.proofs.Common.{arith}
use Rattle.hir_store.proofs.BindingLemmas.{length_at}
use Rattle.hir_lower_builder.specs.Lowering.{set_problem}
use Rattle.hir_lower_builder.proofs.builder.BodyBuilder.set_problem.Goals as goal

pub invariant_of-self : goal.invariant_of-self
unfolding set_problem
invariant_of-self g c = grind (arith, common_steps, length_at)

pub set_problem-requires : goal.set_problem-requires
unfolding set_problem
set_problem-requires g c = grind (arith, common_steps, length_at)
