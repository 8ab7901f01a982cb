use Rattle.std.proofs.lemmas.Grind.{common_steps}
use Rattle.std.proofs.Common.{arith}
use Rattle.hir_lower_builder.specs.Paths.{with_trait}
use Rattle.hir_lower_path.proofs.path.trait_form.Goals as goal

pub returns-in-None : goal.returns-in-None
unfolding with_trait
returns-in-None g c = grind (arith, common_steps)

pub projected_form-requires-clause-path : goal.projected_form-requires-clause-path
unfolding with_trait
projected_form-requires-clause-path g c = grind (arith, common_steps)

pub trait_path-requires : goal.trait_path-requires
unfolding with_trait
trait_path-requires g c = grind (arith, common_steps)

pub projected_form-requires-clause-ty : goal.projected_form-requires-clause-ty
unfolding with_trait
projected_form-requires-clause-ty g c = grind (arith, common_steps)
