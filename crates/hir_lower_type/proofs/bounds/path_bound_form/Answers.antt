use Rattle.std.proofs.Common.{arith}
use Rattle.std.proofs.lemmas.Grind.{common_steps}
use Rattle.hir_lower_builder.specs.Types.{path_bound_form}
use Rattle.hir_lower_type.proofs.bounds.path_bound_form.Goals as goal

pub alloc_type-requires : goal.alloc_type-requires
unfolding path_bound_form
alloc_type-requires g c = grind (arith, common_steps)

pub trait_path-requires : goal.trait_path-requires
unfolding path_bound_form
trait_path-requires g c = grind (arith, common_steps)

pub returns-in_default : goal.returns-in_default
unfolding path_bound_form
returns-in_default g c = grind (arith, common_steps)
