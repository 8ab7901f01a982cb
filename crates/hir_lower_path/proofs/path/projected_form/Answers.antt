use Rattle.std.proofs.lemmas.Grind.{common_steps}
use Rattle.std.proofs.Common.{arith}
use Rattle.hir_lower_path.proofs.path.projected_form.Goals as goal

pub alloc_type-requires : goal.alloc_type-requires
alloc_type-requires g c = grind (arith, common_steps)
