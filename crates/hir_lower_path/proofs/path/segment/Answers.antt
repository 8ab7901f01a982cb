use Rattle.std.proofs.Common.{arith}
use Rattle.std.proofs.lemmas.Grind.{common_steps}
use Rattle.hir_env.proofs.PathLevels.{segment_is_level}
use Rattle.hir_lower_path.proofs.path.segment.Goals as goal

pub segment_form-requires-clause-parts : goal.segment_form-requires-clause-parts
segment_form-requires-clause-parts g c = grind (arith, common_steps, segment_is_level)

pub returns-in-Some : goal.returns-in-Some
returns-in-Some g c = grind (arith, common_steps, segment_is_level)

pub returns-in-None : goal.returns-in-None
returns-in-None g c = grind (arith, common_steps)
