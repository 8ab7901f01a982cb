use Rattle.std.proofs.lemmas.Grind.{common_steps}
use Rattle.std.proofs.Common.{arith}
use Rattle.hir_lower_pat.proofs.paths.OptionBoxedAstPathPathPart.lower.Goals as goal

pub path_if_present-requires : goal.path_if_present-requires
path_if_present-requires g c = grind (arith, common_steps)

pub returns : goal.returns
returns g c = grind (arith, common_steps)
