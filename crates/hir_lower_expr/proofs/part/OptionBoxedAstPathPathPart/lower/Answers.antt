use Rattle.std.proofs.Common.{arith}
use Rattle.std.proofs.lemmas.Grind.{common_steps}
use Rattle.hir_lower_expr.proofs.part.OptionBoxedAstPathPathPart.lower.Goals as goal

pub returns : goal.returns
returns g c = grind (arith, common_steps)

pub path_if_present-requires : goal.path_if_present-requires
path_if_present-requires g c = grind (arith, common_steps)
