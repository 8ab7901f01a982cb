use Rattle.std.proofs.Common.{arith}
use Rattle.std.proofs.lemmas.Grind.{common_steps}
use Rattle.hir_lower_expr.proofs.part.OptionAstGenericArgListGenericsPart.lower.Goals as goal

pub returns : goal.returns
returns g c = grind (arith, common_steps)

pub args_if_present-requires : goal.args_if_present-requires
args_if_present-requires g c = grind (arith, common_steps)
