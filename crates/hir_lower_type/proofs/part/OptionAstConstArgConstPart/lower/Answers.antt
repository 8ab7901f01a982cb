use Rattle.std.proofs.Common.{arith}
use Rattle.std.proofs.lemmas.Grind.{common_steps}
use Rattle.hir_lower_type.proofs.part.OptionAstConstArgConstPart.lower.Goals as goal

pub constant_or_missing-requires : goal.constant_or_missing-requires
constant_or_missing-requires g c = grind (arith, common_steps)

pub returns : goal.returns
returns g c = grind (arith, common_steps)
