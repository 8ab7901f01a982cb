use Rattle.std.proofs.Common.{arith}
use Rattle.std.proofs.lemmas.Grind.{common_steps}
use Rattle.hir_lower_type.proofs.limits.OptionBoxedAstPatLimitPart.end_limit.Goals as goal

pub returns-in-None : goal.returns-in-None
returns-in-None g c = grind (arith, common_steps)

pub returns-in-Some : goal.returns-in-Some
returns-in-Some g c = grind (arith, common_steps)

pub written_end-requires : goal.written_end-requires
written_end-requires g c = grind (arith, common_steps)
