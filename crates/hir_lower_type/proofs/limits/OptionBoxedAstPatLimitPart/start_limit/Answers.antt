use Rattle.std.proofs.Common.{arith}
use Rattle.std.proofs.lemmas.Grind.{common_steps}
use Rattle.hir_lower_pat.proofs.TypePats.{start_is_side}
use Rattle.hir_lower_type.proofs.limits.OptionBoxedAstPatLimitPart.start_limit.Goals as goal

pub returns-in-None : goal.returns-in-None
returns-in-None g c = grind (arith, common_steps, start_is_side)

pub returns-in-Some : goal.returns-in-Some
returns-in-Some g c = grind (arith, common_steps, start_is_side)

pub side_limit-requires : goal.side_limit-requires
side_limit-requires g c = grind (arith, common_steps)
