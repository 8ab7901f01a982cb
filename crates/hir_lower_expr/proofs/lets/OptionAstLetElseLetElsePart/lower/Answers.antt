use Rattle.std.proofs.Common.{arith}
use Rattle.std.proofs.lemmas.Grind.{common_steps}
use Rattle.hir_lower_expr.proofs.lets.OptionAstLetElseLetElsePart.lower.Goals as goal

pub returns-in-None-2 : goal.returns-in-None-2
returns-in-None-2 g c = grind (arith, common_steps)

pub collect_block-requires : goal.collect_block-requires
collect_block-requires g c = grind (arith, common_steps)

pub returns-in_ok-collect_block-in-Some-Some : goal.returns-in_ok-collect_block-in-Some-Some
returns-in_ok-collect_block-in-Some-Some g c = grind (arith, common_steps)

pub returns-in-None : goal.returns-in-None
returns-in-None g c = grind (arith, common_steps)
