use Rattle.std.proofs.lemmas.Grind.{common_steps}
use Rattle.std.proofs.Common.{arith}
use Rattle.hir_lower_builder.proofs.parts.Lowerer.constant_or_missing.Goals as goal

pub collect_constant-requires : goal.collect_constant-requires
collect_constant-requires c = grind (arith, common_steps)

pub returns-in-Some : goal.returns-in-Some
returns-in-Some c = grind (arith, common_steps)

pub collect_constant-requires-in-Some : goal.collect_constant-requires-in-Some
collect_constant-requires-in-Some c = grind (arith, common_steps)

pub returns-in-None : goal.returns-in-None
returns-in-None c = grind (arith, common_steps)
