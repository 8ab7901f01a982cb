use Rattle.std.proofs.lemmas.Grind.{common_steps}
use Rattle.std.proofs.Common.{arith}
use Rattle.hir_lower_builder.proofs.parts.Lowerer.cut_alias.Goals as goal

pub returns-in_default-names_in : goal.returns-in_default-names_in
returns-in_default-names_in c = grind (arith, common_steps)

pub returns-in-None : goal.returns-in-None
returns-in-None c = grind (arith, common_steps)
