use Rattle.std.proofs.lemmas.Grind.{common_steps}
use Rattle.std.proofs.Common.{arith}
use Rattle.hir_lower_builder.proofs.walk.drop_last_self.Goals as goal

pub returns-then-goes : goal.returns-then-goes
returns-then-goes c = grind (arith, common_steps)
