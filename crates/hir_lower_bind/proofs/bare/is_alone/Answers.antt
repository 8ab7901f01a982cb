use Rattle.std.proofs.lemmas.Grind.{common_steps}
use Rattle.std.proofs.Common.{arith}
use Rattle.hir_lower_bind.proofs.bare.is_alone.Goals as goal

pub returns-else-not-is_ref : goal.returns-else-not-is_ref
returns-else-not-is_ref c = grind (arith, common_steps)

pub returns-in-Some : goal.returns-in-Some
returns-in-Some c = grind (arith, common_steps)

pub returns-then-not-is_ref : goal.returns-then-not-is_ref
returns-then-not-is_ref c = grind (arith, common_steps)
