use Rattle.std.proofs.Common.{arith}
use Rattle.std.proofs.lemmas.Grind.{common_steps}
use Rattle.hir_lower_bind.proofs.sides.name_side.Goals as goal

pub returns-in_ok-alloc_expr-in-Some : goal.returns-in_ok-alloc_expr-in-Some
returns-in_ok-alloc_expr-in-Some g c = grind (arith, common_steps)
