use Rattle.std.proofs.Common.{arith}
use Rattle.std.proofs.lemmas.Grind.{common_steps}
use Rattle.hir_lower_expr.proofs.records.spread.Goals as goal

pub returns-else-dots : goal.returns-else-dots
returns-else-dots g c = grind (arith, common_steps)

pub returns-then-dots : goal.returns-then-dots
returns-then-dots g c = grind (arith, common_steps)

pub collect_expr-requires : goal.collect_expr-requires
collect_expr-requires g c = grind (arith, common_steps)

pub returns-in_ok-collect_expr-in-Some : goal.returns-in_ok-collect_expr-in-Some
returns-in_ok-collect_expr-in-Some g c = grind (arith, common_steps)
