use Rattle.std.proofs.lemmas.Grind.{common_steps}
use Rattle.std.proofs.Common.{arith}
use Rattle.hir_lower_builder.proofs.parts.Lowerer.collect_expr_if_present.Goals as goal

pub returns-in-None : goal.returns-in-None
returns-in-None g c = grind (arith, common_steps)

pub returns-in_ok-collect_expr-in-Some : goal.returns-in_ok-collect_expr-in-Some
returns-in_ok-collect_expr-in-Some g c = grind (arith, common_steps)

pub collect_expr-requires : goal.collect_expr-requires
collect_expr-requires g c = grind (arith, common_steps)
