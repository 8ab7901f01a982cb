use Rattle.std.proofs.Common.{arith}
use Rattle.std.proofs.lemmas.Grind.{common_steps}
use Rattle.hir_lower_expr.proofs.control.OptionAstElseBranchElsePart.lower.Goals as goal

pub returns-in-None : goal.returns-in-None
returns-in-None g c = grind (arith, common_steps)

pub returns-in_ok-else_branch-in-Some : goal.returns-in_ok-else_branch-in-Some
returns-in_ok-else_branch-in-Some g c = grind (arith, common_steps)

pub else_branch-requires : goal.else_branch-requires
else_branch-requires g c = grind (arith, common_steps)
