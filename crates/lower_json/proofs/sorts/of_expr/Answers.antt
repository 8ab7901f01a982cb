use Rattle.std.proofs.lemmas.Grind.{common_steps}
use Rattle.std.proofs.Common.{arith}
use Rattle.lower_json.proofs.ByKind.{is_flow, is_plain, is_branching, is_operation, is_member, is_leaving, is_typed, is_partless}
use Rattle.lower_json.proofs.Firsts.{by_group}
use Rattle.lower_json.proofs.sorts.of_expr.Goals as goal

pub returns-in-LoopExpr : goal.returns-in-LoopExpr
returns-in-LoopExpr g c = by_group (is_flow _ _ c.in-LoopExpr.is) c.flow.ensures

pub returns-in-CallExpr : goal.returns-in-CallExpr
returns-in-CallExpr g c = by_group (is_plain _ _ c.in-CallExpr.is) c.plain.ensures

pub returns-in-LetExpr : goal.returns-in-LetExpr
returns-in-LetExpr g c = by_group (is_branching _ _ c.in-LetExpr.is) c.branching.ensures

pub returns-in-PrefixExpr : goal.returns-in-PrefixExpr
returns-in-PrefixExpr g c = by_group (is_operation _ _ c.in-PrefixExpr.is) c.operation.ensures

pub returns-in-MethodCallExpr : goal.returns-in-MethodCallExpr
returns-in-MethodCallExpr g c = by_group (is_member _ _ c.in-MethodCallExpr.is) c.member.ensures

pub returns-in-ReturnExpr : goal.returns-in-ReturnExpr
returns-in-ReturnExpr g c = by_group (is_leaving _ _ c.in-ReturnExpr.is) c.leaving.ensures

pub returns-in-CastExpr : goal.returns-in-CastExpr
returns-in-CastExpr g c = by_group (is_typed _ _ c.in-CastExpr.is) c.typed.ensures

pub returns-in-CfgPredExpr : goal.returns-in-CfgPredExpr
returns-in-CfgPredExpr g c = by_group (is_partless _ _ c.in-CfgPredExpr.is) c.partless.ensures

pub leaving-requires : goal.leaving-requires
leaving-requires g c = grind (arith, common_steps)

pub branching-requires : goal.branching-requires
branching-requires g c = grind (arith, common_steps)

pub member-requires : goal.member-requires
member-requires g c = grind (arith, common_steps)

pub operation-requires : goal.operation-requires
operation-requires g c = grind (arith, common_steps)

pub flow-requires : goal.flow-requires
flow-requires g c = grind (arith, common_steps)

pub typed-requires : goal.typed-requires
typed-requires g c = grind (arith, common_steps)

pub plain-requires : goal.plain-requires
plain-requires g c = grind (arith, common_steps)
