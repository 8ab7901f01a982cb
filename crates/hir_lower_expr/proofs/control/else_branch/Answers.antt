use Rattle.std.proofs.lemmas.Grind.{common_steps}
use Rattle.std.proofs.Common.{arith}
use Rattle.hir_env.proofs.Levels.{else_is_level}
use Rattle.hir_lower_expr.proofs.control.else_branch.Goals as goal

pub returns : goal.returns
returns g c = rw (else_is_level (g.P.LowerParts.rctx c.args.lowerer.now.parts) c.args.part.now) c.else_node.ensures

pub else_node-requires : goal.else_node-requires
else_node-requires g c = grind (arith, common_steps)
