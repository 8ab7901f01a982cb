use Rattle.std.proofs.lemmas.Grind.{common_steps}
use Rattle.std.proofs.Common.{arith}
use Rattle.hir_env.proofs.Levels.{arm_is_level}
use Rattle.hir_lower_expr.proofs.matches.arm.Goals as goal

pub returns : goal.returns
returns g c = rw (arm_is_level (g.P.LowerParts.rctx c.args.lowerer.now.parts) c.args.node.now) c.arm_form.ensures

pub arm_form-requires : goal.arm_form-requires
arm_form-requires g c = grind (arith, common_steps)
