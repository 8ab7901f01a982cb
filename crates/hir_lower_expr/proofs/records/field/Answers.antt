use Rattle.std.proofs.lemmas.Grind.{common_steps}
use Rattle.std.proofs.Common.{arith}
use Rattle.hir_env.proofs.Levels.{field_is_level}
use Rattle.hir_lower_expr.proofs.records.field.Goals as goal

pub returns : goal.returns
returns g c = rw (field_is_level (g.P.LowerParts.rctx c.args.lowerer.now.parts) c.args.node.now) c.field_form.ensures

pub field_form-requires : goal.field_form-requires
field_form-requires g c = grind (arith, common_steps)
