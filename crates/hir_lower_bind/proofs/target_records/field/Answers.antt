use Rattle.std.proofs.lemmas.Grind.{common_steps}
use Rattle.std.proofs.Common.{arith}
use Rattle.hir_env.proofs.Levels.{field_is_level}
use Rattle.hir_lower_bind.proofs.target_records.field.Goals as goal

pub returns : goal.returns
returns g c = rw (field_is_level (g.T.Here.rctx c.args.parts.now) c.args.node.now) c.field_form.ensures

pub field_form-requires : goal.field_form-requires
field_form-requires g c = grind (arith, common_steps)
