use Rattle.std.proofs.lemmas.Grind.{common_steps}
use Rattle.std.proofs.Common.{arith}
use Rattle.hir_env.proofs.PatLevels.{pat_field_is_level}
use Rattle.hir_lower_bind.proofs.records.field.Goals as goal

pub returns : goal.returns
returns g c = rw (pat_field_is_level (g.S.Here.rctx c.args.parts.now) c.args.node.now) c.field_form.ensures

pub field_form-requires-clause-part : goal.field_form-requires-clause-part
field_form-requires-clause-part g c = grind (arith, common_steps)
