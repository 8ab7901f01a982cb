use Rattle.std.proofs.lemmas.Grind.{common_steps}
use Rattle.std.proofs.Common.{arith}
use Rattle.hir_env.proofs.PatLevels.{pat_is_level}
use Rattle.hir_lower_bind.proofs.sides.present_side.Goals as goal

pub returns : goal.returns
returns g c = rw (pat_is_level (g.H.Here.rctx c.args.parts.now) c.args.node.now) c.side_form.ensures

pub side_form-requires : goal.side_form-requires
side_form-requires g c = grind (arith, common_steps)
