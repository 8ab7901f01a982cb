use Rattle.std.proofs.lemmas.Grind.{common_steps}
use Rattle.std.proofs.Common.{arith}
use Rattle.hir_env.proofs.PatLevels.{pat_is_level}
use Rattle.hir_lower_builder.specs.Methods.{at_place}
use Rattle.hir_lower_type.proofs.limits.AstPatLimitNode.side.Goals as goal

pub returns : goal.returns
returns g c =
    rw (pat_is_level (at_place (g.P.LowerParts.rctx c.args.lowerer.now.parts) c.args.place) c.args.self.now) c.side_form.ensures

pub side_form-requires : goal.side_form-requires
side_form-requires g c = grind (arith, common_steps)
