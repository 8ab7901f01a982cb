use Rattle.std.proofs.lemmas.Grind.{common_steps}
use Rattle.std.proofs.Common.{rules, None, Ok, arith}
use Rattle.hir_lower_pat.proofs.AssigneeSteps.{part_lowers, partless_lowers}
use Rattle.hir_lower_bind.proofs.target_records.kept_field.Goals as goal

pub returns-in-None : goal.returns-in-None
returns-in-None g c =
    partless_lowers (g.T.Here.rctx c.args.parts.now) c.args.at c.args.name.now c.args.expr.now c.args.state.now (Ok None)
    c.args.state.now c.in-None.is (search rules)

pub returns-in-Some : goal.returns-in-Some
returns-in-Some g c =
    part_lowers (g.T.Here.rctx c.args.parts.now) c.args.at c.args.name.now c.args.expr.now _ _ c.args.state.now _ _
    c.in-Some.is c.get.ensures c.present_field.ensures

pub present_field-requires : goal.present_field-requires
present_field-requires g c = grind (arith, common_steps)
