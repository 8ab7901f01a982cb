use Rattle.std.proofs.Common.{arith}
use Rattle.std.proofs.lemmas.Grind.{common_steps}
use Rattle.hir_lower_pat.proofs.AssigneeSteps.{paren_lowers}
use Rattle.hir_lower_bind.proofs.targets.paren_assignee.Goals as goal

pub returns-in-Some : goal.returns-in-Some
returns-in-Some g c =
    paren_lowers (g.T.Here.rctx c.args.parts.now) c.args.call c.args.at c.args.expr.now _ _ c.args.state.now _ _ c.in-Some.is c.get.ensures
    c.paren_around.ensures

pub returns-in-None : goal.returns-in-None
returns-in-None g c = grind (arith, common_steps)

pub paren_around-requires : goal.paren_around-requires
paren_around-requires g c = grind (arith, common_steps)
