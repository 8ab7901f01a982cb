use Rattle.std.proofs.Common.{arith}
use Rattle.std.proofs.lemmas.Grind.{common_steps}
use Rattle.hir_lower_pat.proofs.AssigneeSteps.{target_lowers}
use Rattle.hir_lower_bind.proofs.targets.lower_target.Goals as goal

pub returns-in-Some : goal.returns-in-Some
returns-in-Some g c =
    target_lowers (g.P.LowerParts.rctx c.args.lowerer.now.parts) c.args.part.now _ _ c.args.state.now _ _
    c.in-Some.is c.get.ensures c.whole_target.ensures

pub returns-in-None : goal.returns-in-None
returns-in-None g c = grind (arith, common_steps)

pub whole_target-requires : goal.whole_target-requires
whole_target-requires g c = grind (arith, common_steps)
