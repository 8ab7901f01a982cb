use Rattle.std.proofs.Common.{arith}
use Rattle.std.proofs.lemmas.Grind.{common_steps}
use Rattle.hir_lower_pat.proofs.AssigneeSteps.{spread_is}
use Rattle.hir_lower_bind.proofs.target_records.report_spread.Goals as goal

pub returns-in-None : goal.returns-in-None
returns-in-None g c = grind (arith, common_steps)

pub returns-in-Some : goal.returns-in-Some
returns-in-Some g c =
    rw (spread_is (g.H.Here.rctx c.args.parts.now) c.args.spread.now c.args.dots _ _ _ c.in-Some.is c.get.ensures c.pointer_of-node.ensures)
    c.report.ensures
