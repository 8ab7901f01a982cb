use Rattle.hir_lower_uses.proofs.Keeps.{valid}
use Rattle.hir_lower_uses.proofs.kept.lowered_again.Goals as goal

pub returns-then-still_holds-clause-now : goal.returns-then-still_holds-clause-now
returns-then-still_holds-clause-now g c = λ was covers. valid c.covered_alike.ensures.answers c.results_last_by_list.ensures.bodies
    (g.E.LowerEnv.answers c.args.env.now) c.args.item.now c.args.kept was covers (c.still_holds.ensures c.if-still_holds.true)
