use Rattle.std.proofs.Common.{arith, subst, sym}
use Rattle.std.proofs.lemmas.Grind.{common_steps}
use Rattle.hir_env.specs.TypePats.{bare_part}
use Rattle.hir_env.specs.Whole.{pat_part}
use Rattle.hir_lower_builder.specs.Methods.{LowersTop}
use Rattle.hir_lower_bind.proofs.bare.bare_top.Goals as goal

pub returns-in-None : goal.returns-in-None
returns-in-None g c = grind (arith, common_steps)

pub returns-in-Some : goal.returns-in-Some
returns-in-Some g c =
    let at = g.P.LowerParts.rctx c.args.lowerer.now.parts in
    subst (λ q. LowersTop (bare_part (pat_part at q)) c.args.state.now c.whole_bare.result c.whole_bare.new.state) (sym c.in-Some.is)
    (rw c.get.ensures at c.whole_bare.ensures)

pub whole_bare-requires : goal.whole_bare-requires
whole_bare-requires g c = grind (arith, common_steps)
