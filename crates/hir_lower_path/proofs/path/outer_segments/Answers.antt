use Rattle.std.proofs.lemmas.Grind.{common_steps}
use Rattle.std.proofs.Common.{arith}
use Rattle.hir_lower_path.proofs.Rooted.{outer_lowers}
use Rattle.hir_lower_path.proofs.path.outer_segments.Goals as goal

pub returns-in-Some : goal.returns-in-Some
returns-in-Some g c =
    outer_lowers (g.P.LowerParts.rctx c.args.lowerer.now.parts) _ c.args.outer.now _ _ c.args.walk c.args.state.now _ _ c.in-Some.is
    c.get.ensures c.place-place.ensures c.read_path.ensures

pub returns-in-None : goal.returns-in-None
returns-in-None g c = grind (arith, common_steps)

pub read_path-requires-clause-part : goal.read_path-requires-clause-part
read_path-requires-clause-part g c = grind (arith, common_steps)
