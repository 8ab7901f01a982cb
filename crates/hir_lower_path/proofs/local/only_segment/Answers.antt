use Rattle.std.proofs.lemmas.Grind.{common_steps}
use Rattle.std.proofs.Common.{None, arith}
use Rattle.hir_lower_path.proofs.Rooted.{far_lowers}
use Rattle.hir_lower_path.proofs.local.only_segment.Goals as goal

pub returns-in-None : goal.returns-in-None
returns-in-None g c =
    far_lowers (g.P.LowerParts.rctx c.args.lowerer.now.parts) c.args.node.now c.args.leading c.args.walk _ c.at_first.ensures.value None
    c.args.state.now _ c.place.result c.local_root.result _ c.place.ensures c.local_root.ensures c.in-None.is c.segment_form.ensures

pub local_segment-requires-clause-parts : goal.local_segment-requires-clause-parts
local_segment-requires-clause-parts g c = grind (arith, common_steps)

pub segment_form-requires-clause-parts : goal.segment_form-requires-clause-parts
segment_form-requires-clause-parts g c = grind (arith, common_steps)

pub segment_form-requires-clause-walk : goal.segment_form-requires-clause-walk
segment_form-requires-clause-walk g c = grind (arith, common_steps)
