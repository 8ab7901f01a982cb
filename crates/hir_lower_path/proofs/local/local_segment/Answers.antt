use Rattle.std.proofs.lemmas.Grind.{common_steps}
use Rattle.std.proofs.Common.{sym, arith}
use Rattle.hir_lower_path.proofs.Rooted.{other_segment_lowers, trait_segment_lowers, traitless_segment_lowers}
use Rattle.hir_lower_path.proofs.local.local_segment.Goals as goal

pub returns-in-None : goal.returns-in-None
returns-in-None g c =
    traitless_segment_lowers (g.P.LowerParts.rctx c.args.lowerer.now.parts) c.args.node.now c.args.leading c.args.walk _
    c.at_first-walk.ensures.value c.args.root c.args.state.now _ _ _ _ c.in-None.is c.is_bare_segment-bare.ensures
    c.segment_form.ensures c.if_read.ensures

pub returns-then-is_qualified : goal.returns-then-is_qualified
returns-then-is_qualified g c =
    trait_segment_lowers (g.P.LowerParts.rctx c.args.lowerer.now.parts) c.args.node.now c.args.leading c.args.walk _
    c.at_first-walk.ensures.value c.args.root c.args.state.now _ _ _ c.in-Some.is (sym c.if-is_qualified.ensures)
    c.local_qualified.ensures

pub returns-else-is_qualified : goal.returns-else-is_qualified
returns-else-is_qualified g c =
    other_segment_lowers (g.P.LowerParts.rctx c.args.lowerer.now.parts) c.args.node.now c.args.leading c.args.walk _
    c.at_first-walk.ensures.value c.args.root c.args.state.now _ _ _ _ (sym c.if-is_qualified.ensures)
    c.is_bare_segment-bare.ensures c.segment_form-else-is_qualified.ensures c.if_read-else-is_qualified.ensures

pub local_qualified-requires-clause-parts : goal.local_qualified-requires-clause-parts
local_qualified-requires-clause-parts g c = grind (arith, common_steps)

pub segment_form-requires-clause-parts : goal.segment_form-requires-clause-parts
segment_form-requires-clause-parts g c = grind (arith, common_steps)

pub local_qualified-requires-clause-walk : goal.local_qualified-requires-clause-walk
local_qualified-requires-clause-walk g c = grind (arith, common_steps)

pub segment_form-requires-else-is_qualified-clause-walk : goal.segment_form-requires-else-is_qualified-clause-walk
segment_form-requires-else-is_qualified-clause-walk g c = grind (arith, common_steps)

pub segment_form-requires-else-is_qualified-clause-parts : goal.segment_form-requires-else-is_qualified-clause-parts
segment_form-requires-else-is_qualified-clause-parts g c = grind (arith, common_steps)

pub segment_form-requires-clause-walk : goal.segment_form-requires-clause-walk
segment_form-requires-clause-walk g c = grind (arith, common_steps)
