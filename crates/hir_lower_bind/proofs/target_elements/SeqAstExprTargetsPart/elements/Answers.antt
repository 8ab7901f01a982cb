use Rattle.std.proofs.Common.{arith}
use Rattle.std.proofs.lemmas.Grind.{common_steps}
use Rattle.hir_env.specs.Whole.{exprs_part}
use Rattle.hir_lower_pat.specs.Assignees.{found_at}
use Rattle.hir_lower_pat.proofs.TargetLists.{elements_lower}
use Rattle.hir_lower_bind.proofs.target_elements.SeqAstExprTargetsPart.elements.Goals as goal

pub returns : goal.returns
returns g c =
    let rctx = g.T.Here.rctx c.args.parts.now in
    elements_lower (found_at rctx) (exprs_part rctx c.args.self.now) c.args.state.now _ _ (rw c.as_slice.ensures at c.each_element.ensures)

pub each_element-requires : goal.each_element-requires
each_element-requires g c = grind (arith, common_steps)
