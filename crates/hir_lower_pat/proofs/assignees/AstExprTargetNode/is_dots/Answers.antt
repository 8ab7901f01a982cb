use Rattle.std.proofs.Common.{◌∙◌, sym}
use Rattle.hir_lower_pat.proofs.AssigneeLemmas.{dots_are}
use Rattle.hir_lower_pat.proofs.assignees.AstExprTargetNode.is_dots.Goals as goal

pub returns : goal.returns
returns g c = c.is_dots_kind.ensures ∙ sym (dots_are (g.H.Here.rctx c.args.parts.now) c.args.self.now)
