use Rattle.std.proofs.Common.{◌∙◌, sym}
use Rattle.hir_env.proofs.Pointers.{pointer_is_own}
use Rattle.hir_lower_pat.proofs.assignees.AstExprTargetNode.pointer.Goals as goal

pub returns : goal.returns
returns g c = c.pointer_of.ensures ∙ sym (pointer_is_own (g.H.Here.rctx c.args.parts.now) c.args.self.now)
