use Rattle.std.proofs.Common.{◌∙◌, sym}
use Rattle.hir_env.proofs.Pointers.{pointer_is_own}
use Rattle.hir_lower_expr.proofs.fors.node_of.Goals as goal

pub returns : goal.returns
returns g c = c.own_node.ensures ∙ sym (pointer_is_own (g.P.LowerParts.rctx c.args.lowerer.now.parts) c.args.node.now)
