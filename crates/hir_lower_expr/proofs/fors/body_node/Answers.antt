use Rattle.std.proofs.lemmas.Grind.{common_steps}
use Rattle.std.proofs.Common.{◌∙◌, ap, sym, arith}
use Rattle.hir_syntax.specs.declared.ast.BlockExpr.{out-BlockExpr}
use Rattle.hir_env.specs.Answering.{asked, site_of}
use Rattle.hir_env.specs.ResolveCtx.{ResolveCtx}
use Rattle.hir_env.specs.Whole.{pointer_at}
use Rattle.hir_env.proofs.Levels.{block_is_level, body_is_level}
use Rattle.hir_lower_expr.proofs.fors.body_node.Goals as goal

pub returns : goal.returns
returns g c =
    let at : ResolveCtx = g.P.LowerParts.rctx c.args.lowerer.now.parts in
    let level = out-BlockExpr c.args.node.now in
    let s = pointer_at at level.id level.range in
    let same = sym (ap (asked s (at.answers.cfg (site_of s))) (block_is_level at c.args.node.now)) in
    rw (body_is_level at c.args.node.now ∙ same) c.asked_body.ensures

pub asked_body-requires : goal.asked_body-requires
asked_body-requires g c = grind (arith, common_steps)
