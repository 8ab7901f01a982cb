use Rattle.std.proofs.Common.{◌∙◌, sym}
use Rattle.hir_names.proofs.BodyLemmas.{begun, fewer_left, next_expr, none_left}
use Rattle.hir_names.proofs.upvars.exprs_inside.Goals as goal

pub loop-expr-init : goal.loop-expr-init
loop-expr-init c = begun _ c.new-exprs.result c.new-exprs.ensures

pub loop-expr-preserved : goal.loop-expr-preserved
loop-expr-preserved c = c.loop-expr.invariant
    ∙ next_expr c.args.store.now c.loop-expr.left c.pop.new.self c.add_parts.new.left c.as_slice.result.now c.loop-expr.exprs
    c.push.new.self c.in-Some.expr c.in-Some.ensures c.in_ok-push.ensures.ok (c.as_slice.ensures ∙ c.in_ok-parts.ensures)
    (c.in_ok-add_parts.ensures c.args.store.now)

pub loop-expr-smaller : goal.loop-expr-smaller
loop-expr-smaller c =
    fewer_left c.args.store.now c.loop-expr.left c.pop.new.self c.add_parts.new.left c.as_slice.result.now c.in-Some.expr
    c.in-Some.ensures (c.as_slice.ensures ∙ c.in_ok-parts.ensures) (c.in_ok-add_parts.ensures c.args.store.now)

pub returns : goal.returns
returns c = sym (c.loop-expr.invariant ∙ none_left c.args.store.now c.loop-expr.left c.loop-expr.exprs c.in_default.ensures.0)
