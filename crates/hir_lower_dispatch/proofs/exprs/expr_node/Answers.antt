use Rattle.std.proofs.lemmas.Grind.{common_steps}
use Rattle.std.proofs.Common.{arith, ◌∙◌, ap, subst, sym, Some}
use Rattle.std.specs.Option.{option_copied}
use Rattle.hir_syntax.specs.declared.ast.ExprKind.{out-ExprKind}
use Rattle.hir_store.specs.Range.{HasExprOption}
use Rattle.hir_env.specs.Whole.{asked_expr, pointer_at}
use Rattle.hir_lower_builder.specs.Lower.{lower_kept}
use Rattle.hir_lower_builder.specs.Lowering.{go_on, pure}
use Rattle.hir_lower_builder.specs.Methods.{MaybeLowersExpr}
use Rattle.hir_lower_builder.proofs.Kept.{kept_is_some}
use Rattle.hir_lower_expr.proofs.CallLemmas.{at_call, kids_call, no_call}
use Rattle.hir_lower_expr.proofs.RunLemmas.{refused}
use Rattle.hir_lower_dispatch.proofs.OfFamily.{disabled_on, enabled_is, nothing_kept}
use Rattle.hir_lower_dispatch.proofs.exprs.expr_node.Goals as goal

pub macro_form-requires : goal.macro_form-requires
macro_form-requires g c =
    let it = c.args.lowerer.now.parts in
    let call = sym c.call_of.ensures ∙ ap option_copied c.in-Some.is in
    kids_call (g.P.LowerParts.can it) (g.P.LowerParts.rctx it).place (out-ExprKind c.args.node.now.kind) _ call c.requires

pub expr_form-requires-clause-call : goal.expr_form-requires-clause-call
expr_form-requires-clause-call g c =
    no_call (out-ExprKind c.args.node.now.kind) (sym c.call_of.ensures ∙ ap option_copied c.in-None.is)

pub returns-in-Some : goal.returns-in-Some
returns-in-Some g c =
    let at = g.P.LowerParts.rctx c.args.lowerer.now.parts in
    let s = pointer_at at c.args.node.now.id c.args.node.now.range in
    let call = sym c.call_of.ensures ∙ ap option_copied c.in-Some.is in
    let ok = rw (c.site.ensures, c.pointer-at.ensures) at (sym c.cfg.ensures ∙ c.in-Ok.is) in
    subst (λ x. MaybeLowersExpr x c.args.state.now c.macro_form.result c.macro_form.new.state)
    (sym (enabled_is at c.args.node.now _ ok ∙ at_call at (out-ExprKind c.args.node.now.kind) s _ call))
    (rw c.pointer-at.ensures at c.macro_form.ensures)

pub returns-in_ok-expr_form-in-None : goal.returns-in_ok-expr_form-in-None
returns-in_ok-expr_form-in-None g c =
    let at = g.P.LowerParts.rctx c.args.lowerer.now.parts in
    let s = pointer_at at c.args.node.now.id c.args.node.now.range in
    let ok = rw (c.site.ensures, c.pointer-at.ensures) at (sym c.cfg.ensures ∙ c.in-Ok.is) in
    let k = out-ExprKind c.args.node.now.kind in
    let plain = no_call k (sym c.call_of.ensures ∙ ap option_copied c.in-None.is) in
    let kept = ap lower_kept (enabled_is at c.args.node.now _ ok) ∙ kept_is_some at k s plain in
    let h = c.in_ok-expr_form-in-None.ensures in
    ((λ i. kept i c.args.state.now) ∙ ap (λ z. go_on z.0 z.1 (λ id. pure (Some id))) h.0, h.1, h.2)

pub returns-in_err-expr_form-in-None : goal.returns-in_err-expr_form-in-None
returns-in_err-expr_form-in-None g c =
    let at = g.P.LowerParts.rctx c.args.lowerer.now.parts in
    let s = pointer_at at c.args.node.now.id c.args.node.now.range in
    let ok = rw (c.site.ensures, c.pointer-at.ensures) at (sym c.cfg.ensures ∙ c.in-Ok.is) in
    let k = out-ExprKind c.args.node.now.kind in
    let plain = no_call k (sym c.call_of.ensures ∙ ap option_copied c.in-None.is) in
    let kept = ap lower_kept (enabled_is at c.args.node.now _ ok) ∙ kept_is_some at k s plain in
    refused HasExprOption (lower_kept (asked_expr at c.args.node.now)) c.args.state.now _ c.from_residual-in_err-expr_form-in-None.result
    c.expr_form.new.state c.from_residual-in_err-expr_form-in-None.ensures.1
    (λ other. let h = c.in_err-expr_form-in-None.ensures other in
    ((λ i. kept i c.args.state.now) ∙ ap (λ z. go_on z.0 z.1 (λ id. pure (Some id))) h.0, h.1))

pub returns-in_ok-report_inactive-in-Err : goal.returns-in_ok-report_inactive-in-Err
returns-in_ok-report_inactive-in-Err g c =
    let at = g.P.LowerParts.rctx c.args.lowerer.now.parts in
    let err = rw (c.site.ensures, c.pointer-at.ensures) at (sym c.cfg.ensures ∙ c.in-Err.is) in
    let h = rw c.pointer-at.ensures at c.in_ok-report_inactive-in-Err.ensures in
    (disabled_on at c.args.node.now _ c.args.state.now err ∙ ap (λ z. go_on z.0 z.1 nothing_kept) h.0, h.1, omega arith)

pub returns-in_err-report_inactive-in-Err : goal.returns-in_err-report_inactive-in-Err
returns-in_err-report_inactive-in-Err g c =
    let at = g.P.LowerParts.rctx c.args.lowerer.now.parts in
    let err = rw (c.site.ensures, c.pointer-at.ensures) at (sym c.cfg.ensures ∙ c.in-Err.is) in
    let emitted = rw c.pointer-at.ensures at c.in_err-report_inactive-in-Err.ensures in
    refused HasExprOption (lower_kept (asked_expr at c.args.node.now)) c.args.state.now _ c.from_residual.result c.report_inactive.new.state
    c.from_residual.ensures.1
    (λ other. let h = emitted other in
    (disabled_on at c.args.node.now _ c.args.state.now err ∙ ap (λ z. go_on z.0 z.1 nothing_kept) h.0, h.1))

pub expr_form-requires-clause-parts : goal.expr_form-requires-clause-parts
expr_form-requires-clause-parts g c = grind (arith, common_steps)
