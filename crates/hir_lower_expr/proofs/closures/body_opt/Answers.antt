use Rattle.std.proofs.Common.{◌∙◌, ap, subst, sym}
use Rattle.hir_env.specs.Paths.{inside_closure}
use Rattle.hir_env.specs.declared.ctx.LowerCtx.{LowerCtx}
use Rattle.hir_lower_expr.proofs.closures.body_opt.Goals as goal

pub lower_inside-requires : goal.lower_inside-requires
lower_inside-requires g c =
    let claims = g.P.LowerParts.can c.args.lowerer.now.parts in
    let May : LowerCtx → Type 0 = λ at. g.E.ExprPart.can_inside claims at c.args.body.now in
    subst May (sym (c.inside_closure.ensures ∙ ap (inside_closure c.args.is_async) c.place.ensures)) c.requires

pub returns : goal.returns
returns g c = rw (c.inside_closure.ensures, c.place.ensures) at c.lower_inside.ensures
