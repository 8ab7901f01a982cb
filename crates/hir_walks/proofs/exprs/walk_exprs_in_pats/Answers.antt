use Rattle.std.proofs.Common.{arith, ◌∙◌, ap, refl, sym}
use Rattle.hir_walks.specs.Pats.{pats_in_all}
use Rattle.hir_walks.specs.Exprs.{expr_pats, exprs_at}
use Rattle.hir_walks.proofs.PatLemmas.{taken_within}
use Rattle.hir_walks.proofs.exprs.walk_exprs_in_pats.Goals as goal

pub returns : goal.returns
returns g c =
    let walked = c.in_ok-walk_expr_pats.ensures
    ∙ taken_within (λ b. b.sink.now) (λ b v. record b { sink = record b.sink { now = v } }) g.S.ExprSink.after
    (exprs_at c.args.store.now) _ (pats_in_all c.args.store.now (expr_pats c.args.expr.now)) _ refl (λ v i. refl) in
    let same = sym (ap (λ b. b.sink.ghost_name) walked) in
    let new = ap (λ b. b.sink.now) walked in
    grind (arith, same, new)
