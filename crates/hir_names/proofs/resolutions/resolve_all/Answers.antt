use Rattle.std.proofs.Common.{◌∙◌, sym, subst}
use Rattle.hir_names.specs.Walk.{Resolved}
use Rattle.hir_names.proofs.AnswerLemmas.{all_left, all_mean}
use Rattle.hir_names.proofs.resolutions.resolve_all.Goals as goal

pub resolve_each-requires : goal.resolve_each-requires
resolve_each-requires g c =
    subst (Resolved c.args.store.now c.args.scopes.now (g.E.LowerEnv.answers c.args.env.now).contexts c.in_ok-by_expr.by_expr)
    (sym c.as_slice.ensures.value)
    (all_left c.args.store.now c.args.scopes.now (g.E.LowerEnv.answers c.args.env.now).contexts c.in_ok-by_expr.by_expr
    c.in_ok-names.names.items (c.in_ok-by_expr.ensures.exprs ∙ c.exprs_len.ensures) c.in_ok-by_expr.ensures.none c.in_ok-names.ensures)

pub returns-clause-means : goal.returns-clause-means
returns-clause-means g c =
    all_mean c.args.store.now c.args.scopes.now (g.E.LowerEnv.answers c.args.env.now).contexts c.resolve_each.new.answers
    c.in_ok-resolve_each.ensures

pub returns-clause-reads : goal.returns-clause-reads
returns-clause-reads g c = c.in_ok-resolve_each.ensures.reads
