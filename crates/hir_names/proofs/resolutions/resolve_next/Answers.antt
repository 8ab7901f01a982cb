use Rattle.std.proofs.Common.{subst, sym}
use Rattle.hir_names.specs.Walk.{Resolved}
use Rattle.hir_names.proofs.AnswerLemmas.{one_more}
use Rattle.hir_names.proofs.resolutions.resolve_next.Goals as goal

pub returns-clause-answers : goal.returns-clause-answers
returns-clause-answers g c =
    λ rest resolved.
    subst (λ bs. Resolved c.args.store.now c.args.scopes.now (g.E.LowerEnv.answers c.args.env.now).contexts bs rest)
    (sym c.set_answer.ensures)
    (one_more c.args.store.now c.args.scopes.now (g.E.LowerEnv.answers c.args.env.now).contexts c.args.answers.now rest c.args.one
    c.in_ok-answer.answer.binding resolved c.in_ok-answer.ensures.means c.in_ok-answer.ensures.reads)
