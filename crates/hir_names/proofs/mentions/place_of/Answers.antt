use Rattle.hir_names.proofs.AnswerLemmas.{not_named, not_scoped}
use Rattle.hir_names.proofs.mentions.place_of.Goals as goal

pub returns-in_default : goal.returns-in_default
returns-in_default c = λ none. not_named c.args.store.now c.args.scopes.now c.args.expr c.in_default.ensures

pub returns-in_default-scope_for : goal.returns-in_default-scope_for
returns-in_default-scope_for c =
    λ none. not_scoped c.args.store.now c.args.scopes.now c.args.expr c.in_default-scope_for.ensures
