use Rattle.hir_walks.specs.Pats.{bindings_in}
use Rattle.hir_scopes.proofs.ChainLemmas.{opens_added}
use Rattle.hir_scopes.proofs.opening.open_pat.Goals as goal

pub returns : goal.returns
returns c =
    opens_added c.args.scopes.now c.add_pat_bindings.new.scopes c.new_binding_scope.new.self c.args.parent c.in_ok-id.id
    (bindings_in c.args.store.now c.args.pat) c.entries_len-start.result c.in_ok-add_pat_bindings.ensures c.entries_len-start.ensures
    c.in_ok-id.ensures.id c.in_ok-id.ensures.scopes c.in_ok-id.ensures.entries c.in_ok-id.ensures.by_expr
