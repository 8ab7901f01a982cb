use Rattle.hir_scopes.proofs.ChainLemmas.{opens_none}
use Rattle.hir_scopes.proofs.opening.open.Goals as goal

pub returns : goal.returns
returns c =
    opens_none c.args.scopes.now c.new_scope.new.self c.args.parent c.in_ok-id.id c.args.kind c.in_ok-id.ensures.id
    c.in_ok-id.ensures.scopes c.in_ok-id.ensures.entries c.in_ok-id.ensures.by_expr c.requires.within
