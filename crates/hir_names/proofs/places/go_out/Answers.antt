use Rattle.hir_names.proofs.WayLemmas.{scope_left}
use Rattle.hir_names.proofs.places.go_out.Goals as goal

pub returns-clause-here : goal.returns-clause-here
returns-clause-here c =
    scope_left c.args.store.now c.args.scopes.now c.args.here c.parent.result c.args.stacks.now c.leave_scope.new.stacks
    c.parent.ensures.found c.leave_scope.ensures c.requires
