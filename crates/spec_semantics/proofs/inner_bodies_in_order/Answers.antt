use Rattle.spec_semantics.proofs.Inner.{types_in_order, paths_in_order, exprs_in_order, patterns_in_order, stored_in_order}
use Rattle.spec_semantics.proofs.inner_bodies_in_order.Goals as goal

pub returns-clause-types : goal.returns-clause-types
returns-clause-types c = types_in_order

pub returns-clause-paths : goal.returns-clause-paths
returns-clause-paths c = paths_in_order

pub returns-clause-exprs : goal.returns-clause-exprs
returns-clause-exprs c = exprs_in_order

pub returns-clause-patterns : goal.returns-clause-patterns
returns-clause-patterns c = patterns_in_order

pub returns-clause-stored : goal.returns-clause-stored
returns-clause-stored c = stored_in_order
