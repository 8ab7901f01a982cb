use Rattle.thm_type_result.proofs.Named.{body_bindings_came, expr_bindings_came, path_bindings_came, type_bindings_came}
use Rattle.thm_type_result.proofs.bindings_came.Goals as goal

pub returns-clause-exprs : goal.returns-clause-exprs
returns-clause-exprs c = expr_bindings_came

pub returns-clause-types : goal.returns-clause-types
returns-clause-types c = type_bindings_came

pub returns-clause-paths : goal.returns-clause-paths
returns-clause-paths c = path_bindings_came

pub returns-clause-bodies : goal.returns-clause-bodies
returns-clause-bodies c = body_bindings_came
