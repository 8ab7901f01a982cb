use Rattle.thm_type_result.proofs.Named.{body_types_once, expr_types_once, path_types_once}
use Rattle.thm_type_result.proofs.named_types_reached_once.Goals as goal

pub returns-clause-paths : goal.returns-clause-paths
returns-clause-paths c = path_types_once

pub returns-clause-exprs : goal.returns-clause-exprs
returns-clause-exprs c = expr_types_once

pub returns-clause-bodies : goal.returns-clause-bodies
returns-clause-bodies c = body_types_once
