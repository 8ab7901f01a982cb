use Rattle.thm_type_result.proofs.Named.{body_pats_once, expr_pats_once, path_pats_once, type_pats_once}
use Rattle.thm_type_result.proofs.pats_reached_once.Goals as goal

pub returns-clause-exprs : goal.returns-clause-exprs
returns-clause-exprs c = expr_pats_once

pub returns-clause-types : goal.returns-clause-types
returns-clause-types c = type_pats_once

pub returns-clause-paths : goal.returns-clause-paths
returns-clause-paths c = path_pats_once

pub returns-clause-bodies : goal.returns-clause-bodies
returns-clause-bodies c = body_pats_once
