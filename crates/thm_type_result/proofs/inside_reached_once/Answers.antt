use Rattle.thm_type_result.proofs.Inside.{expr_inside, path_inside, type_inside}
use Rattle.thm_type_result.proofs.InsideBody.{body_inside}
use Rattle.thm_type_result.proofs.inside_reached_once.Goals as goal

pub returns-clause-exprs : goal.returns-clause-exprs
returns-clause-exprs c = expr_inside

pub returns-clause-types : goal.returns-clause-types
returns-clause-types c = type_inside

pub returns-clause-paths : goal.returns-clause-paths
returns-clause-paths c = path_inside

pub returns-clause-bodies : goal.returns-clause-bodies
returns-clause-bodies c = body_inside
