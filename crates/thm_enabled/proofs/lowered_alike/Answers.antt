use Rattle.thm_enabled.proofs.BodySteps.{bodies_lowered}
use Rattle.thm_enabled.proofs.Lowered.{bodies_kept, exprs_kept, paths_kept, types_kept}
use Rattle.thm_enabled.proofs.lowered_alike.Goals as goal

pub returns-clause-types : goal.returns-clause-types
returns-clause-types c = types_kept c.whole_lists.ensures.types

pub returns-clause-paths : goal.returns-clause-paths
returns-clause-paths c = paths_kept c.whole_lists.ensures.paths

pub returns-clause-exprs : goal.returns-clause-exprs
returns-clause-exprs c = exprs_kept c.outside_lists.ensures.exprs

pub returns-clause-bodies : goal.returns-clause-bodies
returns-clause-bodies c = bodies_kept c.outside_lists.ensures.bodies

pub returns-clause-with_params : goal.returns-clause-with_params
returns-clause-with_params c = bodies_lowered c.outside_lists.ensures.bodies
