use Rattle.thm_body_result.proofs.Fits.{all_fit, types_fit, paths_fit, bodies_fit}
use Rattle.thm_body_result.proofs.numbers.Goals as goal

pub returns-clause-trees : goal.returns-clause-trees
returns-clause-trees c = all_fit

pub returns-clause-types : goal.returns-clause-types
returns-clause-types c = types_fit

pub returns-clause-paths : goal.returns-clause-paths
returns-clause-paths c = paths_fit

pub returns-clause-bodies : goal.returns-clause-bodies
returns-clause-bodies c = bodies_fit
