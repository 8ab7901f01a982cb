use Rattle.thm_logic.proofs.Keeping.{types_keep, paths_keep}
use Rattle.thm_logic.proofs.keeps_alone.Goals as goal

pub returns-clause-types : goal.returns-clause-types
returns-clause-types c = types_keep

pub returns-clause-paths : goal.returns-clause-paths
returns-clause-paths c = paths_keep
