use Rattle.thm_body_result.proofs.AsExpansions.{paths_expand, types_expand}
use Rattle.thm_body_result.proofs.emitted.types_expand.Goals as goal

pub returns-clause-types : goal.returns-clause-types
returns-clause-types c = types_expand

pub returns-clause-paths : goal.returns-clause-paths
returns-clause-paths c = paths_expand
