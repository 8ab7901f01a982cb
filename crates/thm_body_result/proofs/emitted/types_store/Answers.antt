use Rattle.thm_body_result.proofs.AsStoredData.{paths_store, pats_store, types_store, whole_types_store}
use Rattle.thm_body_result.proofs.emitted.types_store.Goals as goal

pub returns-clause-types : goal.returns-clause-types
returns-clause-types c = types_store

pub returns-clause-paths : goal.returns-clause-paths
returns-clause-paths c = paths_store

pub returns-clause-pats : goal.returns-clause-pats
returns-clause-pats c = pats_store

pub returns-clause-whole : goal.returns-clause-whole
returns-clause-whole c = whole_types_store
