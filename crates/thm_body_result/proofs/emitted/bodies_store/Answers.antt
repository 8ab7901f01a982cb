use Rattle.thm_body_result.proofs.AsStoredData.{bodies_store, whole_bodies_store}
use Rattle.thm_body_result.proofs.emitted.bodies_store.Goals as goal

pub returns-clause-bodies : goal.returns-clause-bodies
returns-clause-bodies c = bodies_store

pub returns-clause-whole : goal.returns-clause-whole
returns-clause-whole c = whole_bodies_store
