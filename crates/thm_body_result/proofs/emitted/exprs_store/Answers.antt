use Rattle.thm_body_result.proofs.AsStoredData.{exprs_store as proved}
use Rattle.thm_body_result.proofs.emitted.exprs_store.Goals as goal

pub returns : goal.returns
returns c = proved
