use Rattle.thm_body_result.proofs.EmittedCallRows.{small_data as proved}
use Rattle.thm_body_result.proofs.emitted.small_data.Goals as goal

pub returns : goal.returns
returns c = proved
