use Rattle.thm_body_result.proofs.EmittedCallRows.{small_targets as proved}
use Rattle.thm_body_result.proofs.emitted.small_targets.Goals as goal

pub returns : goal.returns
returns c = proved
