use Rattle.thm_body_result.proofs.EmittedCallRows.{small_calls as proved}
use Rattle.thm_body_result.proofs.emitted.small_calls.Goals as goal

pub returns : goal.returns
returns c = proved
