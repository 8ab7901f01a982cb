use Rattle.thm_body_result.proofs.EmittedCallRows.{small_orders as proved}
use Rattle.thm_body_result.proofs.emitted.small_orders.Goals as goal

pub returns : goal.returns
returns c = proved
