use Rattle.thm_body_result.proofs.Listed.{bodies_enter as proved}
use Rattle.thm_body_result.proofs.emitted.bodies_enter.Goals as goal

pub returns : goal.returns
returns c = proved
