use Rattle.thm_body_result.proofs.AsExpansions.{bodies_expand as proved}
use Rattle.thm_body_result.proofs.emitted.bodies_expand.Goals as goal

pub returns : goal.returns
returns c = proved
