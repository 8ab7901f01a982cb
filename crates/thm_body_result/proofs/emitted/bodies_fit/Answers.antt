use Rattle.thm_body_result.proofs.Fitting.{bodies_fit as proved}
use Rattle.thm_body_result.proofs.emitted.bodies_fit.Goals as goal

pub returns : goal.returns
returns c = proved
