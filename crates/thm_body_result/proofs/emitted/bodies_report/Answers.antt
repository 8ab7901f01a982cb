use Rattle.thm_body_result.proofs.Listed.{bodies_report as proved}
use Rattle.thm_body_result.proofs.emitted.bodies_report.Goals as goal

pub returns : goal.returns
returns c = proved
