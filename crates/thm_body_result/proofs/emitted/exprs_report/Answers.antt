use Rattle.thm_body_result.proofs.Listed.{exprs_report as proved}
use Rattle.thm_body_result.proofs.emitted.exprs_report.Goals as goal

pub returns : goal.returns
returns c = proved
