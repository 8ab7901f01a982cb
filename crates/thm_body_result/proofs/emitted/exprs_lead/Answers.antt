use Rattle.thm_body_result.proofs.AsMappings.{exprs_lead as proved}
use Rattle.thm_body_result.proofs.emitted.exprs_lead.Goals as goal

pub returns : goal.returns
returns c = proved
