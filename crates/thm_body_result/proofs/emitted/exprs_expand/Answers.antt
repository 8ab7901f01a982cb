use Rattle.thm_body_result.proofs.AsExpansions.{exprs_expand as proved}
use Rattle.thm_body_result.proofs.emitted.exprs_expand.Goals as goal

pub returns : goal.returns
returns c = proved
