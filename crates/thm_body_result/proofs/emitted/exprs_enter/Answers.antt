use Rattle.thm_body_result.proofs.Listed.{exprs_enter as proved}
use Rattle.thm_body_result.proofs.emitted.exprs_enter.Goals as goal

pub returns : goal.returns
returns c = proved
