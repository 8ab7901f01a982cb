use Rattle.thm_body_result.proofs.Fitting.{exprs_fit as proved}
use Rattle.thm_body_result.proofs.emitted.exprs_fit.Goals as goal

pub returns : goal.returns
returns c = proved
