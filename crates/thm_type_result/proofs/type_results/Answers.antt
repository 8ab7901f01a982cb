use Rattle.thm_type_result.proofs.Whole.{type_results as proved}
use Rattle.thm_type_result.proofs.type_results.Goals as goal

pub returns : goal.returns
returns c = proved
