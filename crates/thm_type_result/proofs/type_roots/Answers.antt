use Rattle.thm_type_result.proofs.Behind.{type_roots as proved}
use Rattle.thm_type_result.proofs.type_roots.Goals as goal

pub returns : goal.returns
returns c = proved
