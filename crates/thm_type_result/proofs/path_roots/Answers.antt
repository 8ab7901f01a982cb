use Rattle.thm_type_result.proofs.Behind.{path_roots as proved}
use Rattle.thm_type_result.proofs.path_roots.Goals as goal

pub returns : goal.returns
returns c = proved
