use Rattle.thm_type_result.proofs.Named.{types_once as proved}
use Rattle.thm_type_result.proofs.types_reached_once.Goals as goal

pub returns : goal.returns
returns c = proved
