use Rattle.thm_type_result.proofs.Whole.{refused_types as proved}
use Rattle.thm_type_result.proofs.refused_types.Goals as goal

pub returns : goal.returns
returns c = proved
