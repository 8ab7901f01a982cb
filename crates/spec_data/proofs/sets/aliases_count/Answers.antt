use Rattle.spec_data.proofs.Places.{aliases_count as proved}
use Rattle.spec_data.proofs.sets.aliases_count.Goals as goal

pub returns : goal.returns
returns c = proved
