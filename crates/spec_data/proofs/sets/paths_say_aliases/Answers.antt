use Rattle.spec_data.proofs.Places.{paths_say_aliases as proved}
use Rattle.spec_data.proofs.sets.paths_say_aliases.Goals as goal

pub returns : goal.returns
returns c = proved
