use Rattle.spec_semantics.proofs.ReadAwaits.{awaits_in_constants as proved}
use Rattle.spec_semantics.proofs.reading.awaits_stand_in_constants.Goals as goal

pub returns : goal.returns
returns c = proved
