use Rattle.spec_data.proofs.Places.{impls_are_parameters as proved}
use Rattle.spec_data.proofs.sets.impls_are_parameters.Goals as goal

pub returns : goal.returns
returns c = proved
