use Rattle.spec_data.proofs.Places.{counts_in_impls as proved}
use Rattle.spec_data.proofs.sets.counts_in_impls.Goals as goal

pub returns : goal.returns
returns c = proved
