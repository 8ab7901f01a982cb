use Rattle.spec_data.proofs.Trees.{reads_impls as proved}
use Rattle.spec_data.proofs.reads_impls.Goals as goal

pub returns : goal.returns
returns c = proved
