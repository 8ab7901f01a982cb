use Rattle.spec_data.proofs.Trees.{reads_abis as proved}
use Rattle.spec_data.proofs.reads_abis.Goals as goal

pub returns : goal.returns
returns c = proved
