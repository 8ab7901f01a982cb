use Rattle.spec_data.proofs.Trees.{reads_lifetimes as proved}
use Rattle.spec_data.proofs.reads_lifetimes.Goals as goal

pub returns : goal.returns
returns c = proved
