use Rattle.spec_data.proofs.Trees.{reads_varargs as proved}
use Rattle.spec_data.proofs.reads_varargs.Goals as goal

pub returns : goal.returns
returns c = proved
