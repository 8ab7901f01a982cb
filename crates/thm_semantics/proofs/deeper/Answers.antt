use Rattle.thm_semantics.proofs.Tree.{deeper as proved}
use Rattle.thm_semantics.proofs.deeper.Goals as goal

pub returns : goal.returns
returns c = proved
