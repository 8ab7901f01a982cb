use Rattle.thm_semantics.proofs.Tree.{reached_once as proved}
use Rattle.thm_semantics.proofs.reached_once.Goals as goal

pub returns : goal.returns
returns c = proved
