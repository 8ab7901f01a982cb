use Rattle.thm_semantics.proofs.Whole.{headline as proved}
use Rattle.thm_semantics.proofs.same_meaning.Goals as goal

pub returns : goal.returns
returns c = proved
