use Rattle.spec_semantics.proofs.Patterned.{tries_the_arms as proved}
use Rattle.spec_semantics.proofs.tries_the_arms.Goals as goal

pub returns : goal.returns
returns c = proved
