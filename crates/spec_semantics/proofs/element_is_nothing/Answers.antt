use Rattle.spec_semantics.proofs.Forms.{element_is_nothing as proved}
use Rattle.spec_semantics.proofs.element_is_nothing.Goals as goal

pub returns : goal.returns
returns c = proved
