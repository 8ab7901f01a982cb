use Rattle.spec_semantics.proofs.Computed.{disabled_is_nothing as proved}
use Rattle.spec_semantics.proofs.disabled_is_nothing.Goals as goal

pub returns : goal.returns
returns c = proved
