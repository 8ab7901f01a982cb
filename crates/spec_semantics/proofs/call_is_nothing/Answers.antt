use Rattle.spec_semantics.proofs.Computed.{call_is_nothing as proved}
use Rattle.spec_semantics.proofs.call_is_nothing.Goals as goal

pub returns : goal.returns
returns c = proved
