use Rattle.thm_semantics.proofs.Computed.{example_is_stored as proved}
use Rattle.thm_semantics.proofs.example_is_stored.Goals as goal

pub returns : goal.returns
returns c = proved
