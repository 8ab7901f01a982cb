use Rattle.thm_semantics.proofs.Computed.{examples_are_stored as proved}
use Rattle.thm_semantics.proofs.examples_are_stored.Goals as goal

pub returns : goal.returns
returns c = proved
