use Rattle.spec_semantics.proofs.ReadParts.{begins_at_the_local_root as proved}
use Rattle.spec_semantics.proofs.reading.begins_at_the_local_root.Goals as goal

pub returns : goal.returns
returns c = proved
