use Rattle.spec_semantics.proofs.ReadTargets.{misses_what_is_gone as proved}
use Rattle.spec_semantics.proofs.targets.misses_what_is_gone.Goals as goal

pub returns : goal.returns
returns c = proved
