use Rattle.spec_semantics.proofs.ReadTargets.{counts_disabled_callees as proved}
use Rattle.spec_semantics.proofs.targets.counts_disabled_callees.Goals as goal

pub returns : goal.returns
returns c = proved
