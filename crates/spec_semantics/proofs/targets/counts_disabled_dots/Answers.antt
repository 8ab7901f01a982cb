use Rattle.spec_semantics.proofs.ReadTargets.{counts_disabled_dots as proved}
use Rattle.spec_semantics.proofs.targets.counts_disabled_dots.Goals as goal

pub returns : goal.returns
returns c = proved
