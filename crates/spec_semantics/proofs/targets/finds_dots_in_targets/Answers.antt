use Rattle.spec_semantics.proofs.ReadTargets.{finds_dots_in_targets as proved}
use Rattle.spec_semantics.proofs.targets.finds_dots_in_targets.Goals as goal

pub returns : goal.returns
returns c = proved
