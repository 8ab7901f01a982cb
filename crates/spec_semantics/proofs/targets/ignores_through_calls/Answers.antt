use Rattle.spec_semantics.proofs.ReadTargets.{ignores_through_calls as proved}
use Rattle.spec_semantics.proofs.targets.ignores_through_calls.Goals as goal

pub returns : goal.returns
returns c = proved
