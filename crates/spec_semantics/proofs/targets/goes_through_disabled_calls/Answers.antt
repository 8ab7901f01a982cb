use Rattle.spec_semantics.proofs.ReadTargets.{goes_through_disabled_calls as proved}
use Rattle.spec_semantics.proofs.targets.goes_through_disabled_calls.Goals as goal

pub returns : goal.returns
returns c = proved
