use Rattle.spec_semantics.proofs.ReadTargets.{keeps_dots_behind_calls as proved}
use Rattle.spec_semantics.proofs.targets.keeps_dots_behind_calls.Goals as goal

pub returns : goal.returns
returns c = proved
