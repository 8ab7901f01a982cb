use Rattle.spec_semantics.proofs.Alone.{runs_alone as proved}
use Rattle.spec_semantics.proofs.runs_alone.Goals as goal

pub returns : goal.returns
returns c = proved
