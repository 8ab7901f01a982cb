use Rattle.spec_semantics.proofs.ReadTargets.{lands_where_nothing_corresponds as proved}
use Rattle.spec_semantics.proofs.targets.lands_where_nothing_corresponds.Goals as goal

pub returns : goal.returns
returns c = proved
