use Rattle.spec_semantics.proofs.ReadCalls.{enters_below_the_limit as proved}
use Rattle.spec_semantics.proofs.reading.enters_below_the_limit.Goals as goal

pub returns : goal.returns
returns c = proved
