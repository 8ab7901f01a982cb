use Rattle.spec_data.proofs.Arguments.{argument_theorem as proved}
use Rattle.spec_data.proofs.argument_theorem.Goals as goal

pub returns : goal.returns
returns c = proved
