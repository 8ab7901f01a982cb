use Rattle.spec_semantics.proofs.Patterned.{calls_for_the_last as proved}
use Rattle.spec_semantics.proofs.calls_for_the_last.Goals as goal

pub returns : goal.returns
returns c = proved
