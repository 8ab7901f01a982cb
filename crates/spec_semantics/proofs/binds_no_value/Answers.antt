use Rattle.spec_semantics.proofs.Patterned.{binds_no_value as proved}
use Rattle.spec_semantics.proofs.binds_no_value.Goals as goal

pub returns : goal.returns
returns c = proved
