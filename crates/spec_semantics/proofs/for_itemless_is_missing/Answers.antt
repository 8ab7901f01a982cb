use Rattle.spec_semantics.proofs.Fors.{for_itemless_is_missing as proved}
use Rattle.spec_semantics.proofs.for_itemless_is_missing.Goals as goal

pub returns : goal.returns
returns c = proved
