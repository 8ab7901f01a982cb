use Rattle.spec_semantics.proofs.Patterned.{makes_ranges as proved}
use Rattle.spec_semantics.proofs.makes_ranges.Goals as goal

pub returns : goal.returns
returns c = proved
