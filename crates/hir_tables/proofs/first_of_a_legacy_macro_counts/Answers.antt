use Rattle.hir_tables.proofs.Theorems.{first_of_legacy as proved}
use Rattle.hir_tables.proofs.first_of_a_legacy_macro_counts.Goals as goal

pub returns : goal.returns
returns c = proved
