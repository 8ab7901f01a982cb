use Rattle.hir_tables.proofs.Theorems.{first_of_alias as proved}
use Rattle.hir_tables.proofs.first_of_an_alias_counts.Goals as goal

pub returns : goal.returns
returns c = proved
