use Rattle.hir_tables.proofs.Theorems.{first_of_definition as proved}
use Rattle.hir_tables.proofs.first_of_a_definition_counts.Goals as goal

pub returns : goal.returns
returns c = proved
