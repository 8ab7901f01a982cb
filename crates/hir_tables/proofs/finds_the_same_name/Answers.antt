use Rattle.hir_tables.proofs.Theorems.{names_as_keys as proved}
use Rattle.hir_tables.proofs.finds_the_same_name.Goals as goal

pub returns : goal.returns
returns c = proved
