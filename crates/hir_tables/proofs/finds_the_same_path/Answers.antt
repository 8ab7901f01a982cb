use Rattle.hir_tables.proofs.Theorems.{paths_as_keys as proved}
use Rattle.hir_tables.proofs.finds_the_same_path.Goals as goal

pub returns : goal.returns
returns c = proved
