use Rattle.hir_tables.proofs.Theorems.{same_paths_are_one as proved}
use Rattle.hir_tables.proofs.same_paths_are_one.Goals as goal

pub returns : goal.returns
returns c = proved
