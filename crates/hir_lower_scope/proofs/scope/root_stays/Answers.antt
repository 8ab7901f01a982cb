use Rattle.hir_lower_scope.proofs.Rows.{root_stays as proved}
use Rattle.hir_lower_scope.proofs.scope.root_stays.Goals as goal

pub returns : goal.returns
returns c = proved
