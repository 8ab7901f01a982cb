use Rattle.hir_lower_scope.proofs.Rows.{stays_inside as proved}
use Rattle.hir_lower_scope.proofs.scope.stays_inside.Goals as goal

pub returns : goal.returns
returns c = proved
