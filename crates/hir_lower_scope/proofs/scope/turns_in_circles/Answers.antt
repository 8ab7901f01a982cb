use Rattle.hir_lower_scope.proofs.Rows.{turns_in_circles as proved}
use Rattle.hir_lower_scope.proofs.scope.turns_in_circles.Goals as goal

pub returns : goal.returns
returns c = proved
