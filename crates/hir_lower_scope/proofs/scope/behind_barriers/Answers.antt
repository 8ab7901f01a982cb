use Rattle.hir_lower_scope.proofs.Rows.{behind_barriers as proved}
use Rattle.hir_lower_scope.proofs.scope.behind_barriers.Goals as goal

pub returns : goal.returns
returns c = proved
