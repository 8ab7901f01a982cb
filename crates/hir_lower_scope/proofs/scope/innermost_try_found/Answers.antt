use Rattle.hir_lower_scope.proofs.Rows.{innermost_try_found as proved}
use Rattle.hir_lower_scope.proofs.scope.innermost_try_found.Goals as goal

pub returns : goal.returns
returns c = proved
