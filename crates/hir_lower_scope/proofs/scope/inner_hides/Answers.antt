use Rattle.hir_lower_scope.proofs.Rows.{inner_hides as proved}
use Rattle.hir_lower_scope.proofs.scope.inner_hides.Goals as goal

pub returns : goal.returns
returns c = proved
