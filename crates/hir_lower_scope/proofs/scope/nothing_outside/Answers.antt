use Rattle.hir_lower_scope.proofs.Alone.{nothing_outside as proved}
use Rattle.hir_lower_scope.proofs.scope.nothing_outside.Goals as goal

pub returns : goal.returns
returns c = proved
