use Rattle.hir_lower_scope.proofs.Ribs.{tries_agree as proved}
use Rattle.hir_lower_scope.proofs.scope.tries_agree.Goals as goal

pub returns : goal.returns
returns c = proved
