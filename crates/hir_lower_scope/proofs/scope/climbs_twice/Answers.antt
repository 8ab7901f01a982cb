use Rattle.hir_lower_scope.proofs.Rows.{climbs_twice as proved}
use Rattle.hir_lower_scope.proofs.scope.climbs_twice.Goals as goal

pub returns : goal.returns
returns c = proved
