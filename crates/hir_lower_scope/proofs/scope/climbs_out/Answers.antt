use Rattle.hir_lower_scope.proofs.Rows.{climbs_out as proved}
use Rattle.hir_lower_scope.proofs.scope.climbs_out.Goals as goal

pub returns : goal.returns
returns c = proved
