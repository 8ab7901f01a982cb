use Rattle.std.proofs.Common.{rules}
use Rattle.hir_lower_builder.specs.Lowering.{leave_root}
use Rattle.hir_lower_builder.proofs.builder.BodyBuilder.leave_root.Goals as goal

pub returns : goal.returns
unfolding leave_root
returns g c = search rules
