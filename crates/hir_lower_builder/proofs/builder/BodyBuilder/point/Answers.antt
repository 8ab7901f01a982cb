use Rattle.std.proofs.Common.{rules}
use Rattle.hir_lower_builder.specs.Lowering.{point}
use Rattle.hir_lower_builder.proofs.builder.BodyBuilder.point.Goals as goal

pub returns : goal.returns
unfolding point
returns g c = search rules
