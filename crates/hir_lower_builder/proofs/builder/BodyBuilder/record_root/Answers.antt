use Rattle.std.proofs.Common.{rules}
use Rattle.hir_lower_builder.specs.Lowering.{record_root}
use Rattle.hir_lower_builder.proofs.builder.BodyBuilder.record_root.Goals as goal

pub returns : goal.returns
unfolding record_root
returns g c = search rules
