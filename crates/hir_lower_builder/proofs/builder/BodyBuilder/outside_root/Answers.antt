use Rattle.std.proofs.Common.{rules}
use Rattle.hir_lower_builder.specs.Lowering.{outside_root}
use Rattle.hir_lower_builder.proofs.builder.BodyBuilder.outside_root.Goals as goal

pub returns : goal.returns
unfolding outside_root
returns g c = search rules
