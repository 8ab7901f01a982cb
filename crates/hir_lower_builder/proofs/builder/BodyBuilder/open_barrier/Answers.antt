use Rattle.std.proofs.Common.{rules}
use Rattle.hir_lower_builder.specs.Lowering.{open_barrier}
use Rattle.hir_lower_builder.proofs.builder.BodyBuilder.open_barrier.Goals as goal

pub returns : goal.returns
unfolding open_barrier
returns g c = search rules
