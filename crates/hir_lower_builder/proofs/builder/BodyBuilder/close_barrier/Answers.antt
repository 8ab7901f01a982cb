use Rattle.std.proofs.Common.{rules}
use Rattle.hir_lower_builder.specs.Lowering.{close, close_barrier}
use Rattle.hir_lower_builder.proofs.builder.BodyBuilder.close_barrier.Goals as goal

pub returns : goal.returns
unfolding close_barrier close
returns g c = search rules
