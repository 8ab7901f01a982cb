use Rattle.std.proofs.Common.{rules}
use Rattle.hir_lower_builder.specs.Lowering.{track_yield}
use Rattle.hir_lower_builder.proofs.builder.BodyBuilder.track_yield.Goals as goal

pub returns : goal.returns
unfolding track_yield
returns g c = search rules
