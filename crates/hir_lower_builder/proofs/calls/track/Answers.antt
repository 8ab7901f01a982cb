use Rattle.std.proofs.lemmas.Grind.{common_steps}
use Rattle.std.proofs.Common.{arith}
use Rattle.hir_lower_builder.specs.Calls.{track}
use Rattle.hir_lower_builder.proofs.calls.track.Goals as goal

pub returns : goal.returns
unfolding track
returns g c = grind (arith, common_steps)
