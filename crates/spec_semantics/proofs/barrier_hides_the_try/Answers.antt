use Rattle.spec_semantics.proofs.Tries.{barrier_hides_the_try as proved}
use Rattle.spec_semantics.proofs.barrier_hides_the_try.Goals as goal

pub returns : goal.returns
returns c = proved
