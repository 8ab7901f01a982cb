use Rattle.spec_semantics.proofs.Coroutines.{makes_a_coroutine as proved}
use Rattle.spec_semantics.proofs.inner_bodies.makes_a_coroutine.Goals as goal

pub returns : goal.returns
returns c = proved
