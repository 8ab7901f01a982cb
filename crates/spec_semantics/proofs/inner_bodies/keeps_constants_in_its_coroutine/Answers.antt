use Rattle.spec_semantics.proofs.CoroutineClosures.{keeps_constants_in_its_coroutine as proved}
use Rattle.spec_semantics.proofs.inner_bodies.keeps_constants_in_its_coroutine.Goals as goal

pub returns : goal.returns
returns c = proved
