use Rattle.spec_semantics.proofs.CoroutineClosures.{strays_from_its_coroutine_closure as proved}
use Rattle.spec_semantics.proofs.inner_bodies.strays_from_its_coroutine_closure.Goals as goal

pub returns : goal.returns
returns c = proved
