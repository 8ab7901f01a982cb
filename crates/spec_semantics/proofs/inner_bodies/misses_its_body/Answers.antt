use Rattle.spec_semantics.proofs.CoroutineClosures.{misses_its_body as proved}
use Rattle.spec_semantics.proofs.inner_bodies.misses_its_body.Goals as goal

pub returns : goal.returns
returns c = proved
