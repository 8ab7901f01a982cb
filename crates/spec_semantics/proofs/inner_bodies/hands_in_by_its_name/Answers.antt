use Rattle.spec_semantics.proofs.CoroutineClosures.{hands_in_by_its_name as proved}
use Rattle.spec_semantics.proofs.inner_bodies.hands_in_by_its_name.Goals as goal

pub returns : goal.returns
returns c = proved
