use Rattle.spec_semantics.proofs.CoroutineClosures.{hands_in_in_order as proved}
use Rattle.spec_semantics.proofs.inner_bodies.hands_in_in_order.Goals as goal

pub returns : goal.returns
returns c = proved
