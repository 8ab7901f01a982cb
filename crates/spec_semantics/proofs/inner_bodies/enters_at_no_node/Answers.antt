use Rattle.spec_semantics.proofs.Coroutines.{enters_at_no_node as proved}
use Rattle.spec_semantics.proofs.inner_bodies.enters_at_no_node.Goals as goal

pub returns : goal.returns
returns c = proved
