use Rattle.spec_semantics.proofs.Closures.{makes_a_closure as proved}
use Rattle.spec_semantics.proofs.inner_bodies.makes_a_closure.Goals as goal

pub returns : goal.returns
returns c = proved
