use Rattle.spec_semantics.proofs.Patterned.{assigns_in_order as proved}
use Rattle.spec_semantics.proofs.assigns_in_order.Goals as goal

pub returns : goal.returns
returns c = proved
