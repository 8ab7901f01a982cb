use Rattle.thm_item_generics.proofs.AskedTheorems.{items_ask as proved}
use Rattle.thm_item_generics.proofs.items_ask.Goals as goal

pub returns : goal.returns
returns c = proved
