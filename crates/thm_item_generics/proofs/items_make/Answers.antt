use Rattle.thm_item_generics.proofs.Theorems.{items_make as proved}
use Rattle.thm_item_generics.proofs.items_make.Goals as goal

pub returns : goal.returns
returns c = proved
