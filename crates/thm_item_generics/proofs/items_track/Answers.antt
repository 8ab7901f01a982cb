use Rattle.thm_item_generics.proofs.Theorems.{items_track as proved}
use Rattle.thm_item_generics.proofs.items_track.Goals as goal

pub returns : goal.returns
returns c = proved
