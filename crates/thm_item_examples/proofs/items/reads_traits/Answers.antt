use Rattle.thm_item_examples.proofs.ItemRows.{reads_traits as proved}
use Rattle.thm_item_examples.proofs.items.reads_traits.Goals as goal

pub returns : goal.returns
returns c = proved
