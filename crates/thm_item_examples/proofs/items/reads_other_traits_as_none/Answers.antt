use Rattle.thm_item_examples.proofs.ItemRows.{reads_other_traits_as_none as proved}
use Rattle.thm_item_examples.proofs.items.reads_other_traits_as_none.Goals as goal

pub returns : goal.returns
returns c = proved
