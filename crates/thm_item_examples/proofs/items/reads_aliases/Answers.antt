use Rattle.thm_item_examples.proofs.ItemRows.{reads_aliases as proved}
use Rattle.thm_item_examples.proofs.items.reads_aliases.Goals as goal

pub returns : goal.returns
returns c = proved
