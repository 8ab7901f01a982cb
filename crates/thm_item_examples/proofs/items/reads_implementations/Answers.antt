use Rattle.thm_item_examples.proofs.ItemRows.{reads_implementations as proved}
use Rattle.thm_item_examples.proofs.items.reads_implementations.Goals as goal

pub returns : goal.returns
returns c = proved
