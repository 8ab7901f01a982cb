use Rattle.thm_item_examples.proofs.FunctionRows.{reads_coroutines as proved}
use Rattle.thm_item_examples.proofs.functions.reads_coroutines.Goals as goal

pub returns : goal.returns
returns c = proved
