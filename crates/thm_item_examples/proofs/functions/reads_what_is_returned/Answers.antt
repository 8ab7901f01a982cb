use Rattle.thm_item_examples.proofs.FunctionRows.{reads_what_is_returned as proved}
use Rattle.thm_item_examples.proofs.functions.reads_what_is_returned.Goals as goal

pub returns : goal.returns
returns c = proved
