use Rattle.thm_item_examples.proofs.FunctionRows.{reads_arguments as proved}
use Rattle.thm_item_examples.proofs.functions.reads_arguments.Goals as goal

pub returns : goal.returns
returns c = proved
