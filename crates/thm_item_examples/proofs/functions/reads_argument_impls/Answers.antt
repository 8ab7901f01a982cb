use Rattle.thm_item_examples.proofs.FunctionRows.{reads_argument_impls as proved}
use Rattle.thm_item_examples.proofs.functions.reads_argument_impls.Goals as goal

pub returns : goal.returns
returns c = proved
