use Rattle.thm_item_examples.proofs.ParamRows.{reads_const_params as proved}
use Rattle.thm_item_examples.proofs.params.reads_const_params.Goals as goal

pub returns : goal.returns
returns c = proved
