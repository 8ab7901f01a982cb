use Rattle.thm_item_examples.proofs.ParamRows.{reads_impls as proved}
use Rattle.thm_item_examples.proofs.params.reads_impls.Goals as goal

pub returns : goal.returns
returns c = proved
