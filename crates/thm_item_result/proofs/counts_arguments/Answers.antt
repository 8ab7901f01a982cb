use Rattle.thm_item_result.proofs.Examples.{counts_arguments as proved}
use Rattle.thm_item_result.proofs.counts_arguments.Goals as goal

pub returns : goal.returns
returns c = proved
