use Rattle.thm_item_result.proofs.Whole.{item_results as proved}
use Rattle.thm_item_result.proofs.item_results.Goals as goal

pub returns : goal.returns
returns c = proved
