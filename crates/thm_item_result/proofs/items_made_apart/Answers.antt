use Rattle.thm_item_result.proofs.Apart.{items_apart}
use Rattle.thm_item_result.proofs.items_made_apart.Goals as goal

pub returns : goal.returns
returns c = items_apart
