use Rattle.thm_item_examples.proofs.ParamRows.{asks_by_bounds as proved}
use Rattle.thm_item_examples.proofs.params.asks_by_bounds.Goals as goal

pub returns : goal.returns
returns c = proved
