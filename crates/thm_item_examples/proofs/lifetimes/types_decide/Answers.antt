use Rattle.thm_item_examples.proofs.LifetimeRows.{types_decide as proved}
use Rattle.thm_item_examples.proofs.lifetimes.types_decide.Goals as goal

pub returns : goal.returns
returns c = proved
