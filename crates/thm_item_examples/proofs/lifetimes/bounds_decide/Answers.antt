use Rattle.thm_item_examples.proofs.LifetimeRows.{bounds_decide as proved}
use Rattle.thm_item_examples.proofs.lifetimes.bounds_decide.Goals as goal

pub returns : goal.returns
returns c = proved
