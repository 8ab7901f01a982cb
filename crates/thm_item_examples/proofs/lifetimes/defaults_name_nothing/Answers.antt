use Rattle.thm_item_examples.proofs.LifetimeRows.{defaults_name_nothing as proved}
use Rattle.thm_item_examples.proofs.lifetimes.defaults_name_nothing.Goals as goal

pub returns : goal.returns
returns c = proved
