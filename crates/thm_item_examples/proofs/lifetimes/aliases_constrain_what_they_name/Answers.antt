use Rattle.thm_item_examples.proofs.LifetimeRows.{aliases_constrain_what_they_name as proved}
use Rattle.thm_item_examples.proofs.lifetimes.aliases_constrain_what_they_name.Goals as goal

pub returns : goal.returns
returns c = proved
