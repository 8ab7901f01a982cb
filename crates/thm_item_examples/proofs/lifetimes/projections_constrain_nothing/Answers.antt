use Rattle.thm_item_examples.proofs.LifetimeRows.{projections_constrain_nothing as proved}
use Rattle.thm_item_examples.proofs.lifetimes.projections_constrain_nothing.Goals as goal

pub returns : goal.returns
returns c = proved
