use Rattle.thm_item_examples.proofs.LifetimeRows.{impls_decide as proved}
use Rattle.thm_item_examples.proofs.lifetimes.impls_decide.Goals as goal

pub returns : goal.returns
returns c = proved
