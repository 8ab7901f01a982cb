use Rattle.thm_item_result.proofs.HeldApart.{held_apart, two_defaults}
use Rattle.thm_item_result.proofs.held_are_apart.Goals as goal

pub returns-clause-any : goal.returns-clause-any
returns-clause-any c = held_apart

pub returns-clause-defaults : goal.returns-clause-defaults
returns-clause-defaults c = two_defaults
