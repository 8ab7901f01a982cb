use Rattle.thm_item_result.proofs.Fitting.{fitting_items}
use Rattle.thm_item_result.proofs.Took.{items_fit, refused_items as proved}
use Rattle.thm_item_result.proofs.refused_items.Goals as goal

pub returns-clause-from_any : goal.returns-clause-from_any
returns-clause-from_any c = items_fit

pub returns-clause-first : goal.returns-clause-first
returns-clause-first c = proved

pub returns-clause-fits : goal.returns-clause-fits
returns-clause-fits c = fitting_items
