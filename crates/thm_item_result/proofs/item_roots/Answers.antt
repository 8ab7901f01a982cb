use Rattle.thm_item_result.proofs.Roots.{first_item_roots, item_roots as proved}
use Rattle.thm_item_result.proofs.item_roots.Goals as goal

pub returns-clause-from_any : goal.returns-clause-from_any
returns-clause-from_any c = proved

pub returns-clause-first : goal.returns-clause-first
returns-clause-first c = first_item_roots
