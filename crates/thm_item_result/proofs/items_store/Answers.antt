use Rattle.thm_item_result.proofs.Data.{first_items_store, items_store as proved}
use Rattle.thm_item_result.proofs.items_store.Goals as goal

pub returns-clause-from_any : goal.returns-clause-from_any
returns-clause-from_any c = proved

pub returns-clause-first : goal.returns-clause-first
returns-clause-first c = first_items_store
