use Rattle.std.proofs.Common.{rules, refl}
use Rattle.json_errors.proofs.Items.{past_items}
use Rattle.json_errors.proofs.value.item_at.Goals as goal

pub returns-else-at-items : goal.returns-else-at-items
returns-else-at-items c = rw (past_items c.args.items.now c.args.at (search rules)) refl
