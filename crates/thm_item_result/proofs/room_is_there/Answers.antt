use Rattle.thm_item_result.proofs.AsLimits.{room_is_there as proved}
use Rattle.thm_item_result.proofs.room_is_there.Goals as goal

pub returns : goal.returns
returns c = proved
