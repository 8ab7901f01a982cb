use Rattle.thm_item_result.proofs.Examples.{counts_parts as proved}
use Rattle.thm_item_result.proofs.counts_parts.Goals as goal

pub returns : goal.returns
returns c = proved
