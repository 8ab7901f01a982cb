use Rattle.thm_item_result.proofs.Words.{same_words as proved}
use Rattle.thm_item_result.proofs.same_words.Goals as goal

pub returns : goal.returns
returns c = proved
