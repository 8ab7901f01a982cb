use Rattle.thm_logic.proofs.Keeping.{keeping}
use Rattle.thm_logic.proofs.keeps.Goals as goal

pub returns : goal.returns
returns c = keeping
