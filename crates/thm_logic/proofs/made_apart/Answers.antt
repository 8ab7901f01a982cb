use Rattle.thm_logic.proofs.Keeping.{keeps_apart}
use Rattle.thm_logic.proofs.made_apart.Goals as goal

pub returns : goal.returns
returns c = keeps_apart
