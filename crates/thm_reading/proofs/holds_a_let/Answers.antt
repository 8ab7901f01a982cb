use Rattle.thm_reading.proofs.Held.{emits_lets}
use Rattle.thm_reading.proofs.holds_a_let.Goals as goal

pub returns : goal.returns
returns c = emits_lets
