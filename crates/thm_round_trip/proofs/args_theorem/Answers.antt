use Rattle.thm_round_trip.proofs.Now.{args_theorem as proved}
use Rattle.thm_round_trip.proofs.args_theorem.Goals as goal

pub returns : goal.returns
returns c = proved
