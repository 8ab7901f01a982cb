use Rattle.thm_round_trip.proofs.Now.{target_theorem as proved}
use Rattle.thm_round_trip.proofs.target_theorem.Goals as goal

pub returns : goal.returns
returns c = proved
