use Rattle.thm_round_trip.proofs.Now.{path_theorem as proved}
use Rattle.thm_round_trip.proofs.path_theorem.Goals as goal

pub returns : goal.returns
returns c = proved
