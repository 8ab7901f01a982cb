use Rattle.thm_round_trip.proofs.Now.{type_theorem as proved}
use Rattle.thm_round_trip.proofs.type_theorem.Goals as goal

pub returns : goal.returns
returns c = proved
