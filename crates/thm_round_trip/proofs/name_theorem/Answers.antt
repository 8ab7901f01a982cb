use Rattle.thm_round_trip.proofs.Asked.{name_theorem as proved}
use Rattle.thm_round_trip.proofs.name_theorem.Goals as goal

pub returns : goal.returns
returns c = proved
