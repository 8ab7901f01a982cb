use Rattle.thm_round_trip.proofs.YieldTree.{yields_theorem as proved}
use Rattle.thm_round_trip.proofs.yields_theorem.Goals as goal

pub returns : goal.returns
returns c = proved
