use Rattle.thm_round_trip.proofs.Now.{pat_theorem as proved}
use Rattle.thm_round_trip.proofs.pat_theorem.Goals as goal

pub returns : goal.returns
returns c = proved
