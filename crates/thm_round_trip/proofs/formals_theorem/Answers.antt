use Rattle.thm_round_trip.proofs.FormalsTheorem.{formals_theorem}
use Rattle.thm_round_trip.proofs.formals_theorem.Goals as goal

pub returns : goal.returns
returns c = formals_theorem
