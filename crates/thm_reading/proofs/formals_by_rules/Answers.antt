use Rattle.thm_reading.proofs.Formals.{formals_said}
use Rattle.thm_reading.proofs.formals_by_rules.Goals as goal

pub returns : goal.returns
returns c = formals_said
