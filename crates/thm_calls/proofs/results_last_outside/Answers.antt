use Rattle.thm_calls.proofs.Outside.{body_outside}
use Rattle.thm_calls.proofs.results_last_outside.Goals as goal

pub returns : goal.returns
returns c = body_outside c.outside_lists.ensures.bodies
