use Rattle.thm_body_result.proofs.Whole.{one_results}
use Rattle.thm_body_result.proofs.one_result.Goals as goal

pub returns : goal.returns
returns c = one_results
