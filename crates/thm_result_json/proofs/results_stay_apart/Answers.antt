use Rattle.thm_result_json.proofs.Whole.{whole_apart}
use Rattle.thm_result_json.proofs.results_stay_apart.Goals as goal

pub returns : goal.returns
returns c = whole_apart
