use Rattle.thm_result_json.proofs.Whole.{whole_theorem}
use Rattle.thm_result_json.proofs.result_reads_back.Goals as goal

pub returns : goal.returns
returns c = whole_theorem
