use Rattle.thm_body_result.proofs.AllStand.{all_stand}
use Rattle.thm_body_result.proofs.sources.Goals as goal

pub returns : goal.returns
returns c = all_stand
