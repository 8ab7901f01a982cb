use Rattle.lower_c.specs.Results.{IsResult}
use Rattle.lower_c.proofs.Answered.{answers}
use Rattle.lower_c.proofs.laxirbon_lower_json.Goals as goal

pub returns : goal.returns
returns c =
    answers IsResult _ _ _ c.lower_json-came.result _ _ _ _ c.mode_with.ensures c.lower_json-came.ensures.came
    c.lower_json-came.ensures.json c.hand_over_result.ensures
