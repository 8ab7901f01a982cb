use Rattle.lower_c.specs.Answers.{IsListing}
use Rattle.lower_c.proofs.Answered.{answers, any_listing}
use Rattle.lower_c.proofs.laxirbon_lower.Goals as goal

pub returns : goal.returns
returns c =
    answers IsListing _ _ _ c.lower-came.result _ _ _ _ c.mode_with.ensures c.lower-came.ensures (any_listing c.lower-came.result)
    c.hand_over_result.ensures
