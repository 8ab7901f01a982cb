use Rattle.thm_generics.proofs.Tree.{constants_tracked, exprs_tracked}
use Rattle.thm_generics.proofs.tracked_inside.Goals as goal

pub returns-clause-constants : goal.returns-clause-constants
returns-clause-constants c = constants_tracked

pub returns-clause-expressions : goal.returns-clause-expressions
returns-clause-expressions c = exprs_tracked
