use Rattle.thm_enabled.proofs.Described.{lower_is, part_is}
use Rattle.thm_enabled.proofs.pruned.Goals as goal

pub returns-clause-exprs : goal.returns-clause-exprs
returns-clause-exprs c = λ e. lower_is e

pub returns-clause-parts : goal.returns-clause-parts
returns-clause-parts c = λ e. part_is e
