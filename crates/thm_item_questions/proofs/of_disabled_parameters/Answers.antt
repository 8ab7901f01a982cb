use Rattle.thm_item_questions.proofs.Items.{behind_disabled}
use Rattle.thm_item_questions.proofs.of_disabled_parameters.Goals as goal

pub returns-clause-params : goal.returns-clause-params
returns-clause-params c = λ a p def x by h. behind_disabled a _ _ by h

pub returns-clause-receivers : goal.returns-clause-receivers
returns-clause-receivers c = λ a p def x by h. behind_disabled a _ _ by h

pub returns-clause-arguments : goal.returns-clause-arguments
returns-clause-arguments c = λ a p def x by h. behind_disabled a _ _ by h
