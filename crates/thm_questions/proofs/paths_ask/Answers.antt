use Rattle.thm_questions.proofs.PathForms.{dollar_crate, path_alone, plain_name}
use Rattle.thm_questions.proofs.paths_ask.Goals as goal

pub returns-clause-alone : goal.returns-clause-alone
returns-clause-alone c = λ a p x. path_alone a p x

pub returns-clause-plain_name : goal.returns-clause-plain_name
returns-clause-plain_name c = plain_name

pub returns-clause-dollar_crate : goal.returns-clause-dollar_crate
returns-clause-dollar_crate c = dollar_crate
