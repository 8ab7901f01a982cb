use Rattle.thm_questions.proofs.Forms.{literal, path}
use Rattle.thm_questions.proofs.leaves_ask.Goals as goal

pub returns-clause-literal : goal.returns-clause-literal
returns-clause-literal c = literal

pub returns-clause-path : goal.returns-clause-path
returns-clause-path c = path
