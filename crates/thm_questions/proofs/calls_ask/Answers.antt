use Rattle.thm_questions.proofs.Forms.{entered_call, limited_call, unresolved_call}
use Rattle.thm_questions.proofs.calls_ask.Goals as goal

pub returns-clause-limited : goal.returns-clause-limited
returns-clause-limited c = limited_call

pub returns-clause-unresolved : goal.returns-clause-unresolved
returns-clause-unresolved c = unresolved_call

pub returns-clause-entered : goal.returns-clause-entered
returns-clause-entered c = entered_call
