use Rattle.thm_questions.proofs.Forms.{assignment, block, for_loop, question_mark}
use Rattle.thm_questions.proofs.forms_ask.Goals as goal

pub returns-clause-block : goal.returns-clause-block
returns-clause-block c = block

pub returns-clause-for_loop : goal.returns-clause-for_loop
returns-clause-for_loop c = for_loop

pub returns-clause-question_mark : goal.returns-clause-question_mark
returns-clause-question_mark c = question_mark

pub returns-clause-assignment : goal.returns-clause-assignment
returns-clause-assignment c = assignment
