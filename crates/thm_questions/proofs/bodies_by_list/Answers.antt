use Rattle.thm_questions.proofs.Bodies.{bodies_alike, everywhere}
use Rattle.thm_questions.proofs.bodies_by_list.Goals as goal

pub returns : goal.returns
returns c = λ a b item p q ps e h. bodies_alike a (everywhere a) b item p q ps e h
