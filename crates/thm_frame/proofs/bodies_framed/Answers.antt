use Rattle.thm_frame.proofs.Bodies.{body_framed}
use Rattle.thm_frame.proofs.bodies_framed.Goals as goal

pub returns : goal.returns
returns c = λ a area item p q v w ps e. body_framed a area item p q v w ps e
