use Rattle.thm_frame.proofs.Bodies.{body_keeps}
use Rattle.thm_frame.proofs.bodies_keep.Goals as goal

pub returns : goal.returns
returns c = λ a area b h item p q v w ps e. body_keeps a area b h item p q v w ps e
