use Rattle.thm_scoping.proofs.Bodies.{bodies_agree as proved}
use Rattle.thm_scoping.proofs.bodies_agree.Goals as goal

pub returns : goal.returns
returns c = proved
