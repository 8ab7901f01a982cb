-- As much is stored as is told, or there is no room for it.
use Rattle.thm_body_result.specs.EmittedTheorems.{BodiesFit, ExprsFit}
use Rattle.thm_body_result.proofs.AsRooms.{rooms_bodies, rooms_graded}
use Rattle.thm_body_result.proofs.Fits.{fits}
use Rattle.thm_body_result.proofs.GradedBodies.{body_graded}
use Rattle.thm_logic.proofs.GradedTree.{expr_part_graded}

pub exprs_fit : ExprsFit
exprs_fit e old d = fits (expr_part_graded rooms_graded e).0 old d

pub bodies_fit : BodiesFit
bodies_fit kind skipped f e old d = fits (body_graded rooms_graded rooms_bodies kind skipped f e) old d
