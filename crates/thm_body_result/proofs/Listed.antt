-- Faults and numbers of blocks are told in the order in which they come.
use Rattle.thm_body_result.specs.EmittedTheorems.{BodiesEnter, BodiesReport, ExprsEnter, ExprsReport}
use Rattle.thm_body_result.proofs.AsEmitting.{behind, entered, fault_listing, emits_bodies, emits_graded}
use Rattle.thm_body_result.proofs.GradedBodies.{body_graded}
use Rattle.thm_logic.proofs.GradedTree.{expr_part_graded}

pub exprs_report : ExprsReport
exprs_report e old id new paired is =
    behind fault_listing (λ xs ys like. like) (expr_part_graded (emits_graded fault_listing) e) old new id paired is

pub exprs_enter : ExprsEnter
exprs_enter e old id new paired is =
    behind entered (λ xs ys like. like) (expr_part_graded (emits_graded entered) e) old new id paired is

pub bodies_report : BodiesReport
bodies_report kind skipped f e old new r paired is = behind fault_listing (λ xs ys like. like)
    (body_graded (emits_graded fault_listing) (emits_bodies fault_listing) kind skipped f e) old new r paired is

pub bodies_enter : BodiesEnter
bodies_enter kind skipped f e old new r paired is = behind entered (λ xs ys like. like)
    (body_graded (emits_graded entered) (emits_bodies entered) kind skipped f e) old new r paired is
