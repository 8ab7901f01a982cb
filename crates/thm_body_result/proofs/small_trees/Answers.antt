use Rattle.thm_body_result.proofs.CallRows.{calls}
use Rattle.thm_body_result.proofs.DefRows.{definitions}
use Rattle.thm_body_result.proofs.PatRows.{patterned}
use Rattle.thm_body_result.proofs.Rows.{jumps, statements, enters_in_order, leaves, plain_forms, tries, fors, consts, closures}
use Rattle.thm_body_result.proofs.Rows.{coroutines, owners}
use Rattle.thm_body_result.proofs.PreludeRows.{coroutine_closures, owners_of_coroutines}
use Rattle.thm_body_result.proofs.OwnerRows.{owners_stand}
use Rattle.thm_body_result.proofs.WhileRows.{whiles}
use Rattle.thm_body_result.proofs.small_trees.Goals as goal

pub returns-clause-jumps : goal.returns-clause-jumps
returns-clause-jumps c = jumps

pub returns-clause-statements : goal.returns-clause-statements
returns-clause-statements c = statements

pub returns-clause-blocks : goal.returns-clause-blocks
returns-clause-blocks c = enters_in_order

pub returns-clause-leaves : goal.returns-clause-leaves
returns-clause-leaves c = leaves

pub returns-clause-plain_forms : goal.returns-clause-plain_forms
returns-clause-plain_forms c = plain_forms

pub returns-clause-patterned : goal.returns-clause-patterned
returns-clause-patterned c = patterned

pub returns-clause-tries : goal.returns-clause-tries
returns-clause-tries c = tries

pub returns-clause-fors : goal.returns-clause-fors
returns-clause-fors c = fors

pub returns-clause-whiles : goal.returns-clause-whiles
returns-clause-whiles c = whiles

pub returns-clause-consts : goal.returns-clause-consts
returns-clause-consts c = consts

pub returns-clause-closures : goal.returns-clause-closures
returns-clause-closures c = closures

pub returns-clause-coroutines : goal.returns-clause-coroutines
returns-clause-coroutines c = coroutines

pub returns-clause-owners : goal.returns-clause-owners
returns-clause-owners c = owners

pub returns-clause-coroutine_closures : goal.returns-clause-coroutine_closures
returns-clause-coroutine_closures c = coroutine_closures

pub returns-clause-owners_of_coroutines : goal.returns-clause-owners_of_coroutines
returns-clause-owners_of_coroutines c = owners_of_coroutines

pub returns-clause-calls : goal.returns-clause-calls
returns-clause-calls c = calls

pub returns-clause-definitions : goal.returns-clause-definitions
returns-clause-definitions c = definitions

pub returns-clause-owners_stand : goal.returns-clause-owners_stand
returns-clause-owners_stand c = owners_stand
