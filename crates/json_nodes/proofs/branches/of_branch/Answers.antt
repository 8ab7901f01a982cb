use Rattle.std.proofs.lemmas.Grind.{common_steps}
use Rattle.std.proofs.Common.{refl, arith}
use Rattle.json_nodes.specs.Branches.{of_branch}
use Rattle.json_nodes.proofs.branches.of_branch.Goals as goal

pub returns-in-Guard : goal.returns-in-Guard
unfolding of_branch
returns-in-Guard g c = λ e.
    let condition = c.field-condition.ensures e in
    (condition.0, rw c.in-Guard.is (rw condition.1 refl))

pub returns-in-LetElse : goal.returns-in-LetElse
unfolding of_branch
returns-in-LetElse g c = λ e.
    let block = c.field-block.ensures e in
    (block.0, rw c.in-LetElse.is (rw block.1 refl))

pub returns-in-MatchArm : goal.returns-in-MatchArm
unfolding of_branch
returns-in-MatchArm g c = λ e.
    let expr = c.field-expr.ensures e in
    let guard = c.field-guard.ensures expr.0 in
    let pat = c.field-pat.ensures guard.0 in
    (pat.0, rw (c.in-MatchArm.is, c.id.ensures, c.range.ensures, pat.1, guard.1, expr.1))

pub field-pat-requires : goal.field-pat-requires
field-pat-requires g c = c.requires

pub field-block-requires : goal.field-block-requires
field-block-requires g c = c.requires

pub field-expr-requires : goal.field-expr-requires
field-expr-requires g c = c.requires

pub field-condition-requires : goal.field-condition-requires
field-condition-requires g c = c.requires

pub field-guard-requires : goal.field-guard-requires
field-guard-requires g c = c.requires

pub returns-in_default : goal.returns-in_default
unfolding of_branch
returns-in_default g c = grind (arith, common_steps)
