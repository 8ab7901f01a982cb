use Rattle.hir_scopes.proofs.PartLemmas.{assignment_listed, other_listed, other_parts}
use Rattle.hir_scopes.proofs.parts.walk_plain_parts.Goals as goal

pub returns-in_ok-take-in-Assignment : goal.returns-in_ok-take-in-Assignment
returns-in_ok-take-in-Assignment c =
    assignment_listed c.args.store.now c.args.expr.now c.in-Assignment.target c.in-Assignment.value c.args.listed.now
    c.walk_exprs_in_pat.new.sink c.take.new.self c.in-Assignment.is c.in_ok-walk_exprs_in_pat-in-Assignment.ensures
    c.in_ok-take-in-Assignment.ensures

pub returns-in_ok-walk_child_exprs_without_pats-in_default : goal.returns-in_ok-walk_child_exprs_without_pats-in_default
returns-in_ok-walk_child_exprs_without_pats-in_default c =
    other_listed c.args.store.now c.args.id c.args.expr.now c.args.listed.now c.walk_child_exprs_without_pats.new.sink c.requires
    (other_parts c.args.store.now c.args.expr.now c.in_default.not-Assignment)
    c.in_ok-walk_child_exprs_without_pats-in_default.ensures
