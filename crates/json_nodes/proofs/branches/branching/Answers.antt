use Rattle.std.proofs.lemmas.Grind.{common_steps}
use Rattle.std.proofs.Common.{refl, arith}
use Rattle.json_nodes.specs.Branches.{branching}
use Rattle.json_nodes.proofs.branches.branching.Goals as goal

pub returns-in-LetExpr : goal.returns-in-LetExpr
unfolding branching
returns-in-LetExpr g c = λ e.
    let made = c.whole.ensures e in
    let expr = c.field-expr.ensures made.0 in
    let pat = c.field-pat.ensures expr.0 in
    (pat.0, rw c.in-LetExpr.is (rw made.1 (rw expr.1 (rw pat.1 refl))))

pub returns-in-MatchExpr : goal.returns-in-MatchExpr
unfolding branching
returns-in-MatchExpr g c = λ e.
    let made = c.whole-in-MatchExpr.ensures e in
    let arms = c.field-arms.ensures made.0 in
    let expr = c.field-expr-in-MatchExpr.ensures arms.0 in
    (expr.0, rw c.in-MatchExpr.is (rw made.1 (rw arms.1 (rw expr.1 refl))))

pub field-expr-requires-in-MatchExpr : goal.field-expr-requires-in-MatchExpr
field-expr-requires-in-MatchExpr g c = c.requires

pub field-expr-requires : goal.field-expr-requires
field-expr-requires g c = c.requires

pub returns-in_default : goal.returns-in_default
unfolding branching
returns-in_default g c = grind (arith, common_steps)

pub field-arms-requires : goal.field-arms-requires
field-arms-requires g c = c.requires

pub field-pat-requires : goal.field-pat-requires
field-pat-requires g c = c.requires
