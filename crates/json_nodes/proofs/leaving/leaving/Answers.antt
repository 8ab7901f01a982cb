use Rattle.std.proofs.lemmas.Grind.{common_steps}
use Rattle.std.proofs.Common.{refl, arith}
use Rattle.json_nodes.specs.Exprs.{leaving}
use Rattle.json_nodes.proofs.leaving.leaving.Goals as goal

pub returns-in-ReturnExpr : goal.returns-in-ReturnExpr
unfolding leaving
returns-in-ReturnExpr g c = λ e.
    let made = c.whole.ensures e in
    let expr = c.field-expr.ensures made.0 in
    (expr.0, rw c.in-ReturnExpr.is (rw made.1 (rw expr.1 refl)))

pub returns-in-BecomeExpr : goal.returns-in-BecomeExpr
unfolding leaving
returns-in-BecomeExpr g c = λ e.
    let made = c.whole-in-BecomeExpr.ensures e in
    let expr = c.field-expr-in-BecomeExpr.ensures made.0 in
    (expr.0, rw c.in-BecomeExpr.is (rw made.1 (rw expr.1 refl)))

pub returns-in-YieldExpr : goal.returns-in-YieldExpr
unfolding leaving
returns-in-YieldExpr g c = λ e.
    let made = c.whole-in-YieldExpr.ensures e in
    let expr = c.field-expr-in-YieldExpr.ensures made.0 in
    (expr.0, rw c.in-YieldExpr.is (rw made.1 (rw expr.1 refl)))

pub returns-in-YeetExpr : goal.returns-in-YeetExpr
unfolding leaving
returns-in-YeetExpr g c = λ e.
    let made = c.whole-in-YeetExpr.ensures e in
    let expr = c.field-expr-in-YeetExpr.ensures made.0 in
    (expr.0, rw c.in-YeetExpr.is (rw made.1 (rw expr.1 refl)))

pub returns-in-AwaitExpr : goal.returns-in-AwaitExpr
unfolding leaving
returns-in-AwaitExpr g c = λ e.
    let made = c.whole-in-AwaitExpr.ensures e in
    let expr = c.field-expr-in-AwaitExpr.ensures made.0 in
    (expr.0, rw c.in-AwaitExpr.is (rw made.1 (rw expr.1 refl)))

pub field-expr-requires-in-AwaitExpr : goal.field-expr-requires-in-AwaitExpr
field-expr-requires-in-AwaitExpr g c = c.requires

pub field-expr-requires : goal.field-expr-requires
field-expr-requires g c = c.requires

pub field-expr-requires-in-YeetExpr : goal.field-expr-requires-in-YeetExpr
field-expr-requires-in-YeetExpr g c = c.requires

pub returns-in_default : goal.returns-in_default
unfolding leaving
returns-in_default g c = grind (arith, common_steps)

pub field-expr-requires-in-YieldExpr : goal.field-expr-requires-in-YieldExpr
field-expr-requires-in-YieldExpr g c = c.requires

pub field-expr-requires-in-BecomeExpr : goal.field-expr-requires-in-BecomeExpr
field-expr-requires-in-BecomeExpr g c = c.requires
