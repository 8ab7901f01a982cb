use Rattle.std.proofs.lemmas.Grind.{common_steps}
use Rattle.std.proofs.Common.{refl, arith}
use Rattle.json_nodes.specs.Exprs.{flow}
use Rattle.json_nodes.proofs.exprs.flow.Goals as goal

pub returns-in-LoopExpr : goal.returns-in-LoopExpr
unfolding flow
returns-in-LoopExpr g c = λ e.
    let made = c.whole.ensures e in
    let body = c.field-body.ensures made.0 in
    let label = c.field-label.ensures body.0 in
    (label.0, rw c.in-LoopExpr.is (rw made.1 (rw body.1 (rw label.1 refl))))

pub returns-in-WhileExpr : goal.returns-in-WhileExpr
unfolding flow
returns-in-WhileExpr g c = λ e.
    let made = c.whole-in-WhileExpr.ensures e in
    let body = c.field-body-in-WhileExpr.ensures made.0 in
    let condition = c.field-condition.ensures body.0 in
    let label = c.field-label-in-WhileExpr.ensures condition.0 in
    (label.0, rw c.in-WhileExpr.is (rw made.1 (rw body.1 (rw condition.1 (rw label.1 refl)))))

pub returns-in-ForExpr : goal.returns-in-ForExpr
unfolding flow
returns-in-ForExpr g c = λ e.
    let made = c.whole-in-ForExpr.ensures e in
    let body = c.field-body-in-ForExpr.ensures made.0 in
    let iterable = c.field-iterable.ensures body.0 in
    let pat = c.field-pat.ensures iterable.0 in
    let label = c.field-label-in-ForExpr.ensures pat.0 in
    (label.0, rw c.in-ForExpr.is (rw made.1 (rw body.1 (rw iterable.1 (rw pat.1 (rw label.1 refl))))))

pub returns-in-TryExpr : goal.returns-in-TryExpr
unfolding flow
returns-in-TryExpr g c = λ e.
    let made = c.whole-in-TryExpr.ensures e in
    let expr = c.field-expr.ensures made.0 in
    (expr.0, rw c.in-TryExpr.is (rw made.1 (rw expr.1 refl)))

pub returns-in-ContinueExpr : goal.returns-in-ContinueExpr
unfolding flow
returns-in-ContinueExpr g c = λ e.
    let made = c.whole-in-ContinueExpr.ensures e in
    let lifetime = c.field-lifetime.ensures made.0 in
    (lifetime.0, rw c.in-ContinueExpr.is (rw made.1 (rw lifetime.1 refl)))

pub returns-in-BreakExpr : goal.returns-in-BreakExpr
unfolding flow
returns-in-BreakExpr g c = λ e.
    let made = c.whole-in-BreakExpr.ensures e in
    let expr = c.field-expr-in-BreakExpr.ensures made.0 in
    let lifetime = c.field-lifetime-in-BreakExpr.ensures expr.0 in
    (lifetime.0, rw c.in-BreakExpr.is (rw made.1 (rw expr.1 (rw lifetime.1 refl))))

pub field-expr-requires-in-BreakExpr : goal.field-expr-requires-in-BreakExpr
field-expr-requires-in-BreakExpr g c = c.requires

pub field-pat-requires : goal.field-pat-requires
field-pat-requires g c = c.requires

pub field-label-requires-in-WhileExpr : goal.field-label-requires-in-WhileExpr
field-label-requires-in-WhileExpr g c = c.requires

pub field-label-requires : goal.field-label-requires
field-label-requires g c = c.requires

pub field-lifetime-requires : goal.field-lifetime-requires
field-lifetime-requires g c = c.requires

pub returns-in_default : goal.returns-in_default
unfolding flow
returns-in_default g c = grind (arith, common_steps)

pub field-expr-requires : goal.field-expr-requires
field-expr-requires g c = c.requires

pub field-body-requires : goal.field-body-requires
field-body-requires g c = c.requires

pub field-iterable-requires : goal.field-iterable-requires
field-iterable-requires g c = c.requires

pub field-body-requires-in-WhileExpr : goal.field-body-requires-in-WhileExpr
field-body-requires-in-WhileExpr g c = c.requires

pub field-lifetime-requires-in-BreakExpr : goal.field-lifetime-requires-in-BreakExpr
field-lifetime-requires-in-BreakExpr g c = c.requires

pub field-label-requires-in-ForExpr : goal.field-label-requires-in-ForExpr
field-label-requires-in-ForExpr g c = c.requires

pub field-body-requires-in-ForExpr : goal.field-body-requires-in-ForExpr
field-body-requires-in-ForExpr g c = c.requires

pub field-condition-requires : goal.field-condition-requires
field-condition-requires g c = c.requires
