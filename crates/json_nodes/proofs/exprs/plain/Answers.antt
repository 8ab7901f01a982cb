use Rattle.std.proofs.lemmas.Grind.{common_steps}
use Rattle.std.proofs.Common.{refl, arith}
use Rattle.json_nodes.specs.Exprs.{plain}
use Rattle.json_nodes.proofs.exprs.plain.Goals as goal

pub returns-in-CallExpr : goal.returns-in-CallExpr
unfolding plain
returns-in-CallExpr g c = λ e.
    let made = c.whole.ensures e in
    let args = c.field-args.ensures made.0 in
    let expr = c.field-expr.ensures args.0 in
    (expr.0, rw c.in-CallExpr.is (rw made.1 (rw args.1 (rw expr.1 refl))))

pub returns-in-PathExpr : goal.returns-in-PathExpr
unfolding plain
returns-in-PathExpr g c = λ e.
    let made = c.whole-in-PathExpr.ensures e in
    let path = c.field-path.ensures made.0 in
    (path.0, rw c.in-PathExpr.is (rw made.1 (rw path.1 refl)))

pub returns-in-ParenExpr : goal.returns-in-ParenExpr
unfolding plain
returns-in-ParenExpr g c = λ e.
    let made = c.whole-in-ParenExpr.ensures e in
    let expr = c.field-expr-in-ParenExpr.ensures made.0 in
    (expr.0, rw c.in-ParenExpr.is (rw made.1 (rw expr.1 refl)))

pub returns-in-RangeExpr : goal.returns-in-RangeExpr
unfolding plain
returns-in-RangeExpr g c = λ e.
    let made = c.whole-in-RangeExpr.ensures e in
    let end = c.field-end.ensures made.0 in
    let start = c.field-start.ensures end.0 in
    (start.0, rw (c.in-RangeExpr.is, made.1, c.range_op-op.ensures, c.value.ensures, start.1, end.1))

pub returns-in-MacroExpr : goal.returns-in-MacroExpr
unfolding plain
returns-in-MacroExpr g c = λ e.
    let made = c.whole-in-MacroExpr.ensures e in
    let call = c.field-call.ensures made.0 in
    (call.0, rw c.in-MacroExpr.is (rw made.1 (rw call.1 refl)))

pub field-expr-requires : goal.field-expr-requires
field-expr-requires g c = c.requires

pub field-start-requires : goal.field-start-requires
field-start-requires g c = c.requires

pub field-expr-requires-in-ParenExpr : goal.field-expr-requires-in-ParenExpr
field-expr-requires-in-ParenExpr g c = c.requires

pub field-args-requires : goal.field-args-requires
field-args-requires g c = c.requires

pub returns-in_default : goal.returns-in_default
unfolding plain
returns-in_default g c = grind (arith, common_steps)

pub field-call-requires : goal.field-call-requires
field-call-requires g c = c.requires

pub field-path-requires : goal.field-path-requires
field-path-requires g c = c.requires

pub field-end-requires : goal.field-end-requires
field-end-requires g c = c.requires
