use Rattle.std.proofs.lemmas.Grind.{common_steps}
use Rattle.std.proofs.Common.{refl, arith}
use Rattle.json_nodes.specs.Exprs.{operation}
use Rattle.json_nodes.proofs.operations.operation.Goals as goal

pub returns-in-IndexExpr : goal.returns-in-IndexExpr
unfolding operation
returns-in-IndexExpr g c = λ e.
    let made = c.whole-in-IndexExpr.ensures e in
    let index = c.field-index.ensures made.0 in
    let base = c.field-base.ensures index.0 in
    (base.0, rw c.in-IndexExpr.is (rw made.1 (rw index.1 (rw base.1 refl))))

pub returns-in-PrefixExpr : goal.returns-in-PrefixExpr
unfolding operation
returns-in-PrefixExpr g c = λ e.
    let made = c.whole.ensures e in
    let expr = c.field-expr.ensures made.0 in
    (expr.0, rw (c.in-PrefixExpr.is, made.1, c.unary_op-op.ensures, c.value.ensures, expr.1))

pub returns-in-BinExpr : goal.returns-in-BinExpr
unfolding operation
returns-in-BinExpr g c = λ e.
    let made = c.whole-in-BinExpr.ensures e in
    let rhs = c.field-rhs.ensures made.0 in
    let lhs = c.field-lhs.ensures rhs.0 in
    (lhs.0, rw (c.in-BinExpr.is, made.1, c.binary_op-op.ensures, c.value-in-BinExpr.ensures, lhs.1, rhs.1))

pub returns-in-RefExpr : goal.returns-in-RefExpr
unfolding operation
returns-in-RefExpr g c = λ e.
    let made = c.whole-in-RefExpr.ensures e in
    let expr = c.field-expr-in-RefExpr.ensures made.0 in (
      expr.0,
      rw (
        c.in-RefExpr.is,
        made.1,
        c.flag.ensures,
        c.value-in-RefExpr.ensures,
        c.flag-in-RefExpr.ensures,
        c.value-in-RefExpr-2.ensures,
        expr.1,
      ),
    )

pub returns-in_default : goal.returns-in_default
unfolding operation
returns-in_default g c = grind (arith, common_steps)

pub field-base-requires : goal.field-base-requires
field-base-requires g c = c.requires

pub field-expr-requires-in-RefExpr : goal.field-expr-requires-in-RefExpr
field-expr-requires-in-RefExpr g c = c.requires

pub field-index-requires : goal.field-index-requires
field-index-requires g c = c.requires

pub field-expr-requires : goal.field-expr-requires
field-expr-requires g c = c.requires

pub field-rhs-requires : goal.field-rhs-requires
field-rhs-requires g c = c.requires

pub field-lhs-requires : goal.field-lhs-requires
field-lhs-requires g c = c.requires
