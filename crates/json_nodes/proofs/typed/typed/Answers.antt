use Rattle.std.proofs.lemmas.Grind.{common_steps}
use Rattle.std.proofs.Common.{refl, arith}
use Rattle.json_nodes.specs.Typed.{typed}
use Rattle.json_nodes.proofs.typed.typed.Goals as goal

pub returns-in-CastExpr : goal.returns-in-CastExpr
unfolding typed
returns-in-CastExpr g c = λ e.
    let made = c.whole.ensures e in
    let ty = c.field-ty.ensures made.0 in
    let expr = c.field-expr.ensures ty.0 in
    (expr.0, rw c.in-CastExpr.is (rw made.1 (rw ty.1 (rw expr.1 refl))))

pub returns-in-RecordExpr : goal.returns-in-RecordExpr
unfolding typed
returns-in-RecordExpr g c = λ e.
    let made = c.whole-in-RecordExpr.ensures e in
    let list = c.field-list.ensures made.0 in
    let path = c.field-path.ensures list.0 in
    (path.0, rw c.in-RecordExpr.is (rw made.1 (rw list.1 (rw path.1 refl))))

pub returns-in-OffsetOfExpr : goal.returns-in-OffsetOfExpr
unfolding typed
returns-in-OffsetOfExpr g c = λ e.
    let made = c.whole-in-OffsetOfExpr.ensures e in
    let fields = c.field-fields.ensures made.0 in
    let ty = c.field-ty-in-OffsetOfExpr.ensures fields.0 in
    (ty.0, rw c.in-OffsetOfExpr.is (rw made.1 (rw fields.1 (rw ty.1 refl))))

pub returns-in-ClosureExpr : goal.returns-in-ClosureExpr
unfolding typed
returns-in-ClosureExpr g c = λ e.
    let made = c.whole-in-ClosureExpr.ensures e in
    let kind = c.closure-kind.ensures made.0 in
    (kind.0, rw (c.in-ClosureExpr.is, made.1, kind.1))

pub field-ty-requires : goal.field-ty-requires
field-ty-requires g c = c.requires

pub field-fields-requires : goal.field-fields-requires
field-fields-requires g c = c.requires

pub field-list-requires : goal.field-list-requires
field-list-requires g c = c.requires

pub returns-in_default : goal.returns-in_default
unfolding typed
returns-in_default g c = grind (arith, common_steps)

pub field-expr-requires : goal.field-expr-requires
field-expr-requires g c = c.requires

pub field-ty-requires-in-OffsetOfExpr : goal.field-ty-requires-in-OffsetOfExpr
field-ty-requires-in-OffsetOfExpr g c = c.requires

pub field-path-requires : goal.field-path-requires
field-path-requires g c = c.requires

pub closure-kind-requires : goal.closure-kind-requires
closure-kind-requires g c = c.requires
