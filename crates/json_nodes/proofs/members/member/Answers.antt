use Rattle.std.proofs.lemmas.Grind.{common_steps}
use Rattle.std.proofs.Common.{refl, arith}
use Rattle.json_nodes.specs.Exprs.{member}
use Rattle.json_nodes.proofs.members.member.Goals as goal

pub returns-in-MethodCallExpr : goal.returns-in-MethodCallExpr
unfolding member
returns-in-MethodCallExpr g c = λ e.
    let made = c.whole.ensures e in
    let args = c.field-args.ensures made.0 in
    let generics = c.field-generics.ensures args.0 in
    let name = c.field-name.ensures generics.0 in
    let receiver = c.field-receiver.ensures name.0 in
    (receiver.0, rw c.in-MethodCallExpr.is (rw made.1 (rw args.1 (rw generics.1 (rw name.1 (rw receiver.1 refl))))))

pub returns-in-FieldExpr : goal.returns-in-FieldExpr
unfolding member
returns-in-FieldExpr g c = λ e.
    let made = c.whole-in-FieldExpr.ensures e in
    let name = c.field-name-in-FieldExpr.ensures made.0 in
    let expr = c.field-expr.ensures name.0 in
    (expr.0, rw c.in-FieldExpr.is (rw made.1 (rw name.1 (rw expr.1 refl))))

pub returns-in-TupleExpr : goal.returns-in-TupleExpr
unfolding member
returns-in-TupleExpr g c = λ e.
    let made = c.whole-in-TupleExpr.ensures e in
    let fields = c.field-fields.ensures made.0 in
    (fields.0, rw (c.in-TupleExpr.is, made.1, c.flag.ensures, c.value.ensures, fields.1))

pub returns-in-ArrayExpr : goal.returns-in-ArrayExpr
unfolding member
returns-in-ArrayExpr g c = λ e.
    let made = c.whole-in-ArrayExpr.ensures e in
    let kind = c.array-kind.ensures made.0 in
    (kind.0, rw (c.in-ArrayExpr.is, made.1, kind.1))

pub field-args-requires : goal.field-args-requires
field-args-requires g c = c.requires

pub array-kind-requires : goal.array-kind-requires
array-kind-requires g c = c.requires

pub field-expr-requires : goal.field-expr-requires
field-expr-requires g c = c.requires

pub field-name-requires : goal.field-name-requires
field-name-requires g c = c.requires

pub field-generics-requires : goal.field-generics-requires
field-generics-requires g c = c.requires

pub field-fields-requires : goal.field-fields-requires
field-fields-requires g c = c.requires

pub field-receiver-requires : goal.field-receiver-requires
field-receiver-requires g c = c.requires

pub field-name-requires-in-FieldExpr : goal.field-name-requires-in-FieldExpr
field-name-requires-in-FieldExpr g c = c.requires

pub returns-in_default : goal.returns-in_default
unfolding member
returns-in_default g c = grind (arith, common_steps)
