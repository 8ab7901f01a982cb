use Rattle.std.proofs.lemmas.Grind.{common_steps}
use Rattle.std.proofs.Common.{arith}
use Rattle.json_nodes.specs.Typed.{of_record}
use Rattle.json_nodes.proofs.typed.of_record.Goals as goal

pub returns-in-RecordExprFieldList : goal.returns-in-RecordExprFieldList
unfolding of_record
returns-in-RecordExprFieldList g c = λ e.
    let spread = c.field-spread.ensures e in
    let fields = c.field-fields.ensures spread.0 in
    (fields.0, rw (c.in-RecordExprFieldList.is, c.id.ensures, c.range.ensures, fields.1, spread.1, c.flag.ensures, c.value.ensures))

pub returns-in-RecordExprField : goal.returns-in-RecordExprField
unfolding of_record
returns-in-RecordExprField g c = λ e.
    let expr = c.field-expr.ensures e in
    let name = c.field-name.ensures expr.0 in
    (name.0, rw (c.in-RecordExprField.is, c.id-in-RecordExprField.ensures, c.range-in-RecordExprField.ensures, name.1, expr.1))

pub field-name-requires : goal.field-name-requires
field-name-requires g c = c.requires

pub field-spread-requires : goal.field-spread-requires
field-spread-requires g c = c.requires

pub field-expr-requires : goal.field-expr-requires
field-expr-requires g c = c.requires

pub field-fields-requires : goal.field-fields-requires
field-fields-requires g c = c.requires

pub returns-in_default : goal.returns-in_default
unfolding of_record
returns-in_default g c = grind (arith, common_steps)
