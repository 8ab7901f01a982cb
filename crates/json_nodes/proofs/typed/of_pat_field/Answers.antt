use Rattle.std.proofs.lemmas.Grind.{common_steps}
use Rattle.std.proofs.Common.{arith}
use Rattle.json_nodes.specs.Typed.{of_pat_field}
use Rattle.json_nodes.proofs.typed.of_pat_field.Goals as goal

pub returns-in-RecordPatField : goal.returns-in-RecordPatField
unfolding of_pat_field
returns-in-RecordPatField g c = λ e.
    let pat = c.field-pat.ensures e in
    let name = c.field-name.ensures pat.0 in
    (name.0, rw (c.in-RecordPatField.is, c.id.ensures, c.range.ensures, name.1, pat.1))

pub field-pat-requires : goal.field-pat-requires
field-pat-requires g c = c.requires

pub field-name-requires : goal.field-name-requires
field-name-requires g c = c.requires

pub returns-in_default : goal.returns-in_default
unfolding of_pat_field
returns-in_default g c = grind (arith, common_steps)
