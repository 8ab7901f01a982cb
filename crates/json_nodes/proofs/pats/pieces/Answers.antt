use Rattle.std.proofs.lemmas.Grind.{common_steps}
use Rattle.std.proofs.Common.{refl, arith}
use Rattle.json_nodes.specs.Pats.{pieces}
use Rattle.json_nodes.proofs.pats.pieces.Goals as goal

pub returns-in-SlicePat : goal.returns-in-SlicePat
unfolding pieces
returns-in-SlicePat g c = λ e.
    let made = c.whole-in-SlicePat.ensures e in
    let suffix = c.field-suffix.ensures made.0 in
    let slice = c.field-slice.ensures suffix.0 in
    let prefix = c.field-prefix.ensures slice.0 in
    (prefix.0, rw c.in-SlicePat.is (rw made.1 (rw suffix.1 (rw slice.1 (rw prefix.1 refl)))))

pub returns-in-RecordPat : goal.returns-in-RecordPat
unfolding pieces
returns-in-RecordPat g c = λ e.
    let made = c.whole.ensures e in
    let fields = c.field-fields.ensures made.0 in
    let path = c.field-path.ensures fields.0 in
    (path.0, rw (c.in-RecordPat.is, made.1, path.1, fields.1, c.flag-rest.ensures, c.value.ensures))

pub field-prefix-requires : goal.field-prefix-requires
field-prefix-requires g c = c.requires

pub field-suffix-requires : goal.field-suffix-requires
field-suffix-requires g c = c.requires

pub field-fields-requires : goal.field-fields-requires
field-fields-requires g c = c.requires

pub returns-in_default : goal.returns-in_default
unfolding pieces
returns-in_default g c = grind (arith, common_steps)

pub field-slice-requires : goal.field-slice-requires
field-slice-requires g c = c.requires

pub field-path-requires : goal.field-path-requires
field-path-requires g c = c.requires
