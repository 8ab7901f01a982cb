use Rattle.std.proofs.lemmas.Grind.{common_steps}
use Rattle.std.proofs.Common.{refl, arith}
use Rattle.json_nodes.specs.Pats.{named}
use Rattle.json_nodes.proofs.pats.named.Goals as goal

pub returns-in-PathPat : goal.returns-in-PathPat
unfolding named
returns-in-PathPat g c = λ e.
    let made = c.whole-in-PathPat.ensures e in
    let path = c.field-path-in-PathPat.ensures made.0 in
    (path.0, rw c.in-PathPat.is (rw made.1 (rw path.1 refl)))

pub returns-in-IdentPat : goal.returns-in-IdentPat
unfolding named
returns-in-IdentPat g c = λ e.
    let made = c.whole.ensures e in
    let pat = c.field-pat.ensures made.0 in
    let name = c.field-name.ensures pat.0 in (
      name.0,
      rw (
        c.in-IdentPat.is,
        made.1,
        name.1,
        c.flag.ensures,
        c.value.ensures,
        c.flag-in-IdentPat.ensures,
        c.value-in-IdentPat.ensures,
        pat.1,
      ),
    )

pub returns-in-TupleStructPat : goal.returns-in-TupleStructPat
unfolding named
returns-in-TupleStructPat g c = λ e.
    let made = c.whole-in-TupleStructPat.ensures e in
    let fields = c.field-fields.ensures made.0 in
    let path = c.field-path.ensures fields.0 in
    (path.0, rw (c.in-TupleStructPat.is, made.1, path.1, c.flag-in-TupleStructPat.ensures, c.value-in-TupleStructPat.ensures, fields.1))

pub returns-in-TuplePat : goal.returns-in-TuplePat
unfolding named
returns-in-TuplePat g c = λ e.
    let made = c.whole-in-TuplePat.ensures e in
    let fields = c.field-fields-in-TuplePat.ensures made.0 in
    (fields.0, rw (c.in-TuplePat.is, made.1, c.flag-in-TuplePat.ensures, c.value-in-TuplePat.ensures, fields.1))

pub field-fields-requires-in-TuplePat : goal.field-fields-requires-in-TuplePat
field-fields-requires-in-TuplePat g c = c.requires

pub field-pat-requires : goal.field-pat-requires
field-pat-requires g c = c.requires

pub field-path-requires : goal.field-path-requires
field-path-requires g c = c.requires

pub field-name-requires : goal.field-name-requires
field-name-requires g c = c.requires

pub returns-in_default : goal.returns-in_default
unfolding named
returns-in_default g c = grind (arith, common_steps)

pub field-fields-requires : goal.field-fields-requires
field-fields-requires g c = c.requires

pub field-path-requires-in-PathPat : goal.field-path-requires-in-PathPat
field-path-requires-in-PathPat g c = c.requires
