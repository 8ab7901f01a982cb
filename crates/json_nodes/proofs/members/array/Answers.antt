use Rattle.json_nodes.specs.Exprs.{array}
use Rattle.json_nodes.proofs.members.array.Goals as goal

pub returns-then-flag : goal.returns-then-flag
unfolding array
returns-then-flag g c = λ e.
    let len = c.field-len.ensures e in
    let init = c.field-init.ensures len.0 in
    (init.0, rw (init.1, len.1, ← c.value.ensures, ← c.flag.ensures, c.if-flag.true))

pub returns-else-flag : goal.returns-else-flag
unfolding array
returns-else-flag g c = λ e.
    let elems = c.field-elems.ensures e in
    (elems.0, rw (elems.1, ← c.value.ensures, ← c.flag.ensures, c.if-flag.false))

pub field-len-requires : goal.field-len-requires
field-len-requires g c = c.requires

pub field-elems-requires : goal.field-elems-requires
field-elems-requires g c = c.requires

pub field-init-requires : goal.field-init-requires
field-init-requires g c = c.requires
