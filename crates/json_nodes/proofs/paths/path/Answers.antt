use Rattle.json_nodes.specs.Paths.{path}
use Rattle.json_nodes.proofs.paths.path.Goals as goal

pub returns : goal.returns
unfolding path
returns g c = λ e.
    let segs = c.field-segs.ensures e in
    let used = c.field-use_.ensures segs.0 in
    (used.0, rw (c.id.ensures, c.range.ensures, c.flag.ensures, c.value.ensures, c.flag-2.ensures, c.value-2.ensures, used.1, segs.1))

pub field-use_-requires : goal.field-use_-requires
field-use_-requires g c = c.requires

pub field-segs-requires : goal.field-segs-requires
field-segs-requires g c = c.requires
