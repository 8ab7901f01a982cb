use Rattle.json_nodes.specs.Others.{label}
use Rattle.json_nodes.proofs.others.label.Goals as goal

pub returns : goal.returns
unfolding label
returns g c = λ e.
    let lifetime = c.field-lifetime.ensures e in
    (lifetime.0, rw (c.id.ensures, c.range.ensures, lifetime.1))

pub field-lifetime-requires : goal.field-lifetime-requires
field-lifetime-requires g c = c.requires
