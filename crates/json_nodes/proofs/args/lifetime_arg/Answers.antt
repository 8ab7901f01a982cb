use Rattle.json_nodes.specs.Args.{lifetime_arg}
use Rattle.json_nodes.proofs.args.lifetime_arg.Goals as goal

pub returns : goal.returns
unfolding lifetime_arg
returns g c = λ e.
    let made = c.in_box.ensures e in
    let lifetime = c.field-lifetime.ensures made.0 in
    (lifetime.0, rw (made.1, c.id.ensures, c.range.ensures, lifetime.1))

pub field-lifetime-requires : goal.field-lifetime-requires
field-lifetime-requires g c = c.requires
