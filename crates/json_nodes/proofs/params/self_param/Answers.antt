use Rattle.json_nodes.specs.Params.{self_param}
use Rattle.json_nodes.proofs.params.self_param.Goals as goal

pub returns : goal.returns
unfolding self_param
returns g c = λ e.
    let made = c.in_box.ensures e in
    let ty = c.field-ty.ensures made.0 in
    let lifetime = c.field-lifetime.ensures ty.0 in
    let name = c.field-name.ensures lifetime.0 in (
      name.0,
      rw (
        made.1,
        c.id.ensures,
        c.range.ensures,
        name.1,
        c.flag.ensures,
        c.value.ensures,
        c.flag-2.ensures,
        c.value-2.ensures,
        lifetime.1,
        ty.1,
      ),
    )

pub field-name-requires : goal.field-name-requires
field-name-requires g c = c.requires

pub field-ty-requires : goal.field-ty-requires
field-ty-requires g c = c.requires

pub field-lifetime-requires : goal.field-lifetime-requires
field-lifetime-requires g c = c.requires
