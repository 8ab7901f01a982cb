use Rattle.json_nodes.specs.Args.{assoc_arg}
use Rattle.json_nodes.proofs.args.assoc_arg.Goals as goal

pub returns : goal.returns
unfolding assoc_arg
returns g c = λ e.
    let made = c.in_box.ensures e in
    let bounds = c.field-bounds.ensures made.0 in
    let ty = c.field-ty.ensures bounds.0 in
    let generics = c.field-generics.ensures ty.0 in
    let name = c.field-name.ensures generics.0 in (
      name.0,
      rw (
        made.1,
        c.id.ensures,
        c.range.ensures,
        name.1,
        c.flag.ensures,
        c.value.ensures,
        generics.1,
        c.flag-2.ensures,
        c.value-2.ensures,
        ty.1,
        bounds.1,
      ),
    )

pub field-ty-requires : goal.field-ty-requires
field-ty-requires g c = c.requires

pub field-name-requires : goal.field-name-requires
field-name-requires g c = c.requires

pub field-generics-requires : goal.field-generics-requires
field-generics-requires g c = c.requires

pub field-bounds-requires : goal.field-bounds-requires
field-bounds-requires g c = c.requires
