use Rattle.json_nodes.specs.Bounds.{bound}
use Rattle.json_nodes.proofs.bounds.bound.Goals as goal

pub returns : goal.returns
unfolding bound
returns g c = λ e.
    let made = c.in_box.ensures e in
    let uses = c.field-uses.ensures made.0 in
    let lifetime = c.field-lifetime.ensures uses.0 in
    let binder = c.field-binder.ensures lifetime.0 in
    let ty = c.field-ty.ensures binder.0 in (
      ty.0,
      rw (
        made.1,
        c.id.ensures,
        c.range.ensures,
        c.bound_kind.ensures,
        c.value.ensures,
        ty.1,
        binder.1,
        c.flag.ensures,
        c.value-2.ensures,
        lifetime.1,
        uses.1,
      ),
    )

pub field-binder-requires : goal.field-binder-requires
field-binder-requires g c = c.requires

pub field-ty-requires : goal.field-ty-requires
field-ty-requires g c = c.requires

pub field-lifetime-requires : goal.field-lifetime-requires
field-lifetime-requires g c = c.requires

pub field-uses-requires : goal.field-uses-requires
field-uses-requires g c = c.requires
