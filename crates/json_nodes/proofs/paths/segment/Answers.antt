use Rattle.json_nodes.specs.Paths.{segment}
use Rattle.json_nodes.proofs.paths.segment.Goals as goal

pub returns : goal.returns
unfolding segment
returns g c = λ e.
    let made = c.in_box.ensures e in
    let of = c.field-trait_.ensures made.0 in
    let ty = c.field-ty.ensures of.0 in
    let ret = c.field-ret.ensures ty.0 in
    let parens = c.field-parens.ensures ret.0 in
    let generics = c.field-generics.ensures parens.0 in
    let name = c.field-name.ensures generics.0 in (
      name.0,
      rw (
        made.1,
        c.id.ensures,
        c.range.ensures,
        c.segment_kind.ensures,
        c.value.ensures,
        name.1,
        generics.1,
        parens.1,
        ret.1,
        c.flag.ensures,
        c.value-2.ensures,
        ty.1,
        of.1,
      ),
    )

pub field-ret-requires : goal.field-ret-requires
field-ret-requires g c = c.requires

pub field-parens-requires : goal.field-parens-requires
field-parens-requires g c = c.requires

pub field-ty-requires : goal.field-ty-requires
field-ty-requires g c = c.requires

pub field-generics-requires : goal.field-generics-requires
field-generics-requires g c = c.requires

pub field-name-requires : goal.field-name-requires
field-name-requires g c = c.requires

pub field-trait_-requires : goal.field-trait_-requires
field-trait_-requires g c = c.requires
