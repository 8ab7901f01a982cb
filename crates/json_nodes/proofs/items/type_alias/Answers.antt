use Rattle.std.proofs.lemmas.Grind.{common_steps}
use Rattle.std.proofs.Common.{arith}
use Rattle.json_nodes.specs.Items.{type_alias}
use Rattle.json_nodes.proofs.items.type_alias.Goals as goal

pub returns : goal.returns
unfolding type_alias
returns g c = λ e.
    let ty = c.field-ty.ensures e in
    let conditions = c.where_clause-where_.ensures ty.0 in
    let generics = c.generics-generics.ensures conditions.0 in
    let bounds = c.field-bounds.ensures generics.0 in (
      bounds.0,
      rw (
        c.id.ensures,
        c.range.ensures,
        bounds.1,
        generics.1,
        c.value.ensures,
        conditions.1,
        c.value-2.ensures,
        ty.1,
      ),
    )

pub field-bounds-requires : goal.field-bounds-requires
unfolding type_alias
field-bounds-requires g c = grind (arith, common_steps)

pub field-ty-requires : goal.field-ty-requires
unfolding type_alias
field-ty-requires g c = grind (arith, common_steps)

pub generics-generics-requires : goal.generics-generics-requires
unfolding type_alias
generics-generics-requires g c = grind (arith, common_steps)

pub where_clause-where_-requires : goal.where_clause-where_-requires
unfolding type_alias
where_clause-where_-requires g c = grind (arith, common_steps)
