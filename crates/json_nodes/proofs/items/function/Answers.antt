use Rattle.std.proofs.lemmas.Grind.{common_steps}
use Rattle.std.proofs.Common.{arith}
use Rattle.json_nodes.specs.Items.{function}
use Rattle.json_nodes.proofs.items.function.Goals as goal

pub returns : goal.returns
unfolding function
returns g c = λ e.
    let body = c.field-body.ensures e in
    let ret = c.field-ret.ensures body.0 in
    let params = c.field-params.ensures ret.0 in
    let conditions = c.where_clause-where_.ensures params.0 in
    let generics = c.generics-generics.ensures conditions.0 in (
      generics.0,
      rw (
        c.id.ensures,
        c.range.ensures,
        generics.1,
        c.value.ensures,
        conditions.1,
        c.value-2.ensures,
        params.1,
        ret.1,
        body.1,
        c.flag.ensures,
        c.value-3.ensures,
        c.flag-2.ensures,
        c.value-4.ensures,
      ),
    )

pub field-ret-requires : goal.field-ret-requires
unfolding function
field-ret-requires g c = grind (arith, common_steps)

pub field-body-requires : goal.field-body-requires
unfolding function
field-body-requires g c = grind (arith, common_steps)

pub generics-generics-requires : goal.generics-generics-requires
unfolding function
generics-generics-requires g c = grind (arith, common_steps)

pub field-params-requires : goal.field-params-requires
unfolding function
field-params-requires g c = grind (arith, common_steps)

pub where_clause-where_-requires : goal.where_clause-where_-requires
unfolding function
where_clause-where_-requires g c = grind (arith, common_steps)
