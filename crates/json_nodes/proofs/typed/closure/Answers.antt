use Rattle.json_nodes.specs.Typed.{closure}
use Rattle.json_nodes.proofs.typed.closure.Goals as goal

pub returns : goal.returns
unfolding closure
returns g c = λ e.
    let body = c.field-body.ensures e in
    let ret = c.field-ret.ensures body.0 in
    let params = c.field-params.ensures ret.0 in (
      params.0,
      rw (
        params.1,
        ret.1,
        body.1,
        c.flag.ensures,
        c.value.ensures,
        c.flag-2.ensures,
        c.value-2.ensures,
        c.flag-3.ensures,
        c.value-3.ensures,
        c.flag-4.ensures,
        c.value-4.ensures,
      ),
    )

pub field-params-requires : goal.field-params-requires
field-params-requires g c = c.requires

pub field-ret-requires : goal.field-ret-requires
field-ret-requires g c = c.requires

pub field-body-requires : goal.field-body-requires
field-body-requires g c = c.requires
