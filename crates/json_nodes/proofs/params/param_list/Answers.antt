use Rattle.json_nodes.specs.Params.{param_list}
use Rattle.json_nodes.proofs.params.param_list.Goals as goal

pub returns : goal.returns
unfolding param_list
returns g c = λ e.
    let made = c.in_box.ensures e in
    let params = c.field-params.ensures made.0 in
    let first = c.field-self_.ensures params.0 in
    (first.0, rw (made.1, c.id.ensures, c.range.ensures, first.1, params.1))

pub field-self_-requires : goal.field-self_-requires
field-self_-requires g c = c.requires

pub field-params-requires : goal.field-params-requires
field-params-requires g c = c.requires
