use Rattle.json_nodes.specs.Types.{function_pointer}
use Rattle.json_nodes.proofs.types.function_pointer.Goals as goal

pub returns : goal.returns
unfolding function_pointer
returns g c = λ e.
    let ret = c.field-ret.ensures e in
    let params = c.field-params.ensures ret.0 in
    let abi = c.field-abi.ensures params.0 in
    (abi.0, rw (c.flag.ensures, c.value.ensures, abi.1, params.1, ret.1))

pub field-params-requires : goal.field-params-requires
field-params-requires g c = c.requires

pub field-abi-requires : goal.field-abi-requires
field-abi-requires g c = c.requires

pub field-ret-requires : goal.field-ret-requires
field-ret-requires g c = c.requires
