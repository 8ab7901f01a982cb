use Rattle.std.proofs.Common.{refl}
use Rattle.json_nodes.specs.Exprs.{if_expr}
use Rattle.json_nodes.proofs.exprs.if_expr.Goals as goal

pub returns : goal.returns
unfolding if_expr
returns g c = λ e.
    let other = c.field-else_.ensures e in
    let block = c.field-then.ensures other.0 in
    let condition = c.field-condition.ensures block.0 in
    (condition.0, rw condition.1 (rw block.1 (rw other.1 refl)))

pub field-condition-requires : goal.field-condition-requires
field-condition-requires g c = c.requires

pub field-then-requires : goal.field-then-requires
field-then-requires g c = c.requires

pub field-else_-requires : goal.field-else_-requires
field-else_-requires g c = c.requires
