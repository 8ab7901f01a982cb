use Rattle.std.proofs.Common.{rules}
use Rattle.hir_lower_builder.proofs.BlockLemmas.{settled_in_range}
use Rattle.hir_lower_builder.specs.Lower.{block_form}
use Rattle.hir_lower_expr.proofs.blocks.plain_node.Goals as goal

pub store_block-requires-clause-statements : goal.store_block-requires-clause-statements
store_block-requires-clause-statements g c =
    let inner = c.in_ok-statements.ensures in
    (settled_in_range c.contents.new.state.stored _ _ _ _ c.settle-tail.ensures inner.2.0 inner.2.1).0

pub store_block-requires-clause-tail : goal.store_block-requires-clause-tail
store_block-requires-clause-tail g c =
    let inner = c.in_ok-statements.ensures in
    (settled_in_range c.contents.new.state.stored _ _ _ _ c.settle-tail.ensures inner.2.0 inner.2.1).1

pub returns : goal.returns
unfolding block_form
returns g c = search rules
