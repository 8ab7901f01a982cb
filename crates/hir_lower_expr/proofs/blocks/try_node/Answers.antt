use Rattle.std.proofs.Common.{arith}
use Rattle.std.proofs.lemmas.Grind.{common_steps}
use Rattle.hir_lower_builder.specs.Made.{try_block_form}
use Rattle.hir_lower_builder.proofs.BlockLemmas.{settled_in_range}
use Rattle.hir_lower_expr.proofs.blocks.try_node.Goals as goal

pub wrapped-requires : goal.wrapped-requires
wrapped-requires g c =
    let inner = c.in_ok-statements.ensures in
    let settled = settled_in_range c.contents.new.state.stored _ _ _ _ c.settle-tail.ensures inner.2.0 inner.2.1 in
    omega (arith, settled.1, c.close.ensures)

pub store_block-requires-clause-statements : goal.store_block-requires-clause-statements
store_block-requires-clause-statements g c =
    let inner = c.in_ok-statements.ensures in
    let settled = settled_in_range c.contents.new.state.stored _ _ _ _ c.settle-tail.ensures inner.2.0 inner.2.1 in
    let closed = c.close.ensures in
    let wrapped = c.in_ok-tail.ensures in
    let has = settled.0 in (
      omega (arith, has.0, closed, wrapped),
      omega (arith, has.1, closed, wrapped),
      omega (arith, has.2, closed, wrapped),
      omega (arith, has.3, closed, wrapped),
    )

pub returns : goal.returns
unfolding try_block_form
returns g c = grind (arith, common_steps)

pub returns-in_err-tail : goal.returns-in_err-tail
unfolding try_block_form
returns-in_err-tail g c = grind (arith, common_steps)

pub store_block-requires-clause-label : goal.store_block-requires-clause-label
unfolding try_block_form
store_block-requires-clause-label g c = grind (arith, common_steps)
