use Rattle.std.proofs.lemmas.Grind.{common_steps}
use Rattle.std.proofs.Common.{arith, rules}
use Rattle.hir_lower_builder.specs.Forms.{coroutine_around_form}
use Rattle.hir_lower_builder.proofs.BlockLemmas.{settled_in_range}
use Rattle.hir_lower_expr.proofs.blocks.coroutine_around.Goals as goal

pub store_block-requires-clause-statements : goal.store_block-requires-clause-statements
store_block-requires-clause-statements g c =
    (settled_in_range c.args.state.now.stored _ _ _ _ c.settle-tail.ensures c.requires.0 c.requires.1).0

pub store_block-requires-clause-tail : goal.store_block-requires-clause-tail
store_block-requires-clause-tail g c =
    (settled_in_range c.args.state.now.stored _ _ _ _ c.settle-tail.ensures c.requires.0 c.requires.1).1

pub returns : goal.returns
unfolding coroutine_around_form
returns g c = search rules

pub store_coroutine-requires : goal.store_coroutine-requires
unfolding coroutine_around_form
store_coroutine-requires g c = grind (arith, common_steps)
