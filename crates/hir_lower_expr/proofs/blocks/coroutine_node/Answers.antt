use Rattle.std.proofs.Common.{rules}
use Rattle.hir_lower_builder.specs.Forms.{coroutine_block_form}
use Rattle.hir_lower_builder.specs.Lower.{coroutine_block_form}
use Rattle.hir_lower_expr.proofs.blocks.coroutine_node.Goals as goal

pub returns : goal.returns
unfolding coroutine_block_form
returns g c = search rules
