use Rattle.std.proofs.lemmas.Grind.{common_steps}
use Rattle.std.proofs.Common.{arith}
use Rattle.hir_lower_builder.proofs.BlockLemmas.{own_inside}
use Rattle.hir_lower_expr.proofs.blocks.block_form.Goals as goal

pub returns : goal.returns
returns g c = rw (own_inside (g.P.LowerParts.rctx c.args.lowerer.now.parts) c.args.node.now) c.headed_block.ensures

pub headed_block-requires : goal.headed_block-requires
headed_block-requires g c = grind (arith, common_steps)
