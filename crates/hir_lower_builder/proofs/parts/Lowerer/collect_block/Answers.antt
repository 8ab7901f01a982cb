use Rattle.std.proofs.lemmas.Grind.{common_steps}
use Rattle.std.proofs.Common.{arith}
use Rattle.hir_lower_builder.proofs.BlockLemmas.{plain_inside}
use Rattle.hir_lower_builder.proofs.parts.Lowerer.collect_block.Goals as goal

pub returns : goal.returns
returns g c =
    rw (plain_inside (g.P.LowerParts.rctx c.args.self.now.parts) c.args.node.now)
    (rw c.place.ensures at c.collect_block_inside.ensures)

pub collect_block_inside-requires-clause-role : goal.collect_block_inside-requires-clause-role
collect_block_inside-requires-clause-role g c = grind (arith, common_steps)

pub collect_block_inside-requires-clause-part : goal.collect_block_inside-requires-clause-part
collect_block_inside-requires-clause-part g c = grind (arith, common_steps)
