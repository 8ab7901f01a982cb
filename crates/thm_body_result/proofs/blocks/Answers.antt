use Rattle.thm_body_result.proofs.TreeBlocks.{blocks_are}
use Rattle.thm_body_result.proofs.blocks.Goals as goal

pub returns : goal.returns
returns c = blocks_are
