use Rattle.spec_semantics.proofs.ReadBlocks.{splices_statements as proved}
use Rattle.spec_semantics.proofs.reading.splices_statements.Goals as goal

pub returns : goal.returns
returns c = proved
