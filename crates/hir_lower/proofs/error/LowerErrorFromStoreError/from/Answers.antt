use Rattle.std.proofs.Common.{rules}
use Rattle.hir_lower.proofs.error.LowerErrorFromStoreError.from.Goals as goal

pub returns-in-Full : goal.returns-in-Full
returns-in-Full c = search rules
