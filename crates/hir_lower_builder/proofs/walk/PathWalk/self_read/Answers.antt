use Rattle.std.proofs.Common.{rules}
use Rattle.hir_lower_builder.proofs.walk.PathWalk.self_read.Goals as goal

pub returns : goal.returns
returns c = search rules
