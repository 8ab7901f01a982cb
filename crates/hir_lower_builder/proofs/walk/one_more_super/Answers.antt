use Rattle.std.proofs.Common.{rules}
use Rattle.hir_lower_builder.proofs.walk.one_more_super.Goals as goal

pub returns-in-Some : goal.returns-in-Some
returns-in-Some c = search rules
