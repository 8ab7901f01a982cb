use Rattle.std.proofs.Common.{rules}
use Rattle.hir_lower_callbacks.proofs.numbers.inside.Goals as goal

pub returns-in-Some : goal.returns-in-Some
returns-in-Some c = search rules
