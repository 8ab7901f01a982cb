use Rattle.std.proofs.Common.{rules}
use Rattle.hir_lower_callbacks.proofs.numbers.number.Goals as goal

pub returns-in-Untracked : goal.returns-in-Untracked
returns-in-Untracked g c = search rules
