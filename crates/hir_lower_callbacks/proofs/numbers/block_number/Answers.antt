use Rattle.std.proofs.Common.{rules}
use Rattle.hir_lower_callbacks.proofs.numbers.block_number.Goals as goal

pub returns-in-Some : goal.returns-in-Some
returns-in-Some c = search rules
