use Rattle.std.proofs.Common.{arith}
use Rattle.std.proofs.lemmas.Grind.{common_steps}
use Rattle.hir_lower_pat.proofs.KindLemmas.{named_side}
use Rattle.hir_lower_bind.proofs.sides.plain_side.Goals as goal

pub returns-then-is_without_words : goal.returns-then-is_without_words
returns-then-is_without_words g c = grind (arith, common_steps, named_side)

pub returns-else-is_without_words : goal.returns-else-is_without_words
returns-else-is_without_words g c = grind (arith, common_steps, named_side)

pub returns-in-Some : goal.returns-in-Some
returns-in-Some g c = grind (arith, common_steps, named_side)
