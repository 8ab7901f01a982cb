use Rattle.std.proofs.Common.{arith}
use Rattle.std.proofs.lemmas.Grind.{common_steps}
use Rattle.hir_lower_bind.proofs.names.ident_form.Goals as goal

pub bind_form-requires-clause-part : goal.bind_form-requires-clause-part
bind_form-requires-clause-part g c = grind (arith, common_steps)

pub returns-then-branch : goal.returns-then-branch
returns-then-branch g c = grind (arith, common_steps)

pub returns-in-Some : goal.returns-in-Some
returns-in-Some g c = grind (arith, common_steps)

pub returns-else-is_without_words : goal.returns-else-is_without_words
returns-else-is_without_words g c = grind (arith, common_steps)

pub bind_form-requires-else-is_without_words-clause-part : goal.bind_form-requires-else-is_without_words-clause-part
bind_form-requires-else-is_without_words-clause-part g c = grind (arith, common_steps)
