use Rattle.std.proofs.lemmas.Grind.{common_steps}
use Rattle.std.proofs.Common.{arith}
use Rattle.lower_json.proofs.macros.expand.Goals as goal

pub returns-in-None-clause-entry : goal.returns-in-None-clause-entry
returns-in-None-clause-entry c = grind (arith, common_steps)

pub returns-then-has_macro-clause-entry : goal.returns-then-has_macro-clause-entry
returns-then-has_macro-clause-entry c = grind (arith, common_steps)

pub returns-in-Some-2-clause-entry : goal.returns-in-Some-2-clause-entry
returns-in-Some-2-clause-entry c = grind (arith, common_steps)

pub returns-in-Some-2-clause-others : goal.returns-in-Some-2-clause-others
returns-in-Some-2-clause-others c = grind (arith, common_steps)

pub returns-in_default-clause-entry : goal.returns-in_default-clause-entry
returns-in_default-clause-entry c = grind (arith, common_steps)
