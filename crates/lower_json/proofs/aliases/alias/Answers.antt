use Rattle.std.proofs.lemmas.Grind.{common_steps}
use Rattle.std.proofs.Common.{arith}
use Rattle.lower_json.proofs.Tuples.{entry_under_two, entry_over_two}
use Rattle.lower_json.proofs.aliases.alias.Goals as goal

pub returns-in_err-item-in-len2 : goal.returns-in_err-item-in-len2
returns-in_err-item-in-len2 c = grind (arith, common_steps)

pub bounds-number-0 : goal.bounds-number-0
bounds-number-0 c = grind (arith, common_steps)

pub returns-in_err-root-in-len2 : goal.returns-in_err-root-in-len2
returns-in_err-root-in-len2 c = grind (arith, common_steps)

pub returns-in_err-as_array : goal.returns-in_err-as_array
returns-in_err-as_array c = grind (arith, common_steps)

pub bounds-root-1 : goal.bounds-root-1
bounds-root-1 c = grind (arith, common_steps)

pub returns-in_err-small-in-len2 : goal.returns-in_err-small-in-len2
returns-in_err-small-in-len2 c = grind (arith, common_steps)

pub returns-in_default : goal.returns-in_default
returns-in_default c = grind (arith, common_steps, entry_under_two, entry_over_two)
