use Rattle.std.proofs.lemmas.Grind.{common_steps}
use Rattle.std.proofs.Common.{rules, arith}
use Rattle.serde_json.specs.View.{items_view}
use Rattle.lower_json.proofs.Tuples.{answer_over_five, answer_three, answer_under_three}
use Rattle.lower_json.proofs.macros.answer_in.Goals as goal

pub returns-in-len3 : goal.returns-in-len3
returns-in-len3 c =
    answer_three c.args.kinds.now (items_view c.args.nodes.now.nodes.now) c.args.entry.now c.in-len3.len_at_least c.in-len3.len_below

pub returns-in_default : goal.returns-in_default
returns-in_default c = search (rules, answer_under_three, answer_over_five)

pub bounds-entry-4 : goal.bounds-entry-4
bounds-entry-4 c = grind (arith, common_steps)

pub bounds-entry-1-then-entry-lt6 : goal.bounds-entry-1-then-entry-lt6
bounds-entry-1-then-entry-lt6 c = grind (arith, common_steps)

pub bounds-entry-0 : goal.bounds-entry-0
bounds-entry-0 c = grind (arith, common_steps)

pub bounds-entry-0-then-entry-lt5 : goal.bounds-entry-0-then-entry-lt5
bounds-entry-0-then-entry-lt5 c = grind (arith, common_steps)

pub returns-in-len5 : goal.returns-in-len5
returns-in-len5 c = grind (arith, common_steps)

pub bounds-entry-2 : goal.bounds-entry-2
bounds-entry-2 c = grind (arith, common_steps)

pub bounds-entry-1 : goal.bounds-entry-1
bounds-entry-1 c = grind (arith, common_steps)

pub returns-in-len4 : goal.returns-in-len4
returns-in-len4 c = grind (arith, common_steps)

pub bounds-entry-2-then-entry-lt6 : goal.bounds-entry-2-then-entry-lt6
bounds-entry-2-then-entry-lt6 c = grind (arith, common_steps)

pub bounds-entry-2-then-entry-lt5 : goal.bounds-entry-2-then-entry-lt5
bounds-entry-2-then-entry-lt5 c = grind (arith, common_steps)

pub bounds-entry-3 : goal.bounds-entry-3
bounds-entry-3 c = grind (arith, common_steps)

pub bounds-entry-0-then-entry-lt6 : goal.bounds-entry-0-then-entry-lt6
bounds-entry-0-then-entry-lt6 c = grind (arith, common_steps)

pub bounds-entry-1-then-entry-lt5 : goal.bounds-entry-1-then-entry-lt5
bounds-entry-1-then-entry-lt5 c = grind (arith, common_steps)

pub bounds-entry-3-then-entry-lt6 : goal.bounds-entry-3-then-entry-lt6
bounds-entry-3-then-entry-lt6 c = grind (arith, common_steps)
