use Rattle.std.proofs.lemmas.Grind.{common_steps}
use Rattle.std.proofs.Common.{arith}
use Rattle.json_errors.proofs.by_word.of_11.Goals as goal

pub returns-in-WhereClause : goal.returns-in-WhereClause
returns-in-WhereClause c = grind (arith, common_steps)

pub returns-in-PatternType : goal.returns-in-PatternType
returns-in-PatternType c = grind (arith, common_steps)

pub returns-in-LifetimeArg : goal.returns-in-LifetimeArg
returns-in-LifetimeArg c = grind (arith, common_steps)
