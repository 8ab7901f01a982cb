use Rattle.std.proofs.lemmas.Grind.{common_steps}
use Rattle.std.proofs.Common.{arith}
use Rattle.json_errors.proofs.by_word.of_10.Goals as goal

pub returns-in-NotNullPat : goal.returns-in-NotNullPat
returns-in-NotNullPat c = grind (arith, common_steps)

pub returns-in-LiteralPat : goal.returns-in-LiteralPat
returns-in-LiteralPat c = grind (arith, common_steps)

pub returns-in-MacroRules : goal.returns-in-MacroRules
returns-in-MacroRules c = grind (arith, common_steps)

pub returns-in-ConstParam : goal.returns-in-ConstParam
returns-in-ConstParam c = grind (arith, common_steps)

pub returns-in-MacroStmts : goal.returns-in-MacroStmts
returns-in-MacroStmts c = grind (arith, common_steps)

pub returns-in-CfgPredPat : goal.returns-in-CfgPredPat
returns-in-CfgPredPat c = grind (arith, common_steps)
