use Rattle.std.proofs.lemmas.Grind.{common_steps}
use Rattle.std.proofs.Common.{arith}
use Rattle.json_errors.proofs.by_word.of_14.Goals as goal

pub returns-in-FormatArgsExpr : goal.returns-in-FormatArgsExpr
returns-in-FormatArgsExpr c = grind (arith, common_steps)
