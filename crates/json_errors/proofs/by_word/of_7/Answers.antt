use Rattle.std.proofs.lemmas.Grind.{common_steps}
use Rattle.std.proofs.Common.{arith}
use Rattle.json_errors.proofs.by_word.of_7.Goals as goal

pub returns-in-ForType : goal.returns-in-ForType
returns-in-ForType c = grind (arith, common_steps)

pub returns-in-AsmExpr : goal.returns-in-AsmExpr
returns-in-AsmExpr c = grind (arith, common_steps)

pub returns-in-TryExpr : goal.returns-in-TryExpr
returns-in-TryExpr c = grind (arith, common_steps)

pub returns-in-RestPat : goal.returns-in-RestPat
returns-in-RestPat c = grind (arith, common_steps)

pub returns-in-TypeArg : goal.returns-in-TypeArg
returns-in-TypeArg c = grind (arith, common_steps)

pub returns-in-LetExpr : goal.returns-in-LetExpr
returns-in-LetExpr c = grind (arith, common_steps)

pub returns-in-PathPat : goal.returns-in-PathPat
returns-in-PathPat c = grind (arith, common_steps)

pub returns-in-LetElse : goal.returns-in-LetElse
returns-in-LetElse c = grind (arith, common_steps)

pub returns-in-RefType : goal.returns-in-RefType
returns-in-RefType c = grind (arith, common_steps)

pub returns-in-PtrType : goal.returns-in-PtrType
returns-in-PtrType c = grind (arith, common_steps)

pub returns-in-RetType : goal.returns-in-RetType
returns-in-RetType c = grind (arith, common_steps)

pub returns-in-ForExpr : goal.returns-in-ForExpr
returns-in-ForExpr c = grind (arith, common_steps)
