use Rattle.std.proofs.lemmas.Grind.{common_steps}
use Rattle.std.proofs.Common.{arith}
use Rattle.json_errors.proofs.by_word.of_9.Goals as goal

pub returns-in-ForBinder : goal.returns-in-ForBinder
returns-in-ForBinder c = grind (arith, common_steps)

pub returns-in-MacroCall : goal.returns-in-MacroCall
returns-in-MacroCall c = grind (arith, common_steps)

pub returns-in-SelfParam : goal.returns-in-SelfParam
returns-in-SelfParam c = grind (arith, common_steps)

pub returns-in-InferType : goal.returns-in-InferType
returns-in-InferType c = grind (arith, common_steps)

pub returns-in-MacroType : goal.returns-in-MacroType
returns-in-MacroType c = grind (arith, common_steps)

pub returns-in-ParenType : goal.returns-in-ParenType
returns-in-ParenType c = grind (arith, common_steps)

pub returns-in-TypeParam : goal.returns-in-TypeParam
returns-in-TypeParam c = grind (arith, common_steps)

pub returns-in-NeverType : goal.returns-in-NeverType
returns-in-NeverType c = grind (arith, common_steps)

pub returns-in-WherePred : goal.returns-in-WherePred
returns-in-WherePred c = grind (arith, common_steps)

pub returns-in-ParenArgs : goal.returns-in-ParenArgs
returns-in-ParenArgs c = grind (arith, common_steps)

pub returns-in-ArrayType : goal.returns-in-ArrayType
returns-in-ArrayType c = grind (arith, common_steps)

pub returns-in-SliceType : goal.returns-in-SliceType
returns-in-SliceType c = grind (arith, common_steps)

pub returns-in-TypeAlias : goal.returns-in-TypeAlias
returns-in-TypeAlias c = grind (arith, common_steps)

pub returns-in-FnPtrType : goal.returns-in-FnPtrType
returns-in-FnPtrType c = grind (arith, common_steps)

pub returns-in-MacroExpr : goal.returns-in-MacroExpr
returns-in-MacroExpr c = grind (arith, common_steps)

pub returns-in-BreakExpr : goal.returns-in-BreakExpr
returns-in-BreakExpr c = grind (arith, common_steps)

pub returns-in-MatchExpr : goal.returns-in-MatchExpr
returns-in-MatchExpr c = grind (arith, common_steps)

pub returns-in-AwaitExpr : goal.returns-in-AwaitExpr
returns-in-AwaitExpr c = grind (arith, common_steps)

pub returns-in-RangeExpr : goal.returns-in-RangeExpr
returns-in-RangeExpr c = grind (arith, common_steps)

pub returns-in-WhileExpr : goal.returns-in-WhileExpr
returns-in-WhileExpr c = grind (arith, common_steps)

pub returns-in-TupleType : goal.returns-in-TupleType
returns-in-TupleType c = grind (arith, common_steps)

pub returns-in-YieldExpr : goal.returns-in-YieldExpr
returns-in-YieldExpr c = grind (arith, common_steps)

pub returns-in-IndexExpr : goal.returns-in-IndexExpr
returns-in-IndexExpr c = grind (arith, common_steps)

pub returns-in-TupleExpr : goal.returns-in-TupleExpr
returns-in-TupleExpr c = grind (arith, common_steps)

pub returns-in-TypeBound : goal.returns-in-TypeBound
returns-in-TypeBound c = grind (arith, common_steps)

pub returns-in-ArrayExpr : goal.returns-in-ArrayExpr
returns-in-ArrayExpr c = grind (arith, common_steps)

pub returns-in-RecordPat : goal.returns-in-RecordPat
returns-in-RecordPat c = grind (arith, common_steps)
