use Rattle.std.proofs.lemmas.Grind.{common_steps}
use Rattle.std.proofs.Common.{arith}
use Rattle.json_errors.proofs.by_word.of_8.Goals as goal

pub returns-in-ConstArg : goal.returns-in-ConstArg
returns-in-ConstArg c = grind (arith, common_steps)

pub returns-in-SlicePat : goal.returns-in-SlicePat
returns-in-SlicePat c = grind (arith, common_steps)

pub returns-in-LoopExpr : goal.returns-in-LoopExpr
returns-in-LoopExpr c = grind (arith, common_steps)

pub returns-in-DerefPat : goal.returns-in-DerefPat
returns-in-DerefPat c = grind (arith, common_steps)

pub returns-in-MatchArm : goal.returns-in-MatchArm
returns-in-MatchArm c = grind (arith, common_steps)

pub returns-in-YeetExpr : goal.returns-in-YeetExpr
returns-in-YeetExpr c = grind (arith, common_steps)

pub returns-in-MacroDef : goal.returns-in-MacroDef
returns-in-MacroDef c = grind (arith, common_steps)

pub returns-in-ParenPat : goal.returns-in-ParenPat
returns-in-ParenPat c = grind (arith, common_steps)

pub returns-in-Lifetime : goal.returns-in-Lifetime
returns-in-Lifetime c = grind (arith, common_steps)

pub returns-in-RangePat : goal.returns-in-RangePat
returns-in-RangePat c = grind (arith, common_steps)

pub returns-in-MacroPat : goal.returns-in-MacroPat
returns-in-MacroPat c = grind (arith, common_steps)

pub returns-in-CastExpr : goal.returns-in-CastExpr
returns-in-CastExpr c = grind (arith, common_steps)

pub returns-in-PathType : goal.returns-in-PathType
returns-in-PathType c = grind (arith, common_steps)

pub returns-in-TuplePat : goal.returns-in-TuplePat
returns-in-TuplePat c = grind (arith, common_steps)
