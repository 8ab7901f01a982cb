use Rattle.std.proofs.lemmas.Grind.{common_steps}
use Rattle.std.proofs.Common.{arith}
use Rattle.lower_json.specs.Reading.{of_kind}
use Rattle.lower_json.proofs.sorts.of_kind.Goals as goal

pub returns-in-Literal : goal.returns-in-Literal
unfolding of_kind
returns-in-Literal g c = rw c.in-Literal.is c.literal_part.ensures

pub returns-in-IfExpr : goal.returns-in-IfExpr
unfolding of_kind
returns-in-IfExpr g c = rw c.in-IfExpr.is c.if_part.ensures

pub returns-in-BlockExpr : goal.returns-in-BlockExpr
unfolding of_kind
returns-in-BlockExpr g c = rw c.in-BlockExpr.is c.block_part.ensures

pub returns-in-PathType : goal.returns-in-PathType
unfolding of_kind
returns-in-PathType g c = rw c.in-PathType.is c.path_type_part.ensures

pub returns-in-Expr : goal.returns-in-Expr
unfolding of_kind
returns-in-Expr g c = rw c.in-Expr.is c.expr_part.ensures

pub returns-in-Stmt : goal.returns-in-Stmt
unfolding of_kind
returns-in-Stmt g c = rw c.in-Stmt.is c.stmt_part.ensures

pub returns-in-Pat : goal.returns-in-Pat
unfolding of_kind
returns-in-Pat g c = rw c.in-Pat.is c.pat_part.ensures

pub returns-in-Type_ : goal.returns-in-Type_
unfolding of_kind
returns-in-Type_ g c = rw c.in-Type_.is c.type_part.ensures

pub returns-in-Path : goal.returns-in-Path
unfolding of_kind
returns-in-Path g c = rw c.in-Path.is c.path_part.ensures

pub returns-in-Part : goal.returns-in-Part
unfolding of_kind
returns-in-Part g c = rw c.in-Part.is c.of_part.ensures

pub stmt_part-requires : goal.stmt_part-requires
unfolding of_kind
stmt_part-requires g c = grind (arith, common_steps)

pub pat_part-requires : goal.pat_part-requires
unfolding of_kind
pat_part-requires g c = grind (arith, common_steps)

pub if_part-requires : goal.if_part-requires
unfolding of_kind
if_part-requires g c = grind (arith, common_steps)

pub type_part-requires : goal.type_part-requires
unfolding of_kind
type_part-requires g c = grind (arith, common_steps)

pub returns-in-Item : goal.returns-in-Item
unfolding of_kind
returns-in-Item g c = grind (arith, common_steps)

pub block_part-requires : goal.block_part-requires
unfolding of_kind
block_part-requires g c = grind (arith, common_steps)

pub of_part-requires : goal.of_part-requires
unfolding of_kind
of_part-requires g c = grind (arith, common_steps)

pub path_type_part-requires : goal.path_type_part-requires
unfolding of_kind
path_type_part-requires g c = grind (arith, common_steps)

pub path_part-requires : goal.path_part-requires
unfolding of_kind
path_part-requires g c = grind (arith, common_steps)

pub expr_part-requires : goal.expr_part-requires
unfolding of_kind
expr_part-requires g c = grind (arith, common_steps)
