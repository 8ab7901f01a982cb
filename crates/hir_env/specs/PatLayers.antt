-- One level of a pattern, with the reading of each part in its place.
use Rattle.hir_syntax.specs.declared.ast.ElseBranch.TheOpen.{PatKind-F, Pat-F, RecordPatField-F}
use Rattle.hir_env.specs.Layers.{Sorts}

abbrev pub PatKindLayer : Sorts → Type 0
PatKindLayer S = PatKind-F S.ElseBranch S.ExprKind S.StmtKind S.PatKind S.GenericArg S.TypeKind S.BlockExpr S.Expr S.Path
    S.PathSegment S.RecordExprField S.RecordExprFieldList S.Stmt S.MatchArm S.MacroCall S.Pat S.RecordPatField S.AssocTypeArg S.Param
    S.PathType S.TypeBound S.Type_

abbrev pub PatLayer : Sorts → Type 0
PatLayer S = Pat-F S.ElseBranch S.ExprKind S.StmtKind S.PatKind S.GenericArg S.TypeKind S.BlockExpr S.Expr S.Path S.PathSegment
    S.RecordExprField S.RecordExprFieldList S.Stmt S.MatchArm S.MacroCall S.Pat S.RecordPatField S.AssocTypeArg S.Param S.PathType
    S.TypeBound S.Type_

abbrev pub RecordPatFieldLayer : Sorts → Type 0
RecordPatFieldLayer S = RecordPatField-F S.ElseBranch S.ExprKind S.StmtKind S.PatKind S.GenericArg S.TypeKind S.BlockExpr S.Expr
    S.Path S.PathSegment S.RecordExprField S.RecordExprFieldList S.Stmt S.MatchArm S.MacroCall S.Pat S.RecordPatField S.AssocTypeArg S.Param
    S.PathType S.TypeBound S.Type_
