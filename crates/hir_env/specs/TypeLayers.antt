-- One level of a type or a path, with the reading of each part in its place.
use Rattle.hir_syntax.specs.declared.ast.ElseBranch.TheOpen.{GenericArg-F, TypeKind-F, Path-F, PathSegment-F, AssocTypeArg-F}
use Rattle.hir_syntax.specs.declared.ast.ElseBranch.TheOpen.{Param-F, PathType-F}
use Rattle.hir_syntax.specs.declared.ast.ElseBranch.TheOpen.{TypeBound-F, Type_-F}
use Rattle.hir_env.specs.Layers.{Sorts}
pub use Rattle.hir_env.specs.Layers.{ParamReading, PathReading, PathTypeReading}

abbrev pub GenericArgLayer : Sorts → Type 0
GenericArgLayer S = GenericArg-F S.ElseBranch S.ExprKind S.StmtKind S.PatKind S.GenericArg S.TypeKind S.BlockExpr S.Expr S.Path
    S.PathSegment S.RecordExprField S.RecordExprFieldList S.Stmt S.MatchArm S.MacroCall S.Pat S.RecordPatField S.AssocTypeArg S.Param
    S.PathType S.TypeBound S.Type_

abbrev pub TypeKindLayer : Sorts → Type 0
TypeKindLayer S = TypeKind-F S.ElseBranch S.ExprKind S.StmtKind S.PatKind S.GenericArg S.TypeKind S.BlockExpr S.Expr S.Path
    S.PathSegment S.RecordExprField S.RecordExprFieldList S.Stmt S.MatchArm S.MacroCall S.Pat S.RecordPatField S.AssocTypeArg S.Param
    S.PathType S.TypeBound S.Type_

abbrev pub PathLayer : Sorts → Type 0
PathLayer S = Path-F S.ElseBranch S.ExprKind S.StmtKind S.PatKind S.GenericArg S.TypeKind S.BlockExpr S.Expr S.Path S.PathSegment
    S.RecordExprField S.RecordExprFieldList S.Stmt S.MatchArm S.MacroCall S.Pat S.RecordPatField S.AssocTypeArg S.Param S.PathType
    S.TypeBound S.Type_

abbrev pub PathSegmentLayer : Sorts → Type 0
PathSegmentLayer S = PathSegment-F S.ElseBranch S.ExprKind S.StmtKind S.PatKind S.GenericArg S.TypeKind S.BlockExpr S.Expr S.Path
    S.PathSegment S.RecordExprField S.RecordExprFieldList S.Stmt S.MatchArm S.MacroCall S.Pat S.RecordPatField S.AssocTypeArg S.Param
    S.PathType S.TypeBound S.Type_

abbrev pub AssocTypeArgLayer : Sorts → Type 0
AssocTypeArgLayer S = AssocTypeArg-F S.ElseBranch S.ExprKind S.StmtKind S.PatKind S.GenericArg S.TypeKind S.BlockExpr S.Expr S.Path
    S.PathSegment S.RecordExprField S.RecordExprFieldList S.Stmt S.MatchArm S.MacroCall S.Pat S.RecordPatField S.AssocTypeArg S.Param
    S.PathType S.TypeBound S.Type_

abbrev pub ParamLayer : Sorts → Type 0
ParamLayer S = Param-F S.ElseBranch S.ExprKind S.StmtKind S.PatKind S.GenericArg S.TypeKind S.BlockExpr S.Expr S.Path S.PathSegment
    S.RecordExprField S.RecordExprFieldList S.Stmt S.MatchArm S.MacroCall S.Pat S.RecordPatField S.AssocTypeArg S.Param S.PathType
    S.TypeBound S.Type_

abbrev pub PathTypeLayer : Sorts → Type 0
PathTypeLayer S = PathType-F S.ElseBranch S.ExprKind S.StmtKind S.PatKind S.GenericArg S.TypeKind S.BlockExpr S.Expr S.Path
    S.PathSegment S.RecordExprField S.RecordExprFieldList S.Stmt S.MatchArm S.MacroCall S.Pat S.RecordPatField S.AssocTypeArg S.Param
    S.PathType S.TypeBound S.Type_

abbrev pub TypeBoundLayer : Sorts → Type 0
TypeBoundLayer S = TypeBound-F S.ElseBranch S.ExprKind S.StmtKind S.PatKind S.GenericArg S.TypeKind S.BlockExpr S.Expr S.Path
    S.PathSegment S.RecordExprField S.RecordExprFieldList S.Stmt S.MatchArm S.MacroCall S.Pat S.RecordPatField S.AssocTypeArg S.Param
    S.PathType S.TypeBound S.Type_

abbrev pub Type_Layer : Sorts → Type 0
Type_Layer S = Type_-F S.ElseBranch S.ExprKind S.StmtKind S.PatKind S.GenericArg S.TypeKind S.BlockExpr S.Expr S.Path S.PathSegment
    S.RecordExprField S.RecordExprFieldList S.Stmt S.MatchArm S.MacroCall S.Pat S.RecordPatField S.AssocTypeArg S.Param S.PathType
    S.TypeBound S.Type_
