-- The parts of a tree, by their sort, and a part of any.
use Rattle.std.specs.Prelude.{List, Option}
use Rattle.hir_syntax.specs.declared.ast.Stmt.{Stmt}
use Rattle.hir_syntax.specs.declared.ast.BlockExpr.{BlockExpr}
use Rattle.hir_syntax.specs.declared.branches.MatchArm.{MatchArm}
use Rattle.hir_syntax.specs.declared.ast.Expr.{Expr}
use Rattle.hir_syntax.specs.declared.ast.RecordExprFieldList.{RecordExprFieldList}
use Rattle.hir_syntax.specs.declared.ast.RecordExprField.{RecordExprField}
use Rattle.hir_syntax.specs.declared.macros.MacroCall.{MacroCall}
use Rattle.hir_syntax.specs.declared.macros.MacroStmts.{MacroStmts}
use Rattle.hir_syntax.specs.declared.types.Param.{Param}
use Rattle.hir_syntax.specs.declared.params.SelfParam.{SelfParam}
use Rattle.hir_syntax.specs.declared.params.ParamList.{ParamList}
use Rattle.hir_syntax.specs.declared.types.Type_.{Type_}
use Rattle.hir_syntax.specs.declared.types.PathType.{PathType}
use Rattle.hir_syntax.specs.declared.types.TypeBound.{TypeBound}
use Rattle.hir_syntax.specs.declared.types.ForBinder.{ForBinder}
use Rattle.hir_syntax.specs.declared.ast.Path.{Path}
use Rattle.hir_syntax.specs.declared.ast.PathSegment.{PathSegment}
use Rattle.hir_syntax.specs.declared.types.GenericArg.{GenericArg}
use Rattle.json_nodes.specs.declared.part.AnyOf.{AnyOf}
use Rattle.json_nodes.specs.declared.code_parts.ExprPart.{ExprPart}
use Rattle.json_nodes.specs.declared.param_parts.PatPart.{PatPart}
use Rattle.json_nodes.specs.declared.name_parts.NamePart.{NamePart}
use Rattle.json_nodes.specs.declared.code_parts.CodeOf.{CodeOf}
use Rattle.json_nodes.specs.declared.param_parts.ParamOf.{ParamOf}
use Rattle.json_nodes.specs.declared.type_parts.TypeOf.{TypeOf}
use Rattle.json_nodes.specs.declared.path_parts.PathOf.{PathOf}

abbrev pub CodePart : Type 0
CodePart = CodeOf Stmt (Option BlockExpr) MatchArm (Option Expr) RecordExprFieldList RecordExprField MacroCall MacroStmts

abbrev pub ParamPart : Type 0
ParamPart = ParamOf Param SelfParam ParamList

abbrev pub TypePart : Type 0
TypePart = TypeOf Type_ PathType TypeBound ForBinder (Option Type_)

abbrev pub PathPart : Type 0
PathPart = PathOf Path PathSegment (List GenericArg) (Option Type_) (Option Expr) GenericArg (List (Option Type_))

abbrev pub AnyPart : Type 0
AnyPart = AnyOf ExprPart CodePart PatPart ParamPart TypePart PathPart NamePart
