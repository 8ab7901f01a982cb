-- Parts of a tree that have a name of their own and no node.
use Rattle.std.specs.Prelude.{Option, List}
use Rattle.hir_syntax.specs.declared.ast.BlockExpr.{BlockExpr as AstBlockExpr}
use Rattle.hir_syntax.specs.declared.ast.Expr.{Expr as AstExpr}
use Rattle.hir_syntax.specs.declared.types.GenericArg.{GenericArg as AstGenericArg}
use Rattle.hir_syntax.specs.declared.types.Type_.{Type_ as AstType_}

abbrev pub AstConstArg : Type 0
AstConstArg = Option AstExpr

abbrev pub AstGuard : Type 0
AstGuard = Option AstExpr

abbrev pub AstLetElse : Type 0
AstLetElse = Option AstBlockExpr

abbrev pub AstRetType : Type 0
AstRetType = Option AstType_

abbrev pub AstTypeArg : Type 0
AstTypeArg = Option AstType_

abbrev pub AstParenArgs : Type 0
AstParenArgs = List AstTypeArg

abbrev pub AstGenericArgList : Type 0
AstGenericArgList = List AstGenericArg
