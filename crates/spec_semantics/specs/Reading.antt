-- Small written trees with macro calls, and environments that answer what these stand for.
use Rattle.std.specs.Prelude.{ℕ, suc, nat_eq, Bool, true, false, ◌&&◌, if◌then◌else◌, List, [], Option, Some, None, Ok}
use Rattle.hir_syntax.specs.declared.ast.ElseBranch.TheOpen.{ExprKind-F, PatKind-F, StmtKind-F, TypeKind-F}
use Rattle.hir_syntax.specs.declared.ast.Expr.{Expr as AstExpr}
use Rattle.hir_syntax.specs.declared.ast.ExprKind.{roll-ExprKind}
use Rattle.hir_syntax.specs.declared.ast.Stmt.{Stmt as AstStmt}
use Rattle.hir_syntax.specs.declared.ast.StmtKind.{roll-StmtKind}
use Rattle.hir_syntax.specs.declared.macros.MacroCall.{MacroCall as AstMacroCall, roll-MacroCall}
use Rattle.hir_syntax.specs.declared.macros.MacroStmts.{MacroStmts as AstMacroStmts}
use Rattle.hir_syntax.specs.declared.macros.Fragment.{Fragment as AstFragment}
use Rattle.hir_syntax.specs.declared.pats.Pat.{Pat as AstPat}
use Rattle.hir_syntax.specs.declared.pats.PatKind.{roll-PatKind}
use Rattle.hir_syntax.specs.declared.types.Type_.{Type_ as AstType_}
use Rattle.hir_store.specs.Pointers.{Pointer}
use Rattle.hir_env.specs.declared.ctx.LowerCtx.{LowerCtx}
use Rattle.hir_env.specs.declared.expand.FragmentKind.{FragmentKind}
use Rattle.hir_env.specs.declared.expand.FragmentKind.TheVariants as kind
use Rattle.hir_env.specs.Answers.{Answers, Expanding, no_expansion, expanded}
use Rattle.hir_env.specs.ResolveCtx.{ResolveCtx}
use Rattle.hir_env.specs.Layers.{ExprKindLayer, StmtKindLayer}
use Rattle.hir_env.specs.PatLayers.{PatKindLayer}
use Rattle.hir_env.specs.Whole.{written}
use Rattle.hir_env.specs.ResolvedTree as tree
use Rattle.hir_env.specs.ResolvedTree.{Called, Entered}
use Rattle.spec_data.specs.Trees.{node, no_range, type_at}
use Rattle.spec_semantics.specs.Small.{one, two}

-- written trees: the numbers of their nodes stand beside them

abbrev pub expr_of : ℕ → ExprKindLayer written → AstExpr
expr_of n k = record { id = node n; range = no_range; kind = roll-ExprKind k }

abbrev pub stmt_of : ℕ → StmtKindLayer written → AstStmt
stmt_of n k = record { id = node n; range = no_range; kind = roll-StmtKind k }

abbrev pub pat_of : ℕ → PatKindLayer written → AstPat
pat_of n k = record { id = node n; range = no_range; kind = roll-PatKind k }

-- the call with this node
abbrev pub call_of : ℕ → AstMacroCall
call_of n = roll-MacroCall (record { id = node n; range = no_range; path = None })

-- `m!()`, whose call has the node behind that of the expression, the pattern or the type
abbrev pub calling : ℕ → AstExpr
calling n = expr_of n (ExprKind-F.MacroExpr (Some (call_of (suc n))))

abbrev pub calling_pat : ℕ → AstPat
calling_pat n = pat_of n (PatKind-F.MacroPat (Some (call_of (suc n))))

abbrev pub calling_type : ℕ → AstType_
calling_type n = type_at n (TypeKind-F.MacroType (Some (call_of (suc n))))

-- the same without a call
abbrev pub absent_call : ℕ → AstExpr
absent_call n = expr_of n (ExprKind-F.MacroExpr None)

abbrev pub one_of : ℕ → AstExpr
one_of n = expr_of n (ExprKind-F.Literal one)

abbrev pub two_of : ℕ → AstExpr
two_of n = expr_of n (ExprKind-F.Literal two)

-- `e;`, or without the semicolon
abbrev pub stmt_of_expr : ℕ → Bool → AstExpr → AstStmt
stmt_of_expr n semi e = stmt_of n (StmtKind-F.ExprStmt (Some e) semi)

-- of a fragment
abbrev pub stmts_of : List AstStmt → Option AstExpr → AstMacroStmts
stmts_of ss e = record { id = node 1; range = no_range; stmts = ss; expr = e }

-- where they are read

-- in this file, inside of the module 7, where so many calls may be entered
abbrev pub place_in : LowerCtx → ℕ → ℕ → LowerCtx
place_in p f n = record p { file_id = record { 0 = f }; module_id = record { 0 = 7 }; left = n }

-- in the file 0
abbrev pub rctx_of : Answers → LowerCtx → ℕ → ResolveCtx
rctx_of env p n = record { answers = env; place = place_in p 0 n }

abbrev pub from : ℕ → ℕ → Pointer
from f n = record { file_id = record { 0 = f }; value = record { node = node n; range = no_range } }

-- what calls stand for

abbrev pub same_kind : FragmentKind → FragmentKind → Bool
same_kind kind.Expr kind.Expr = true
same_kind kind.Stmts kind.Stmts = true
same_kind kind.Pat kind.Pat = true
same_kind kind.Type_ kind.Type_ = true
same_kind _ _ = false

-- where no condition disables anything
abbrev pub enabled_env : Answers → Answers
enabled_env env = record env { cfg = λ s. Ok tt }

-- of a file, a node in it and the call, where it is asked for inside of the module 7 and for a fragment of this kind
abbrev pub expanding_env : Answers → FragmentKind → (ℕ → ℕ → AstMacroCall → Expanding) → Answers
expanding_env env k x = record (enabled_env env) {
  expand = λ s c m q. if nat_eq m.0 7 && same_kind k q then x s.file_id.0 s.value.0 c else no_expansion;
}

-- each call, at each place
abbrev pub always : Answers → Expanding → Answers
always env x = record (enabled_env env) { expand = λ s c m k. x }

-- this one, in this file
abbrev pub to : ℕ → AstFragment → Expanding
to f x = expanded (record { 0 = f }) (Some x) []

-- The call with node 3 in the file 0 stands for the one in the file 1, the call with node 5 in the file 1 for the other one in the file 2.
abbrev pub two_calls : AstFragment → AstFragment → ℕ → ℕ → AstMacroCall → Expanding
two_calls x y f n c =
    if nat_eq f 0 && nat_eq n 3 then to 1 x else (if nat_eq f 1 && nat_eq n 5 then to 2 y else no_expansion)

-- what they are read as

-- the call with node n in the file f, which is expanded to the file g
abbrev pub entering_to : ℕ → ℕ → ℕ → Entered
entering_to f n g = record { call = from f n; file = record { 0 = g }; eager = [] }

-- the first and the second one of those two
abbrev pub first_call : Called
first_call = tree.entered (entering_to 0 3 1)

abbrev pub second_call : Called
second_call = tree.entered (entering_to 1 5 2)
