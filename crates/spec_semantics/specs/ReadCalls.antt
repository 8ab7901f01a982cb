-- How deep macro calls are entered where an expression, a pattern or a type stands.
use Rattle.std.specs.Prelude.{◌≡◌, ℕ, suc, nat_eq, if◌then◌else◌, Some}
use Rattle.hir_syntax.specs.declared.ast.ElseBranch.TheOpen.{ExprKind-F, PatKind-F, TypeKind-F}
use Rattle.hir_syntax.specs.declared.macros.MacroCall.{MacroCall as AstMacroCall}
use Rattle.hir_syntax.specs.declared.macros.Fragment.TheVariants as fragment
use Rattle.hir_env.specs.declared.ctx.LowerCtx.{LowerCtx}
use Rattle.hir_env.specs.declared.expand.FragmentKind.TheVariants as kind
use Rattle.hir_env.specs.Answers.{Answers, Expanding, no_expansion}
use Rattle.hir_env.specs.Whole.{resolved_expr, resolved_pat, resolved_type}
use Rattle.hir_env.specs.ResolvedTree as tree
use Rattle.spec_data.specs.Trees.{type_at}
use Rattle.spec_semantics.specs.Reading.{expr_of, pat_of, calling, calling_pat, calling_type, rctx_of, from, expanding_env, to, entering_to}

-- m stands for a call of m, in the next file
abbrev pub endless_expr : ℕ → ℕ → AstMacroCall → Expanding
endless_expr f n c = if nat_eq n 3 then to (suc f) (fragment.Expr (expr_of 2 (ExprKind-F.MacroExpr (Some c)))) else no_expansion

abbrev pub endless_pat : ℕ → ℕ → AstMacroCall → Expanding
endless_pat f n c = if nat_eq n 3 then to (suc f) (fragment.Pat (pat_of 2 (PatKind-F.MacroPat (Some c)))) else no_expansion

abbrev pub endless_type : ℕ → ℕ → AstMacroCall → Expanding
endless_type f n c = if nat_eq n 3 then to (suc f) (fragment.Type_ (type_at 2 (TypeKind-F.MacroType (Some c)))) else no_expansion

-- `m!()`, where two calls may be entered: what it stands for is read in the file of that, and the third call is missing
pub record EntersTwo (env : Answers) (p : LowerCtx) : Type 0 where
  pub expr : resolved_expr (rctx_of (expanding_env env kind.Expr endless_expr) p 2) (calling 2)
      ≡ tree.macro_expr (from 0 2) (tree.entered (entering_to 0 3 1)) (tree.some_expr
      (tree.macro_expr (from 1 2) (tree.entered (entering_to 1 3 2)) (tree.some_expr
      (tree.macro_expr (from 2 2) tree.unentered tree.no_expr))))
  pub pat : resolved_pat (rctx_of (expanding_env env kind.Pat endless_pat) p 2) (calling_pat 2)
      ≡ tree.macro_pat (from 0 2) (tree.entered (entering_to 0 3 1)) (tree.some_pat
      (tree.macro_pat (from 1 2) (tree.entered (entering_to 1 3 2)) (tree.some_pat
      (tree.macro_pat (from 2 2) tree.unentered tree.no_pat))))
  pub type_ : resolved_type (rctx_of (expanding_env env kind.Type_ endless_type) p 2) (calling_type 2)
      ≡ tree.macro_type (from 0 2) (tree.entered (entering_to 0 3 1)) (tree.some_type
      (tree.macro_type (from 1 2) (tree.entered (entering_to 1 3 2)) (tree.some_type
      (tree.macro_type (from 2 2) tree.unentered tree.no_type))))

abbrev pub EntersBelowTheLimit : Type 0
EntersBelowTheLimit = (env : Answers) (p : LowerCtx) → EntersTwo env p
