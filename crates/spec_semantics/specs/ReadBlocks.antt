-- What calls and definitions of macros are read as in a block.
use Rattle.std.specs.Prelude.{◌≡◌, ℕ, nat_eq, Bool, true, ◌||◌, if◌then◌else◌, List, [], ◌∷◌, Some, None, Ok, Err}
use Rattle.hir_syntax.specs.declared.ast.ElseBranch.TheOpen.{StmtKind-F}
use Rattle.hir_syntax.specs.declared.ast.Stmt.{Stmt as AstStmt}
use Rattle.hir_syntax.specs.declared.macros.Fragment.TheVariants as fragment
use Rattle.hir_store.specs.declared.name.Name.TheVariants as name
use Rattle.hir_env.specs.declared.ctx.LowerCtx.{LowerCtx}
use Rattle.hir_env.specs.declared.expand.FragmentKind.TheVariants as kind
use Rattle.hir_env.specs.Answers.{Answers}
use Rattle.hir_env.specs.ResolveCtx.{ResolveCtx}
use Rattle.hir_env.specs.Whole.{contents_part}
use Rattle.hir_env.specs.ResolvedTree as tree
use Rattle.hir_env.specs.ResolvedTree.{Expr, Stmt, Stmts}
use Rattle.spec_data.specs.Trees.{ast_name}
use Rattle.spec_semantics.specs.Small.{one, two}
use Rattle.spec_semantics.specs.Reading.{stmt_of, calling, one_of, two_of, stmt_of_expr, stmts_of, rctx_of, from, expanding_env, two_calls}
use Rattle.spec_semantics.specs.Reading.{entering_to}

-- splices

abbrev pub each : List Stmt → Stmts
each [] = tree.no_stmts
each (s ∷ ss) = tree.more_stmts s (each ss)

-- m stands for `1; n!()`, and n for `2`
abbrev pub splice_rctx : Answers → LowerCtx → ResolveCtx
splice_rctx env p = rctx_of (expanding_env env kind.Stmts (two_calls
    (fragment.Stmts (stmts_of (stmt_of_expr 8 true (one_of 9) ∷ []) (Some (calling 4))))
    (fragment.Stmts (stmts_of [] (Some (two_of 6)))))) p 2

-- the calls, and `1;`
abbrev pub in_front : List Stmt → List Stmt
in_front ss =
    tree.call_stmt (entering_to 0 3 1)
    ∷ tree.expr_stmt (tree.some_expr (tree.literal_expr (from 1 9) one)) true
    ∷ tree.call_stmt (entering_to 1 5 2)
    ∷ ss

-- the `2`, which is found at both calls
abbrev pub last : Expr
last = tree.macro_expr (from 0 2) tree.spliced (tree.some_expr
    (tree.macro_expr (from 1 4) tree.spliced (tree.some_expr (tree.literal_expr (from 2 6) two))))

-- `m!()` as the tail of a block, as `m!();` and as a statement without semicolon
pub record SplicesAll (env : Answers) (p : LowerCtx) : Type 0 where
  pub tail : contents_part (splice_rctx env p) [] (Some (calling 2)) ≡ (each (in_front []), tree.some_expr last)
  pub stmt : (semi : Bool) → contents_part (splice_rctx env p) (stmt_of_expr 1 semi (calling 2) ∷ []) None
      ≡ (each (in_front (tree.expr_stmt (tree.some_expr last) semi ∷ [])), tree.no_expr)

-- The statements come first, and what stands behind them is the tail, or a statement with the semicolon of the call.
abbrev pub SplicesStatements : Type 0
SplicesStatements = (env : Answers) (p : LowerCtx) → SplicesAll env p

-- definitions

abbrev pub a : List ℕ
a = 97 ∷ []

abbrev pub b : List ℕ
b = 98 ∷ []

-- `macro_rules! n {..}`, `macro_rules! {..}` and `macro n {..}`
abbrev pub rules : ℕ → List ℕ → AstStmt
rules k n = stmt_of k (StmtKind-F.MacroRules (Some (ast_name n)))

abbrev pub nameless_rules : ℕ → AstStmt
nameless_rules k = stmt_of k (StmtKind-F.MacroRules None)

abbrev pub macro_of : ℕ → List ℕ → AstStmt
macro_of k n = stmt_of k (StmtKind-F.MacroDef (Some (ast_name n)))

abbrev pub nameless_macro : ℕ → AstStmt
nameless_macro k = stmt_of k (StmtKind-F.MacroDef None)

-- the k-th of this name, counted from 0, asked for in this module; and the macro of this name
module _ (env : Answers) (m : ℕ) where
  abbrev pub legacy : List ℕ → ℕ → Stmt
  legacy n k = tree.macro_stmt k (env.legacy_macro (record { 0 = m }) (name.Text n) k)

  abbrev pub defined : List ℕ → Stmt
  defined n = tree.macro_stmt 0 (env.macro_def (record { 0 = m }) (name.Text n))

-- where a condition disables the nodes 6 and 11
abbrev pub disabling_two : Answers → Answers
disabling_two env = record env { cfg = λ s. if nat_eq s.value.0 6 || nat_eq s.value.0 11 then Err (record { 0 = 8 }) else Ok tt }

-- Each name is counted by itself. Neither one without a name, nor a disabled one, nor a `macro` counts; one without a name is an item.
abbrev pub CountsDefinitions : Type 0
CountsDefinitions = (env : Answers) (p : LowerCtx) (n : ℕ)
    → contents_part (rctx_of (disabling_two env) p n)
    (rules 2 a ∷ rules 3 b ∷ rules 4 a ∷ nameless_rules 5 ∷ rules 6 a ∷ rules 7 a ∷ macro_of 8 a ∷ nameless_macro 9 ∷ rules 10 b
    ∷ macro_of 11 a ∷ rules 12 a ∷ []) None
    ≡ (
      each (legacy env 7 a 0 ∷ legacy env 7 b 0 ∷ legacy env 7 a 1 ∷ tree.macro_stmt 0 None
          ∷ tree.disabled_stmt (from 0 6) (record { 0 = 8 }) tree.item_stmt ∷ legacy env 7 a 2 ∷ defined env 7 a ∷ tree.macro_stmt 0 None
          ∷ legacy env 7 b 1 ∷ tree.disabled_stmt (from 0 11) (record { 0 = 8 }) (defined env 7 a) ∷ legacy env 7 a 3 ∷ []),
      tree.no_expr,
    )
