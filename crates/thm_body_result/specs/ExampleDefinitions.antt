-- Small trees with definitions of macros, and with calls that stand for two dots: what is stored, what is wrong, and what has no room.
use Rattle.std.specs.Prelude.{◌≡◌, ℕ, suc, ◌≤◌, ◌^◌, false, List, [], ◌∷◌, Option, Some, None, slice_get}
use Rattle.hir_store.specs.Stored.{Store, SourceMap}
use Rattle.hir_store.specs.declared.diagnostics.ExpressionStoreDiagnostics.TheVariants.{UndeclaredLabel, UnresolvedMacroCall}
use Rattle.hir_store.specs.declared.hir.Expr.TheVariants as hir
use Rattle.hir_store.specs.declared.hir.Statement.{Statement}
use Rattle.hir_store.specs.declared.hir.Statement.TheVariants as statement
use Rattle.hir_store.specs.declared.ids.ExprId.{ExprId}
use Rattle.hir_store.specs.declared.ids.MacroDefId.{MacroDefId}
use Rattle.hir_store.specs.declared.path.ModPath.{ModPath}
use Rattle.hir_env.specs.ResolvedTree as tree
use Rattle.hir_env.specs.ResolvedTree.{Called, Expr, OptionExpr, Pats, Stmts}
use Rattle.hir_lower_scope.specs.Theorems.{jump_by, one_of}
use Rattle.spec_semantics.specs.Macros.{before_definition, behind_definition, behind_its_block}
use Rattle.spec_semantics.specs.Small.{at}
use Rattle.thm_body_result.specs.Diagnostics.{Faults, part_diagnostics, pats_faults}
use Rattle.thm_body_result.specs.Leads.{Mapping}
use Rattle.thm_body_result.specs.Room.{elements_size, stmt_size}
use Rattle.thm_body_result.specs.Corresponds.{Open, Corresponds, CorrespondsContents, CorrespondsKept}

-- `{ macro_rules! m {..} }`
abbrev pub block_defining : Option MacroDefId → Expr
block_defining d = tree.block_expr (tree.block (at 0) false None tt None (tree.more_stmts (tree.macro_stmt 0 d) tree.no_stmts) tree.no_expr)

-- it is stored with this statement
abbrev pub DefinesBy : Option MacroDefId → Statement → Type 0
DefinesBy d s = (store : Store) (source_map : SourceMap) (i : ExprId) (ws : List Mapping)
    → Corresponds store source_map [] (block_defining d) i ws → slice_get store.exprs i.0 ≡ Some (hir.Block false None None (s ∷ []) None)

-- a jump of the macro of this number has no target
abbrev pub undeclared_by : ℕ → Faults
undeclared_by outer = let j = jump_by (one_of 0 0 outer) in UndeclaredLabel j.pointer j.name ∷ []

-- a call in front of the two dots that it stands for, before `_`
abbrev pub dots_by : Called → Pats
dots_by called = tree.tracked_pats called (tree.more_pats (tree.leaf_pat (at 1) tree.rest_leaf)
    (tree.more_pats (tree.leaf_pat (at 2) tree.wild_leaf) tree.no_pats))

-- the numbers of the definitions among these statements, as they are written and as they are stored
abbrev pub written_defs : Stmts → List MacroDefId
written_defs tree.no_stmts = []
written_defs (tree.more_stmts (tree.macro_stmt k (Some d)) ss) = d ∷ written_defs ss
written_defs (tree.more_stmts s ss) = written_defs ss

abbrev pub stored_defs : List Statement → List MacroDefId
stored_defs [] = []
stored_defs (statement.MacroDef d ∷ ss) = d ∷ stored_defs ss
stored_defs (s ∷ ss) = stored_defs ss

pub record Definitions : Type 0 where
  -- what stands for statements has their definitions and no other, in the same order
  pub same_numbers : (store : Store) (source_map : SourceMap) (rs : Open) (ss : Stmts) (e : OptionExpr) (is : List Statement)
      (tail : Option ExprId) (ws : List Mapping)
      → CorrespondsContents store source_map rs ss (λ around o. CorrespondsKept store source_map around e o) is tail ws
      → stored_defs is ≡ written_defs ss
  pub with_number : (d : MacroDefId) → DefinesBy (Some d) (statement.MacroDef d)
  pub without_number : DefinesBy None statement.Item
  -- a jump that a macro wrote goes past the macro's definition to the label that is open around that, and past no other
  pub past_its_own : part_diagnostics [] (behind_definition 9 None).written ≡ []
  pub not_past_another : part_diagnostics [] (behind_definition 8 None).written ≡ undeclared_by 8
  -- only inside of it, which is what stands behind it in its block
  pub not_before : part_diagnostics [] before_definition.written ≡ undeclared_by 9
  pub not_behind_its_block : part_diagnostics [] behind_its_block.written ≡ undeclared_by 9
  -- how many of a name stand before one is counted so far and no further
  pub counts : (k : ℕ) (d : Option MacroDefId) → 2 ^ 32 ≤ suc k → (stmt_size (tree.macro_stmt k d)).overcounts
  pub counts_no_less : (k : ℕ) (d : Option MacroDefId) → (stmt_size (tree.macro_stmt k d)).overcounts → 2 ^ 32 ≤ suc k
  -- a call that stands for two dots stores nothing, and what is wrong with it is told
  pub dots_store_nothing : (called : Called) → (elements_size (dots_by called) []).pats ≡ Some (at 2) ∷ []
  pub dots_unknown : (path : ModPath) → pats_faults [] (dots_by (tree.unresolved (at 0) path)) ≡ UnresolvedMacroCall (at 0) path ∷ []
