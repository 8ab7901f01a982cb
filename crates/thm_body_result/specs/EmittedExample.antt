-- Small trees with macro calls: which are entered, in what order.
use Rattle.std.specs.Prelude.{◌≡◌, [], ◌∷◌, ◌++◌, Option, Some, None}
use Rattle.hir_base.specs.declared.node.HirFileId.{HirFileId}
use Rattle.hir_store.specs.Pointers.{Pointer}
use Rattle.hir_store.specs.declared.ids.CfgId.{CfgId}
use Rattle.hir_store.specs.declared.path.ModPath.{ModPath}
use Rattle.hir_env.specs.ResolvedTree as tree
use Rattle.hir_env.specs.ResolvedTree.{Called, Entered, Expr, OptionExpr}
use Rattle.hir_env.specs.NodeMap.{Site}
use Rattle.hir_env.specs.ResolveCtx.{site_of}
use Rattle.thm_logic.specs.Calls.{Expansions, expansions_of_entered}
use Rattle.thm_body_result.specs.Expanded.{expansions}
use Rattle.thm_logic.specs.Grades.{grade_expr}

abbrev pub expansions_of : Expr → Expansions
expansions_of e = grade_expr expansions e

-- a call at this node, for which another one was expanded before
abbrev pub with_eager : Pointer → HirFileId → Site → HirFileId → Entered
with_eager at file early early_file = record { call = at; file = file; eager = (early, early_file) ∷ [] }

abbrev pub call_of : Pointer → Called → OptionExpr → Expr
call_of at called e = tree.macro_expr at called e

pub record SmallCalls : Type 0 where
  -- what was expanded for a call stands before it
  pub eager_first : (at : Pointer) (file : HirFileId) (early : Site) (early_file : HirFileId)
      → expansions_of (call_of at (tree.entered (with_eager at file early early_file)) tree.no_expr)
      ≡ record { call = early; range = None; file = early_file }
      ∷ record { call = site_of at; range = Some at.value.range; file = file } ∷ []
  -- and a call before those that it stands for
  pub outer_first : (at inner : Pointer) (c d : Entered)
      → expansions_of (call_of at (tree.entered c) (tree.some_expr (call_of inner (tree.entered d) tree.no_expr)))
      ≡ expansions_of_entered c ++ (expansions_of_entered d ++ [])
  pub unknown : (at : Pointer) (path : ModPath) → expansions_of (call_of at (tree.unresolved at path) tree.no_expr) ≡ []
  pub unentered : (at : Pointer) → expansions_of (call_of at tree.unentered tree.no_expr) ≡ []
  -- of what is gone those that were entered to find that out
  pub gone : (c : Entered) (condition : Option (Pointer × CfgId)) (e : Expr)
      → expansions_of (tree.disabled_expr (record { entered = c ∷ []; condition = condition }) e) ≡ (expansions_of_entered c ++ []) ++ []
