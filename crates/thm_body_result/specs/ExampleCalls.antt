-- Small trees with macro calls: what whatever stands for one has stored, where nodes lead, and what is wrong.
use Rattle.std.specs.Prelude.{◌≡◌, List, [], ◌∷◌, Some, None, slice_get}
use Rattle.hir_store.specs.Pointers.{Pointer}
use Rattle.hir_store.specs.StoreSink.{pat_id, type_id}
use Rattle.hir_store.specs.Stored.{Store, SourceMap}
use Rattle.hir_store.specs.declared.diagnostics.ExpressionStoreDiagnostics.TheVariants.{UnresolvedMacroCall}
use Rattle.hir_store.specs.declared.hir.Expr.TheVariants as hir
use Rattle.hir_store.specs.declared.ids.ExprId.{ExprId}
use Rattle.hir_store.specs.declared.ids.PatId.{PatId}
use Rattle.hir_store.specs.declared.ids.TypeRefId.{TypeRefId}
use Rattle.hir_store.specs.declared.path.ModPath.{ModPath}
use Rattle.hir_env.specs.ResolvedTree as tree
use Rattle.hir_env.specs.ResolvedTree.{Called, Entered, Expr, OptionExpr, Pat, Type_}
use Rattle.spec_semantics.specs.Small.{at}
use Rattle.thm_body_result.specs.Diagnostics.{diagnostics}
use Rattle.thm_body_result.specs.Leads.{Mapping, expr_mapping}
use Rattle.thm_body_result.specs.Room.{pat_size, type_size}
use Rattle.thm_body_result.specs.Size.{led_by}
use Rattle.thm_body_result.specs.Corresponds.{Corresponds}
use Rattle.thm_body_result.specs.Examples.{literal_part}

-- `m!()` at node 0
abbrev pub call_of : Called → OptionExpr → Expr
call_of called e = tree.macro_expr (at 0) called e

-- one that isn't entered
abbrev pub missing_call : Expr
missing_call = call_of tree.unentered tree.no_expr

-- one whose macro isn't found
abbrev pub unknown_call : ModPath → Expr
unknown_call path = call_of (tree.unresolved (at 1) path) tree.no_expr

-- one that stands for another one, which stands for `_`
abbrev pub nested_pat : Entered → Pat
nested_pat c = tree.macro_pat (at 0) (tree.entered c)
    (tree.some_pat (tree.macro_pat (at 1) (tree.entered c) (tree.some_pat (tree.leaf_pat (at 2) tree.wild_leaf))))

-- a type that stands for `_`
abbrev pub called_type : Entered → Type_
called_type c = tree.macro_type (at 0) (tree.entered c) (tree.some_type (tree.leaf_type (at 1) tree.infer_leaf))

abbrev pub nodes_of_pat : Pat → List (Pointer × PatId)
nodes_of_pat p = led_by pat_id 0 (pat_size p []).pat_leads []

abbrev pub nodes_of_type : Type_ → List (Pointer × TypeRefId)
nodes_of_type t = led_by type_id 0 (type_size t).type_leads []

pub record Calls : Type 0 where
  -- both nodes lead to what the call stands for
  pub entered : (c : Entered) (store : Store) (source_map : SourceMap) (i : ExprId) (ws : List Mapping)
      → Corresponds store source_map [] (call_of (tree.entered c) (literal_part 1)) i ws
      → ws ≡ expr_mapping (at 1) i ∷ expr_mapping (at 0) i ∷ []
  -- what isn't there is missing at the call
  pub missing : (store : Store) (source_map : SourceMap) (i : ExprId) (ws : List Mapping)
      → Corresponds store source_map [] missing_call i ws
      → (slice_get store.exprs i.0 ≡ Some hir.Missing) × (ws ≡ expr_mapping (at 0) i ∷ [])
  pub unknown : (path : ModPath) → diagnostics [] (unknown_call path) ≡ UnresolvedMacroCall (at 1) path ∷ []
  pub no_fault : diagnostics [] missing_call ≡ []
  -- a call that the text lacks is gone, which is no fault
  pub gone : (e : Expr) → diagnostics [] (tree.disabled_expr (record { entered = []; condition = None }) e) ≡ []
  -- each node leads to the one pattern, and to the one type
  pub pattern : (c : Entered) → nodes_of_pat (nested_pat c) ≡ (at 2, pat_id 0) ∷ (at 1, pat_id 0) ∷ (at 0, pat_id 0) ∷ []
  pub type_ : (c : Entered) → nodes_of_type (called_type c) ≡ (at 1, type_id 0) ∷ (at 0, type_id 0) ∷ []
  -- the node of one without a type leads to the error, which comes from none, and that of one that the text lacks is its own
  pub untyped : nodes_of_type (tree.macro_type (at 0) tree.unentered tree.no_type) ≡ (at 0, type_id 0) ∷ []
  pub lacking : (type_size (tree.macro_type (at 0) tree.callless tree.no_type)).types ≡ Some (at 0) ∷ []
  pub from_none : (type_size (tree.macro_type (at 0) tree.unentered tree.no_type)).types ≡ None ∷ []
