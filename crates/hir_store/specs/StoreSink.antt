-- The steps that store. Each goes on with what is stored by then, after a refusal too.
use Rattle.std.specs.Prelude.{◌≡◌, ◌≢◌, ◌≤◌, ◌⊎◌, ℕ, List, [], ◌∷◌, ◌++◌, length}
use Rattle.std.specs.Prelude.{Bool, nat_eq, map, Option, Result, Ok, Err}
use Rattle.indexmap.specs.IndexMap.{insert_entry}
use Rattle.hir_store.specs.Pointers.{Pointer, same_pointer}
use Rattle.hir_store.specs.FirstMap.{with_first_by}
use Rattle.hir_store.specs.Arenas as sourced
use Rattle.hir_store.specs.Arenas.{none_yet, with_mapping, Prefix, Continues}
use Rattle.hir_store.specs.Bindings as bound
use Rattle.hir_store.specs.Bindings.{BindingsContinue, none_bound, with_definition, with_owner, with_problem}
use Rattle.hir_store.specs.Stored.{Stored, Store, store_of}
use Rattle.hir_store.specs.Range.{Grows}
use Rattle.hir_store.specs.declared.error.StoreError.{StoreError}
use Rattle.hir_store.specs.declared.error.StoreError.TheVariants.{Memory}
use Rattle.hir_store.specs.declared.hir.Expr.{Expr}
use Rattle.hir_store.specs.declared.hir.Label.{Label}
use Rattle.hir_store.specs.declared.pat.Pat.{Pat}
use Rattle.hir_store.specs.declared.pat.Binding.{Binding}
use Rattle.hir_binding.specs.declared.binding.BindingProblems.{BindingProblems}
use Rattle.hir_store.specs.declared.ids.BindingId.{BindingId}
use Rattle.hir_store.specs.declared.ids.PatId.{PatId}
use Rattle.hir_store.specs.declared.type_ref.TypeRef.{TypeRef}
use Rattle.hir_store.specs.declared.type_ref.LifetimeRef.{LifetimeRef}
use Rattle.hir_store.specs.declared.roots.ExprRoot.{ExprRoot}
use Rattle.hir_store.specs.declared.ids.ExprId.{ExprId}
use Rattle.hir_store.specs.declared.ids.LabelId.{LabelId}
use Rattle.hir_store.specs.declared.ids.TypeRefId.{TypeRefId}
use Rattle.hir_store.specs.declared.ids.LifetimeRefId.{LifetimeRefId}
use Rattle.hir_store.specs.declared.ids.BlockId.{BlockId}
use Rattle.hir_store.specs.declared.expansions.ExpandedCall.{ExpandedCall}
use Rattle.hir_store.specs.declared.diagnostics.ExpressionStoreDiagnostics.{ExpressionStoreDiagnostics}

abbrev pub Checked : Type 0 → Type 0
Checked A = Result A StoreError

abbrev pub StoreSink : Type 0 → Type 0
StoreSink A = Stored → Checked A × Stored

-- nothing stored yet
abbrev pub empty : ℕ → Stored
empty limit = record {
  exprs = none_yet limit;
  labels = none_yet limit;
  pats = none_yet limit;
  bindings = none_bound limit;
  types = none_yet limit;
  lifetimes = none_yet limit;
  roots = [];
  target_map = [];
  field_map_back = [];
  pat_field_map_back = [];
  block_scopes = [];
  expansions = [];
  diagnostics = [];
}

abbrev pub same_expr : ExprId → ExprId → Bool
same_expr a b = nat_eq a.0 b.0

abbrev pub same_pat : PatId → PatId → Bool
same_pat a b = nat_eq a.0 b.0

abbrev pub expr_id : ℕ → ExprId
expr_id n = record { 0 = n }

abbrev pub label_id : ℕ → LabelId
label_id n = record { 0 = n }

abbrev pub pat_id : ℕ → PatId
pat_id n = record { 0 = n }

abbrev pub type_id : ℕ → TypeRefId
type_id n = record { 0 = n }

abbrev pub lifetime_id : ℕ → LifetimeRefId
lifetime_id n = record { 0 = n }

-- one expression more, which the node that it came from now leads to
unfoldable pub alloc_expr : Expr → Option Pointer → StoreSink ExprId
alloc_expr e source = λ s. let r = sourced.alloc expr_id e source s.exprs in (r.0, record s { exprs = r.1 })

-- one expression more that was made up for the node: the node doesn't lead to it
unfoldable pub alloc_desugared : Expr → Option Pointer → StoreSink ExprId
alloc_desugared e source = λ s. let r = sourced.alloc_desugared expr_id e source s.exprs in (r.0, record s { exprs = r.1 })

unfoldable pub alloc_label : Label → Option Pointer → StoreSink LabelId
alloc_label l source = λ s. let r = sourced.alloc label_id l source s.labels in (r.0, record s { labels = r.1 })

unfoldable pub alloc_pat : Pat → Option Pointer → StoreSink PatId
alloc_pat p source = λ s. let r = sourced.alloc pat_id p source s.pats in (r.0, record s { pats = r.1 })

-- one pattern more that was made up for the node: the node doesn't lead to it
unfoldable pub alloc_desugared_pat : Pat → Option Pointer → StoreSink PatId
alloc_desugared_pat p source = λ s. let r = sourced.alloc_desugared pat_id p source s.pats in (r.0, record s { pats = r.1 })

unfoldable pub alloc_binding : Binding → StoreSink BindingId
alloc_binding b = λ s. let r = bound.add_binding b s.bindings in (r.0, record s { bindings = r.1 })

-- the pattern makes the binding
unfoldable pub define : BindingId → PatId → StoreSink (Unit {0})
define id p = λ s. (Ok tt, record s { bindings = with_definition s.bindings id p })

unfoldable pub set_problem : BindingId → Option BindingProblems → StoreSink (Unit {0})
set_problem id problem = λ s. (Ok tt, record s { bindings = with_problem s.bindings id problem })

-- from this binding on the expression owns each that nothing owned
unfoldable pub own : BindingId → ExprId → StoreSink (Unit {0})
own start id = λ s. (Ok tt, record s { bindings = with_owner s.bindings start id })

unfoldable pub alloc_type : TypeRef → Option Pointer → StoreSink TypeRefId
alloc_type t source = λ s. let r = sourced.alloc type_id t source s.types in (r.0, record s { types = r.1 })

unfoldable pub alloc_lifetime : LifetimeRef → Option Pointer → StoreSink LifetimeRefId
alloc_lifetime l source = λ s. let r = sourced.alloc lifetime_id l source s.lifetimes in (r.0, record s { lifetimes = r.1 })

-- the node leads to the expression as well
unfoldable pub point : Pointer → ExprId → StoreSink (Unit {0})
point p id = λ s. (Ok tt, record s { exprs = with_mapping s.exprs p id })

-- the expression is that of a written field of a record
unfoldable pub point_field : ExprId → Pointer → StoreSink (Unit {0})
point_field id p = λ s. (Ok tt, record s { field_map_back = with_first_by same_expr s.field_map_back id p })

-- the same for patterns
unfoldable pub point_pat : Pointer → PatId → StoreSink (Unit {0})
point_pat p id = λ s. (Ok tt, record s { pats = with_mapping s.pats p id })

-- the node, which is one of the assignee expression, leads to the pattern
unfoldable pub point_target : Pointer → PatId → StoreSink (Unit {0})
point_target p id = λ s. (Ok tt, record s { target_map = insert_entry same_pointer s.target_map p id })

-- the same for types
unfoldable pub point_type : Pointer → TypeRefId → StoreSink (Unit {0})
point_type p id = λ s. (Ok tt, record s { types = with_mapping s.types p id })

unfoldable pub point_pat_field : PatId → Pointer → StoreSink (Unit {0})
point_pat_field id p = λ s. (Ok tt, record s { pat_field_map_back = with_first_by same_pat s.pat_field_map_back id p })

unfoldable pub report : ExpressionStoreDiagnostics → StoreSink (Unit {0})
report d = λ s. (Ok tt, record s { diagnostics = s.diagnostics ++ d ∷ [] })

-- the call was expanded to the file
unfoldable pub record_expansion : ExpandedCall → StoreSink (Unit {0})
record_expansion c = λ s. (Ok tt, record s { expansions = s.expansions ++ c ∷ [] })

unfoldable pub enter_block : BlockId → StoreSink (Unit {0})
enter_block b = λ s. (Ok tt, record s { block_scopes = s.block_scopes ++ b ∷ [] })

abbrev pub root_at : Store → ExprId → ExprRoot
root_at s root = record {
  root = root;
  exprs_end = expr_id (length s.exprs);
  pats_end = pat_id (length s.pats);
  bindings_end = bound.binding_id (length s.bindings);
}

-- what was stored so far belongs to this root, or to one before it
unfoldable pub record_root : ExprId → StoreSink (Unit {0})
record_root root = λ s. (Ok tt, record s { roots = s.roots ++ root_at (store_of s) root ∷ [] })

-- outcomes

-- how many entries each arena may hold, and how many it holds
abbrev pub filled : Stored → List (ℕ × ℕ)
filled s =
    (s.exprs.limit, length s.exprs.entries)
    ∷ (s.labels.limit, length s.labels.entries)
    ∷ (s.types.limit, length s.types.entries)
    ∷ (s.lifetimes.limit, length s.lifetimes.entries)
    ∷ (s.pats.limit, length s.pats.entries)
    ∷ (s.bindings.limit, length s.bindings.entries)
    ∷ []

-- one of these holds all that it may
abbrev pub AnyAtLimit : List (ℕ × ℕ) → Type 0
AnyAtLimit [] = ⊥
AnyAtLimit (a ∷ as') = (a.0 ≤ a.1) ⊎ AnyAtLimit as'

-- an arena has reached its limit
abbrev pub SomeAtLimit : Stored → Type 0
SomeAtLimit s = AnyAtLimit (filled s)

-- all that is stored in `old` is stored in `new`
pub record Extends (old new : Stored) : Type 0 where
  pub exprs : Continues old.exprs new.exprs
  pub labels : Continues old.labels new.labels
  pub pats : Continues old.pats new.pats
  pub bindings : BindingsContinue old.bindings new.bindings
  pub types : Continues old.types new.types
  pub lifetimes : Continues old.lifetimes new.lifetimes
  pub roots : Prefix old.roots new.roots
  pub target_nodes : Prefix (map (λ e. e.0) old.target_map) (map (λ e. e.0) new.target_map)
  pub field_map_back : Prefix old.field_map_back new.field_map_back
  pub pat_field_map_back : Prefix old.pat_field_map_back new.pat_field_map_back
  pub block_scopes : Prefix old.block_scopes new.block_scopes
  pub expansions : Prefix old.expansions new.expansions
  pub diagnostics : Prefix old.diagnostics new.diagnostics

-- The step's outcome, unless memory was refused, and then nothing changes. What it answers exists.
abbrev pub Stores : {A : Type 0} → (Stored → A → Type 0) → StoreSink A → Stored → Checked A → Stored → Type 0
Stores Has p old (Ok a) new = (p old ≡ (Ok a, new)) × Grows old new × Has new a
Stores Has p old (Err e) new = (new ≡ old) × (e ≢ Memory → (p old ≡ (Err e, new)) × SomeAtLimit new)
