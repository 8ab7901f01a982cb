-- The scopes of a body as lists, and what holds of them at any time.
use Rattle.std.specs.Prelude.{◌≡◌, ◌<◌, ◌≤◌, ℕ, List, length, slice_get, Option, Some, None}
use Rattle.hir_store.specs.declared.ids.BindingId.{BindingId}
use Rattle.hir_scopes.specs.declared.scope.ScopeData.{ScopeData}
use Rattle.hir_scopes.specs.declared.scope.ScopeId.{ScopeId}
use Rattle.hir_scopes.specs.declared.scope.ScopeKind.{ScopeKind}
use Rattle.hir_scopes.specs.declared.scope.ScopeKind.TheVariants as kind

-- scope i has id i, and entry i of `by_expr` is the scope of expression i, if it has one
pub record ScopeLists : Type 0 where
  pub scopes : List ScopeData
  pub entries : List BindingId
  pub by_expr : List (Option ScopeId)

abbrev pub IsBefore : Option ScopeId → ℕ → Type 0
IsBefore None n = Unit {0}
IsBefore (Some s) n = s.0 < n

-- its range is one of so many entries
abbrev pub IsWithin : ScopeKind → ℕ → Type 0
IsWithin (kind.Bindings start end) n = (start ≤ end) × (end ≤ n)
IsWithin (kind.Block id label) n = Unit {0}
IsWithin (kind.Loop label) n = Unit {0}
IsWithin (kind.MacroDef d) n = Unit {0}

pub record InBounds (m : ScopeLists) : Type 0 where
  -- A scope comes behind the one around it.
  pub parents : (s : ℕ) (d : ScopeData) → slice_get m.scopes s ≡ Some d → IsBefore d.parent s
  pub ranges : (s : ℕ) (d : ScopeData) → slice_get m.scopes s ≡ Some d → IsWithin d.kind (length m.entries)
