-- The chain of scopes from one outward, and steps that add scopes.
use Rattle.std.specs.Prelude.{◌≡◌, ◌<◌, ◌-◌, List, [], ◌∷◌, ◌++◌, length, take, drop, slice_get, Option, Some, None}
use Rattle.hir_store.specs.declared.ids.BindingId.{BindingId}
use Rattle.hir_store.specs.declared.ids.BlockId.{BlockId}
use Rattle.hir_store.specs.declared.ids.LabelId.{LabelId}
use Rattle.hir_scopes.specs.declared.scope.ScopeData.{ScopeData}
use Rattle.hir_scopes.specs.declared.scope.ScopeId.{ScopeId}
use Rattle.hir_scopes.specs.declared.scope.ScopeKind.{ScopeKind}
use Rattle.hir_scopes.specs.declared.scope.ScopeKind.TheVariants as kind
use Rattle.hir_scopes.specs.declared.opening.Around.{Around}
use Rattle.hir_scopes.specs.Bounds.{IsWithin, ScopeLists}
use Rattle.spec_scopes.specs.Placed.{Spot, block_items}
use Rattle.spec_scopes.specs.Scopes.{Scopes, NameScope, binding_scope, block_scope, loop_scope, macro_def_scope}

-- what a scope is, where these are the entries
abbrev pub scope_of : List BindingId → ScopeKind → NameScope
scope_of bs (kind.Bindings start end) = binding_scope (take (end - start) (drop start bs))
scope_of bs (kind.Block id label) = block_scope id label
scope_of bs (kind.Loop label) = loop_scope label
scope_of bs (kind.MacroDef d) = macro_def_scope d

-- From this one outward they are these.
abbrev pub IsChain : ScopeLists → Option ScopeId → Scopes → Type 0
IsChain m None [] = Unit {0}
IsChain m None (z ∷ zs) = ⊥
IsChain m (Some s) [] = ⊥
IsChain m (Some s) (z ∷ zs) = (d : ScopeData) × (slice_get m.scopes s.0 ≡ Some d) × IsWithin d.kind (length m.entries)
    × (scope_of m.entries d.kind ≡ z) × IsChain m d.parent zs

-- What stands there sees these names, and a constant there these.
pub record Stands (m : ScopeLists) (around : Around) (x : Spot) : Type 0 where
  pub names : IsChain m (Some around.scope) x.names
  pub items : IsChain m (Some around.const_scope) x.items

-- Scopes and entries are added behind those that are there.
pub record Grown (m n : ScopeLists) : Type 0 where
  pub scopes : (more : List ScopeData) × (n.scopes ≡ m.scopes ++ more)
  pub entries : (more : List BindingId) × (n.entries ≡ m.entries ++ more)

-- A scope is opened inside this one.
pub record Opens (m n : ScopeLists) (parent : ScopeId) (opened : NameScope) (id : ScopeId) : Type 0 where
  pub grown : Grown m n
  pub by_expr : n.by_expr ≡ m.by_expr
  pub in_range : id.0 < length n.scopes
  pub inside : (zs : Scopes) → IsChain m (Some parent) zs → IsChain n (Some id) (opened ∷ zs)

-- These are in range.
pub record InRange (m : ScopeLists) (around : Around) : Type 0 where
  pub scope : around.scope.0 < length m.scopes
  pub const_scope : around.const_scope.0 < length m.scopes

-- Scopes are opened inside these, behind which this stands.
pub record Enters (m n : ScopeLists) (around : Around) (inner : Spot → Spot) (r : Around) : Type 0 where
  pub grown : Grown m n
  pub by_expr : n.by_expr ≡ m.by_expr
  pub in_range : InRange n r
  pub inside : (x : Spot) → Stands m around x → Stands n r (inner x)

-- inside a block
abbrev pub in_block : Option BlockId → Option LabelId → Spot → Spot
in_block id label x = record { names = block_scope id label ∷ x.names; items = block_items id x.items }
