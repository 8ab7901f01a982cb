-- Which scopes are recorded for expressions.
use Rattle.std.specs.Prelude.{◌≡◌, ◌⊎◌, ◌<◌, length, slice_get, Some}
use Rattle.hir_store.specs.Stored.{Store}
use Rattle.hir_store.specs.declared.ids.ExprId.{ExprId}
use Rattle.hir_scopes.specs.declared.scope.ScopeId.{ScopeId}
use Rattle.hir_scopes.specs.declared.opening.Around.{Around}
use Rattle.hir_scopes.specs.Bounds.{ScopeLists}
use Rattle.hir_scopes.specs.Chains.{Grown, InRange, IsChain, Stands}
use Rattle.spec_scopes.specs.Placed.{Among, Placed, Sees, Spot, recorded}

-- The scope of the expression is this one.
abbrev pub HasScope : ScopeLists → ExprId → ScopeId → Type 0
HasScope m e s = slice_get m.by_expr e.0 ≡ Some (Some s)

-- It is seen there from one of these that is below the whole.
abbrev pub SeenFrom : Store → ExprId → Placed → ExprId → Spot → Type 0
SeenFrom store whole ps e y = (c : ExprId) × (z : Spot) × Among c z ps × (c.0 < whole.0) × Sees store c z e y

-- Each expression that is seen has a scope behind the step. A scope that is new is that of an expression which is seen, and it has the
-- chain of a place where it is seen.
pub record Records (store : Store) (m n : ScopeLists) (Seen : ExprId → Spot → Type 0) : Type 0 where
  pub exprs : length n.by_expr ≡ length m.by_expr
  pub new : (e : ExprId) (s : ScopeId) → HasScope n e s
      → HasScope m e s ⊎ ((y : Spot) × Seen e y × IsChain n (Some s) (recorded store e y))
  pub all : (e : ExprId) (y : Spot) → Seen e y → e.0 < length m.by_expr → (s : ScopeId) × HasScope n e s
  pub kept : (e : ExprId) (s : ScopeId) → HasScope m e s → (t : ScopeId) × HasScope n e t

-- this expression, there
pub data Is (r : ExprId) (x : Spot) : ExprId → Spot → Type 0 where
  it_is : Is r x r x

-- What was there is there still, and these scopes are.
pub record Kept (m n : ScopeLists) (around : Around) : Type 0 where
  pub grown : Grown m n
  pub in_range : InRange n around

-- From what is placed so, all that is seen has its scope, and behind it stands this.
pub record Walks (store : Store) (whole : ExprId) (m n : ScopeLists) (around : Around) (ps : Placed) (y : Spot) : Type 0 where
  pub records : Records store m n (SeenFrom store whole ps)
  pub stands : Stands n around y

-- the same wherever the step begins, where this is placed and that stands behind
abbrev pub Walked : Store → ExprId → ScopeLists → ScopeLists → Around → (Spot → Placed) → (Spot → Spot) → Around → Type 0
Walked store whole m n around ps y r = (x : Spot) → Stands m around x → Walks store whole m n r (ps x) (y x)

-- the same where nothing stands behind
abbrev pub Recorded : Store → ExprId → ScopeLists → ScopeLists → Around → (Spot → Placed) → Type 0
Recorded store whole m n around ps = (x : Spot) → Stands m around x → Records store m n (SeenFrom store whole (ps x))
