-- Which name an expression reads, and what it is to mean.
use Rattle.std.specs.Prelude.{◌≡◌, List, slice_get, Option, Some, None}
use Rattle.hir_env.specs.Answers.{Contexts}
use Rattle.hir_scopes.specs.Bounds.{ScopeLists}
use Rattle.hir_scopes.specs.Chains.{IsChain}
use Rattle.hir_scopes.specs.Records.{HasScope}
use Rattle.hir_scopes.specs.declared.scope.ScopeId.{ScopeId}
use Rattle.hir_store.specs.Stored.{Store}
use Rattle.hir_store.specs.declared.hir.Expr.{Expr}
use Rattle.hir_store.specs.declared.hir.Expr.TheVariants as hir
use Rattle.hir_store.specs.declared.ids.BindingId.{BindingId}
use Rattle.hir_store.specs.declared.ids.ExprId.{ExprId}
use Rattle.hir_store.specs.declared.ids.LabelId.{LabelId}
use Rattle.hir_store.specs.declared.name.Name.{Name}
use Rattle.hir_store.specs.declared.path.Path.TheVariants.{BarePath}
use Rattle.hir_walks.specs.Paths.{expr_hygiene, ident_in}
use Rattle.spec_scopes.specs.Scopes.{Scopes, read_of}

-- the binding of a label's number
abbrev pub binding_of : LabelId → BindingId
binding_of l = record { 0 = l.0 }

-- the name that an expression is: a path of one plain segment, without arguments
abbrev pub name_in : Option Expr → Option Name
name_in (Some (hir.Path (BarePath p) h)) = ident_in p.kind p.segments
name_in _ = None

module _ (store : Store) (m : ScopeLists) where
  -- It is a name, and has a scope.
  abbrev pub Reads : ExprId → Type 0
  Reads e = (n : Name) × (s : ScopeId) × (name_in (slice_get store.exprs e.0) ≡ Some n) × HasScope m e s

  module _ (contexts : Contexts) where
    -- It is the binding that its name means in its scope, or none where it means none: what a look-up along the chain of scopes finds.
    abbrev pub Means : ExprId → Option BindingId → Type 0
    Means e b = (n : Name) (s : ScopeId) (ss : Scopes) → name_in (slice_get store.exprs e.0) ≡ Some n → HasScope m e s
        → IsChain m (Some s) ss → b ≡ read_of store contexts n (expr_hygiene (slice_get store.exprs e.0)) ss
