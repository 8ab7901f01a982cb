-- What a stored expression sees is what the written one does.
use Rattle.std.specs.Prelude.{◌≡◌, ◌≤◌, Bool, ℕ, suc, List, [], ◌∷◌, ◌++◌, length, slice_get, Option, Some, None}
use Rattle.hir_store.specs.Range.{StoreInRange}
use Rattle.hir_store.specs.Stored.{Store, SourceMap}
use Rattle.hir_store.specs.declared.hir.Expr.{Expr as StoredExpr}
use Rattle.hir_store.specs.declared.ids.BindingId.{BindingId}
use Rattle.hir_store.specs.declared.ids.ExprId.{ExprId}
use Rattle.hir_store.specs.declared.ids.PatId.{PatId}
use Rattle.hir_store.specs.declared.pat.Pat.{Pat}
use Rattle.hir_store.specs.declared.pat.Pat.TheVariants as pat
use Rattle.hir_env.specs.ResolvedTree.{Expr, Formals, OptionExpr}
use Rattle.hir_walks.specs.Exprs.{expr_constants, expr_pats, path_constants}
use Rattle.hir_walks.specs.Pats.{pats_to}
use Rattle.spec_scopes.specs.Placed.{Sees, Spot, after, outermost}
use Rattle.spec_scopes.specs.Scopes.{Scopes}
use Rattle.spec_scoping.specs.Scoping.{Stands, Where, outside}
use Rattle.thm_body_result.specs.Corresponds.{Corresponds, CorrespondsPart, Open}
use Rattle.thm_body_result.specs.Diagnostics.{Faults}
use Rattle.thm_body_result.specs.Formals.{Given, formals_read}
use Rattle.thm_body_result.specs.Leads.{Mapping}
use Rattle.thm_body_result.specs.OneResult.{OneResult}
use Rattle.thm_semantics.specs.Reached.{Spread}
use Rattle.thm_type_result.specs.Named.{of_exprs, of_pats_alone}
use Rattle.thm_type_result.specs.Pats.{of_types, pats_reached}
use Rattle.thm_type_result.specs.Reached.{of_each}
use Rattle.thm_scoping.specs.Meant.{SameAt}

-- the constants among the arguments of its path
abbrev pub pat_constants : Pat → List ExprId
pat_constants (pat.Path p h) = path_constants p
pat_constants (pat.TupleStruct p ellipsis ps) = path_constants p
pat_constants (pat.Record p fs ellipsis) = path_constants p
pat_constants p = []

module _ (store : Store) where
  -- nothing in them binds for what stands behind
  abbrev pub BindNothing : List ExprId → Type 0
  BindNothing [] = Unit {0}
  BindNothing (c ∷ cs) = ((ss : Scopes) → after store c ss ≡ ss) × BindNothing cs

  -- The patterns inside this one, as often as they stand there, are no more than the store has. This is so where each is inside another one
  -- in one way.
  abbrev pub IsWhole : PatId → Type 0
  IsWhole q = length (pats_to store (suc q.0) q) ≤ length store.pats

  abbrev pub AreWhole : List PatId → Type 0
  AreWhole [] = Unit {0}
  AreWhole (q ∷ qs) = IsWhole q × AreWhole qs

  -- each pattern that an expression names is whole
  abbrev pub PatternsAreWhole : Type 0
  PatternsAreWhole = (e : ExprId) (f : StoredExpr) → slice_get store.exprs e.0 ≡ Some f → AreWhole (expr_pats f)

  -- However deep one looks, these patterns, the expressions and the types reach each pattern in one way only: `pats_reached_once` of
  -- `lower_body`.
  abbrev pub PatsReachedOnce : List PatId → Type 0
  PatsReachedOnce qs = (depth : ℕ) → length store.pats ≤ depth → let l = of_pats_alone (pats_reached store.pats depth) in
      Spread 0 (length store.pats) (of_each l.pats qs ++ (of_exprs l store.exprs ++ of_types l store.types))

  -- no constant among arguments is a `let`
  pub record ConstantsBindNothing : Type 0 where
    pub in_exprs : (e : ExprId) (f : StoredExpr) → slice_get store.exprs e.0 ≡ Some f → BindNothing (expr_constants f)
    pub in_pats : (i : PatId) (p : Pat) → slice_get store.pats i.0 ≡ Some p → BindNothing (pat_constants p)

module _ (store : Store) (source_map : SourceMap) (self : Option BindingId) (root : ExprId) (start : Spot) where
  -- A stored expression stands for the written one, and where it stands each name means what it means there.
  pub record SeesSame (e : Expr) (w : Where) : Type 0 where
    pub id : ExprId
    pub around : Open
    pub mappings : List Mapping
    pub corresponds : Corresponds store source_map around e id mappings
    pub spot : Spot
    pub sees : Sees store root start id spot
    pub same : SameAt store source_map self spot w

-- From the same start each expression that stands anywhere in the written body has its stored one.
abbrev pub ScopesAgree : Type 0
ScopesAgree = (store : Store) (source_map : SourceMap) (self : Option BindingId)
    → StoreInRange store → PatternsAreWhole store → ConstantsBindNothing store
    → (around : Open) (e : OptionExpr) (root : ExprId) (mappings : List Mapping) → CorrespondsPart store source_map around e root mappings
    → (start : Spot) (outside : Where) → SameAt store source_map self start outside
    → (c : Expr) (w : Where) → Stands e outside c w → SeesSame store source_map self root start c w

-- The same of a lowered function without `async` and `gen`, from its parameters on, of which `self` is the binding that is handed in.
abbrev pub BodiesAgree : Type 0
BodiesAgree = (store : Store) (source_map : SourceMap) (owed : Faults) (skipped : Bool) (f : Formals) (e : OptionExpr) (given : Given)
    → StoreInRange store → PatsReachedOnce store given.0.1 → ConstantsBindNothing store
    → (r : OneResult store source_map owed None skipped f given e)
    → (c : Expr) (w : Where) → Stands e (outside f.receiver (formals_read skipped f.formals)) c w
    → SeesSame store source_map given.0.0 r.root (outermost store given.0.0 given.0.1) c w
