-- What is in scope where a walk over the scopes stands.
use Rattle.std.specs.Prelude.{◌≡◌, ◌⊎◌, ℕ, zero, suc, List, [], ◌∷◌, ◌++◌, length, slice_get, Option, Some, None}
use Rattle.std.specs.List.{flat_map}
use Rattle.hir_env.specs.Answers.{Contexts}
use Rattle.hir_lower_scope.specs.ScopeRibs.{Rib, macro_rib}
use Rattle.hir_scopes.specs.Bounds.{ScopeLists}
use Rattle.hir_scopes.specs.Parts.{entries_in, joined, macro_def_in, parent_in}
use Rattle.hir_scopes.specs.declared.scope.ScopeId.{ScopeId}
use Rattle.hir_store.specs.Stored.{Store}
use Rattle.hir_store.specs.declared.ids.BindingId.{BindingId}
use Rattle.hir_store.specs.declared.ids.ExprId.{ExprId}
use Rattle.hir_store.specs.declared.ids.MacroDefId.{MacroDefId}
use Rattle.hir_names.specs.Reads.{Means, Reads}
use Rattle.spec_scopes.specs.Scopes.{binding_ribs}

abbrev pub macro_ribs : Option MacroDefId → List (Rib BindingId)
macro_ribs None = []
macro_ribs (Some d) = macro_rib d ∷ []

-- the measure of a chain of scopes
abbrev pub how_far : Option ScopeId → ℕ
how_far None = 0
how_far (Some s) = suc s.0

-- It is among these, behind some place.
abbrev pub IsLeft : ExprId → List (ℕ × ExprId) → Type 0
IsLeft e [] = ⊥
IsLeft e (r ∷ rs) = (e ≡ r.1) ⊎ IsLeft e rs

module _ (store : Store) (m : ScopeLists) where
  -- what a name meets in one scope
  abbrev pub own_ribs : ScopeId → List (Rib BindingId)
  own_ribs s = binding_ribs store (entries_in m.entries (slice_get m.scopes s.0)) ++ macro_ribs (macro_def_in (slice_get m.scopes s.0))

  -- what it meets from this scope outward, in so many scopes
  abbrev pub ribs_to : ℕ → Option ScopeId → List (Rib BindingId)
  ribs_to zero s = []
  ribs_to (suc n) None = []
  ribs_to (suc n) (Some s) = own_ribs s ++ ribs_to n (parent_in (slice_get m.scopes s.0))

  -- There are no more than so many scopes from this one outward.
  abbrev pub Ends : ℕ → Option ScopeId → Type 0
  Ends n None = Unit {0}
  Ends zero (Some s) = ⊥
  Ends (suc n) (Some s) = Ends n (parent_in (slice_get m.scopes s.0))

  -- This is in scope there.
  abbrev pub IsInScope : Option ScopeId → List (Rib BindingId) → Type 0
  IsInScope s rs = (n : ℕ) → Ends n s → rs ≡ ribs_to n s

  -- Each name has its answer, but for those that are left.
  pub record Resolved (contexts : Contexts) (bs : List (Option BindingId)) (left : List (ℕ × ExprId)) : Type 0 where
    pub exprs : length bs ≡ length store.exprs
    pub means : (e : ExprId) → Reads store m e → IsLeft e left ⊎ Means store m contexts e (joined (slice_get bs e.0))
    pub reads : (e : ExprId) (b : BindingId) → joined (slice_get bs e.0) ≡ Some b → Reads store m e

  -- With these on the way, innermost first, what is in scope at the one is in scope at the other.
  abbrev pub Leads : Option ScopeId → Option ScopeId → List ScopeId → Type 0
  Leads there here way = (rs : List (Rib BindingId)) → IsInScope here rs → IsInScope there (flat_map own_ribs way ++ rs)
