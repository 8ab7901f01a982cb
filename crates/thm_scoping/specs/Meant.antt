-- When a stored name and a written one mean the same.
use Rattle.std.specs.Prelude.{◌≡◌, ℕ, List, [], ◌∷◌, slice_get, Option, Some, None}
use Rattle.hir_store.specs.Names.{IsWritten}
use Rattle.hir_store.specs.Stored.{Store, SourceMap}
use Rattle.hir_store.specs.declared.ids.BindingId.{BindingId}
use Rattle.hir_store.specs.declared.ids.PatId.{PatId}
use Rattle.hir_store.specs.declared.name.Name.{Name}
use Rattle.hir_lower_scope.specs.ScopeRibs.{Rib, Sought, search, number_found}
use Rattle.hir_env.specs.Answers.{Contexts}
use Rattle.hir_env.specs.ResolvedTree.{OptionPat}
use Rattle.spec_scopes.specs.Scopes.{Scopes, ribs_of}
use Rattle.spec_scopes.specs.Placed.{Spot}
use Rattle.spec_scoping.specs.Bound.{InScope, Meaning, name_in, self_name}
use Rattle.spec_scoping.specs.Scoping.{Where}
use Rattle.thm_body_result.specs.Corresponds.{NamesOf}

module _ (store : Store) (source_map : SourceMap) (self : Option BindingId) where
  -- A stored pattern is the written top pattern, and of the bindings of its names this one is that of the name with this number.
  pub record IsNameIn (b : BindingId) (p : OptionPat) (k : ℕ) : Type 0 where
    pub pattern : PatId
    pub bindings : List BindingId
    pub names : NamesOf store source_map p pattern bindings
    pub is : slice_get bindings k ≡ Some b

  abbrev pub Means : BindingId → Meaning → Type 0
  Means b (name_in p k) = IsNameIn b p k
  Means b self_name = self ≡ Some b

  -- what is found on both sides, or on none
  abbrev pub MeansSame : Option BindingId → Option Meaning → Type 0
  MeansSame None None = Unit {0}
  MeansSame None (Some m) = ⊥
  MeansSame (Some b) None = ⊥
  MeansSame (Some b) (Some m) = Means b m

  -- Each name that may be written, whatever its hygiene and wherever its context came from, means the same on both sides.
  abbrev pub SameRibs : List (Rib BindingId) → InScope → Type 0
  SameRibs rs ns = (contexts : Contexts) (n : Name) (s : Sought) → IsWritten n
      → MeansSame (number_found (search contexts n s rs)) (number_found (search contexts n s ns))

  abbrev pub SameNames : Scopes → InScope → Type 0
  SameNames ss ns = SameRibs (ribs_of store ss) ns

  pub record SameAt (x : Spot) (w : Where) : Type 0 where
    pub names : SameNames x.names w.names
    pub items : SameNames x.items w.items
