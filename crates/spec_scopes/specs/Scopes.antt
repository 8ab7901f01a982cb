-- The scopes around an expression, and the binding that a name means in them (rust-analyzer, `ScopeData` and `resolve_path_in_value_ns`).
use Rattle.std.specs.Prelude.{List, [], ◌∷◌, ◌++◌, slice_get, Option}
use Rattle.std.specs.List.{flat_map}
use Rattle.hir_store.specs.Stored.{Store}
use Rattle.hir_store.specs.declared.ids.BindingId.{BindingId}
use Rattle.hir_store.specs.declared.ids.BlockId.{BlockId}
use Rattle.hir_store.specs.declared.ids.HygieneId.{HygieneId}
use Rattle.hir_store.specs.declared.ids.LabelId.{LabelId}
use Rattle.hir_store.specs.declared.ids.MacroDefId.{MacroDefId}
use Rattle.hir_store.specs.declared.ids.PatId.{PatId}
use Rattle.hir_store.specs.declared.name.Name.{Name}
use Rattle.hir_store.specs.declared.pat.Binding.{Binding}
use Rattle.hir_env.specs.Answers.{Contexts}
use Rattle.hir_lower_scope.specs.ScopeRibs.{Rib, label_rib, macro_rib, search, sought_first, number_found}
use Rattle.hir_walks.specs.Pats.{of_found, bindings_in}

pub data NameScope : Type 0 where
  -- the bindings of patterns, in the order in which they stand there
  binding_scope : List BindingId → NameScope
  -- a block, which may be a scope of items and have a label
  block_scope : Option BlockId → Option LabelId → NameScope
  loop_scope : Option LabelId → NameScope
  -- what stands behind the definition of a macro
  macro_def_scope : MacroDefId → NameScope

-- innermost first
abbrev pub Scopes : Type 0
Scopes = List NameScope

module _ (store : Store) where
  abbrev pub pat_scope : PatId → NameScope
  pat_scope p = binding_scope (bindings_in store p)

  -- the scope of several patterns, as those of all parameters
  abbrev pub pats_scope : List PatId → NameScope
  pats_scope ps = binding_scope (flat_map (bindings_in store) ps)

  -- A binding is met by its name and its hygiene.
  abbrev pub binding_rib : BindingId → Option Binding → List (Rib BindingId)
  binding_rib b found = of_found (λ it. label_rib it.name it.hygiene b ∷ []) found

  abbrev pub binding_ribs : List BindingId → List (Rib BindingId)
  binding_ribs [] = []
  binding_ribs (b ∷ bs) = binding_rib b (slice_get store.bindings b.0) ++ binding_ribs bs

  -- what a name meets on its way out: in one scope the first binding first
  abbrev pub ribs_of : Scopes → List (Rib BindingId)
  ribs_of [] = []
  ribs_of (binding_scope bs ∷ ss) = binding_ribs bs ++ ribs_of ss
  ribs_of (block_scope id label ∷ ss) = ribs_of ss
  ribs_of (loop_scope label ∷ ss) = ribs_of ss
  ribs_of (macro_def_scope d ∷ ss) = macro_rib d ∷ ribs_of ss

  -- The binding that a name of this hygiene means: the first of its name and hygiene, outward. Behind the definition of the macro that
  -- the name's context came from, the hygiene of the context that the macro was called in is sought.
  abbrev pub read_of : Contexts → Name → HygieneId → Scopes → Option BindingId
  read_of contexts name h ss = number_found (search contexts name (sought_first h) (ribs_of ss))
