-- What a written name may mean, and the names that a pattern binds (Rust Reference, patterns, and scopes of names). Nothing here knows a
-- store.
use Rattle.std.specs.Prelude.{ℕ, List, [], ◌∷◌, ◌++◌, slice_get, Option, Some, None}
use Rattle.std.specs.List.{flat_map}
use Rattle.hir_lower_scope.specs.ScopeRibs.{Rib, label_rib}
use Rattle.hir_env.specs.ResolvedTree as tree
use Rattle.hir_env.specs.ResolvedTree.{Pat, OptionPat, Pats, PatFields, Use}
use Rattle.spec_data.specs.Patterns.{if_path, first_uses, uses_after, uses_after_part, uses_after_each}
use Rattle.spec_data.specs.Tops.{Tops}
use Rattle.spec_data.specs.Uses.{FirstUses, number_of}
use Rattle.spec_data.specs.Written.{path_of}

pub data Meaning : Type 0 where
  -- a name of this top pattern, by the number of its first use there
  name_in : OptionPat → ℕ → Meaning
  -- the parameter `self`
  self_name : Meaning

-- the names in scope and the definitions of macros around, innermost first
abbrev pub InScope : Type 0
InScope = List (Rib Meaning)

abbrev mutual
  -- The names that stand in the pattern, by their numbers in the top pattern, of which these have uses in front of it. A name that stands
  -- in two alternatives has one number.
  pub names_of : Pat → FirstUses → List ℕ
  names_of (tree.leaf_pat at form) us = []
  names_of (tree.bind_pat at u _ sub) us = number_of (uses_after_part sub us) u ∷ names_of_part sub us
  names_of (tree.name_pat at u _) us = []
  names_of (tree.path_pat at p) us = []
  names_of (tree.tuple_struct_pat at p comma ps) us = if_path (path_of p) (λ _. names_of_each ps us) []
  names_of (tree.tuple_pat at comma ps) us = names_of_each ps us
  names_of (tree.record_pat at p fs dots) us = if_path (path_of p) (λ _. names_of_fields fs us) []
  names_of (tree.or_pat at ps) us = names_of_each ps us
  names_of (tree.paren_pat at p) us = names_of_part p us
  names_of (tree.macro_pat at called p) us = names_of_part p us
  names_of (tree.barred_pat at) us = []
  names_of (tree.slice_pat at before middle behind) us =
      let between = uses_after_each before us in
      names_of_each before us ++ (names_of_part middle between ++ names_of_each behind (uses_after_part middle between))
  names_of (tree.over_pat at form p) us = names_of_part p us
  names_of (tree.literal_pat at own l) us = []
  names_of (tree.range_pat at op low high) us = []

  pub names_of_part : OptionPat → FirstUses → List ℕ
  names_of_part tree.no_pat us = []
  names_of_part (tree.some_pat p) us = names_of p us

  pub names_of_each : Pats → FirstUses → List ℕ
  names_of_each tree.no_pats us = []
  names_of_each (tree.more_pats p ps) us = names_of p us ++ names_of_each ps (uses_after p us)
  names_of_each (tree.tracked_pats called ps) us = names_of_each ps us

  -- what stands in a field without a name is no part of the record
  pub names_of_fields : PatFields → FirstUses → List ℕ
  names_of_fields tree.no_pat_fields us = []
  names_of_fields (tree.more_pat_fields (tree.pat_field at None p) fs) us = names_of_fields fs (uses_after p us)
  names_of_fields (tree.more_pat_fields (tree.pat_field at (Some n) p) fs) us = names_of p us ++ names_of_fields fs (uses_after p us)
  names_of_fields (tree.more_pat_fields f fs) us = names_of_fields fs us

-- The name with this number is met by its text and its hygiene.
abbrev pub name_rib : OptionPat → ℕ → Option Use → InScope
name_rib p k None = []
name_rib p k (Some u) = label_rib u.name u.hygiene (name_in p k) ∷ []

-- the names of a top pattern
abbrev pub top_names : OptionPat → InScope
top_names p = flat_map (λ k. name_rib p k (slice_get (first_uses p) k)) (names_of_part p [])

-- behind a pattern
abbrev pub with_top : OptionPat → InScope → InScope
with_top p ns = top_names p ++ ns

-- behind several patterns at once, of which the first that binds a name counts
abbrev pub with_tops : Tops → InScope → InScope
with_tops ps ns = flat_map top_names ps ++ ns

-- behind one pattern after another, of which the last that binds a name counts
abbrev pub with_each : Tops → InScope → InScope
with_each [] ns = ns
with_each (p ∷ ps) ns = with_each ps (with_top p ns)
