-- The patterns that a pattern names, and all that are inside one.
use Rattle.std.specs.Prelude.{◌≡◌, ◌<◌, ℕ, zero, suc, List, [], ◌∷◌, ◌++◌, map, length, take, slice_get, Option, Some, None}
use Rattle.std.specs.List.{flat_map}
use Rattle.std.specs.Option.{option_to_list}
use Rattle.hir_store.specs.Stored.{Store}
use Rattle.hir_store.specs.declared.pat.Pat.{Pat}
use Rattle.hir_store.specs.declared.pat.Pat.TheVariants as pat
use Rattle.hir_store.specs.declared.pat.RecordFieldPat.{RecordFieldPat}
use Rattle.hir_store.specs.declared.ids.PatId.{PatId}
use Rattle.hir_store.specs.declared.ids.BindingId.{BindingId}

abbrev pub field_pat : RecordFieldPat → PatId
field_pat f = f.pat

-- those that are still to come: before the middle, the middle, behind it, and those of fields
abbrev pub parts_left : List PatId → Option PatId → List PatId → List RecordFieldPat → List PatId
parts_left before middle behind fields = before ++ (option_to_list middle ++ (behind ++ map field_pat fields))

-- in the order in which its parts stand in it
abbrev pub pat_children : Pat → List PatId
pat_children (pat.Bind i sub) = option_to_list sub
pat_children (pat.TupleStruct p ellipsis ps) = ps
pat_children (pat.Tuple ellipsis ps) = ps
pat_children (pat.Record p fs ellipsis) = map field_pat fs
pat_children (pat.Or ps) = ps
pat_children (pat.Slice before middle behind) = before ++ (option_to_list middle ++ behind)
pat_children (pat.Ref m p) = p ∷ []
pat_children (pat.Box p) = p ∷ []
pat_children (pat.Deref p) = p ∷ []
pat_children _ = []

-- the binding that a pattern itself makes
abbrev pub pat_binding : Pat → List BindingId
pat_binding (pat.Bind i sub) = i ∷ []
pat_binding _ = []

-- of an entry that is there
abbrev pub of_found : {A B : Type 0} → (A → List B) → Option A → List B
of_found f None = []
of_found f (Some a) = f a

abbrev pub AllBelow : ℕ → List PatId → Type 0
AllBelow n [] = Unit {0}
AllBelow n (i ∷ is) = (i.0 < n) × AllBelow n is

module _ (store : Store) where
  abbrev pub with_parts : PatId → (PatId → List PatId) → Option Pat → List PatId
  with_parts i f None = []
  with_parts i f (Some p) = i ∷ flat_map f (pat_children p)

  -- the pattern, and all inside it down to so many levels, each whole before its parts
  unfoldable pub pats_to : ℕ → PatId → List PatId
  pats_to zero i = []
  pats_to (suc d) i = with_parts i (pats_to d) (slice_get store.pats i.0)

  -- The pattern and all inside it, each whole before its parts. There are no more than the store has patterns: where a pattern is named
  -- twice or is inside itself, the walk ends after so many. As many levels as there are patterns are all that can count then.
  abbrev pub pats_in : PatId → List PatId
  pats_in i = take (length store.pats) (pats_to (length store.pats) i)

  -- the same of several patterns, together no more
  abbrev pub pats_in_all : List PatId → List PatId
  pats_in_all is = take (length store.pats) (flat_map (pats_to (length store.pats)) is)

  abbrev pub binding_at : PatId → List BindingId
  binding_at i = of_found pat_binding (slice_get store.pats i.0)

  -- the bindings that the pattern and those inside it make, as often as they stand there
  abbrev pub bindings_in : PatId → List BindingId
  bindings_in i = flat_map binding_at (pats_in i)

  -- Each part of a pattern has a lower id than the whole. In such a store no pattern is inside itself.
  abbrev pub Descends : Type 0
  Descends = (i : PatId) (p : Pat) → slice_get store.pats i.0 ≡ Some p → AllBelow i.0 (pat_children p)

-- what a sink is once it took these one after another
abbrev pub taken : {V A : Type 0} → (V → A → V) → List A → V → V
taken after [] v = v
taken after (i ∷ is) v = taken after is (after v i)
