-- The notes of the walk of an alias.
use Rattle.std.specs.Prelude.{ℕ, zero, suc, ◌≡◌, Bool, true, false, List, [], ◌∷◌, ◌++◌, Option, Some, None, length}
use Rattle.std.specs.Prelude.{slice_get, slice_set, ◌⊎◌}
use Rattle.hir_store.specs.Stored.{Store}
use Rattle.hir_store.specs.declared.generics.LifetimeParamData.{LifetimeParamData}
use Rattle.hir_store.specs.declared.ids.TypeRefId.{TypeRefId}
use Rattle.hir_store.specs.declared.ids.LifetimeRefId.{LifetimeRefId}
use Rattle.hir_store.specs.declared.name.Name.{Name}
use Rattle.hir_store.specs.declared.type_ref.TypeRef.{TypeRef}
use Rattle.hir_store.specs.declared.type_ref.LifetimeRef.{LifetimeRef}
use Rattle.hir_alias.specs.declared.visitor.VisitorState.{VisitorState}
use Rattle.hir_alias.specs.Reaching.{Part, a_type, a_lifetime, Reached, Named, alias_parts, named_place, place_of}

-- a type that stands in the store is put on the list once
abbrev pub track_new : VisitorState → TypeRefId → Option Bool → VisitorState
track_new v t (Some false) = record { tracked = slice_set v.tracked t.0 true; work = v.work ++ t ∷ []; named = v.named }
track_new v t (Some true) = v
track_new v t None = v

abbrev pub track_type : VisitorState → TypeRefId → VisitorState
track_type v t = track_new v t (slice_get v.tracked t.0)

abbrev pub track_place : VisitorState → Option ℕ → VisitorState
track_place v None = v
track_place v (Some k) = record v { named = slice_set v.named k true }

-- which parameter a name stands for is handed in
module _ (lifetimes : List LifetimeRef) (find : Name → Option ℕ) where
  abbrev pub track_lifetime : VisitorState → LifetimeRefId → VisitorState
  track_lifetime v l = track_place v (named_place lifetimes find l)

  abbrev pub track_part : VisitorState → Part → VisitorState
  track_part v (a_type t) = track_type v t
  track_part v (a_lifetime l) = track_lifetime v l

  abbrev pub track_parts : VisitorState → List Part → VisitorState
  track_parts v [] = v
  track_parts v (p ∷ ps) = track_parts (track_part v p) ps

  -- a part that was noted, unless it names nothing
  abbrev pub Met : VisitorState → Part → Type 0
  Met v (a_type u) = (b : Bool) → slice_get v.tracked u.0 ≡ Some b → b ≡ true
  Met v (a_lifetime l) = (k : ℕ) → named_place lifetimes find l ≡ Some k → slice_get v.named k ≡ Some true

  abbrev pub MetAll : VisitorState → List Part → Type 0
  MetAll v [] = Unit {0}
  MetAll v (p ∷ ps) = Met v p × MetAll v ps

  -- each part of a type was noted
  abbrev pub Done : List TypeRef → VisitorState → ℕ → Type 0
  Done types v n = (x : TypeRef) → slice_get types n ≡ Some x → MetAll v (alias_parts x)

abbrev pub OnList : ℕ → List TypeRefId → Type 0
OnList n [] = ⊥
OnList n (t ∷ ts) = (t.0 ≡ n) ⊎ OnList n ts

-- how many numbers weren't noted yet
abbrev pub unseen_count : List Bool → ℕ
unseen_count [] = 0
unseen_count (true ∷ bs) = unseen_count bs
unseen_count (false ∷ bs) = suc (unseen_count bs)

-- What holds of the notes all the time: what is noted is reached, and is on the list or done. There are so many parameters.
pub record Sound (types : List TypeRef) (lifetimes : List LifetimeRef) (find : Name → Option ℕ) (many : ℕ) (root : TypeRefId)
    (v : VisitorState)
    : Type 0 where
  pub types_tracked : length v.tracked ≡ length types
  pub places_tracked : length v.named ≡ many
  pub reached : (n : TypeRefId) → slice_get v.tracked n.0 ≡ Some true → Reached types root n
  pub closed : (n : ℕ) → slice_get v.tracked n ≡ Some true → OnList n v.work ⊎ Done lifetimes find types v n
  pub listed : (n : ℕ) → OnList n v.work → slice_get v.tracked n ≡ Some true
  pub meant : (k : ℕ) → slice_get v.named k ≡ Some true → Named types lifetimes find root k

-- the same for the lifetime parameters of an alias, whose type was met, too
abbrev pub SoundIn : Store → List LifetimeParamData → TypeRefId → VisitorState → Type 0
SoundIn store params root v =
    Sound store.types store.lifetimes (place_of params) (length params) root v
    × Met store.lifetimes (place_of params) v (a_type root)

-- so many flags that are down
abbrev pub falses : ℕ → List Bool
falses zero = []
falses (suc n) = false ∷ falses n
