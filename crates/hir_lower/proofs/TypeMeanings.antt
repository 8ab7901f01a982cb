-- What is stored as a type is one more.
use Rattle.std.proofs.Common.{arith, ◌≡◌, ◌≢◌, ◌∙◌, refl, sym, ap, subst, ℕ, Bool, true, false, nat_lt, length}
use Rattle.std.proofs.Common.{Option, Some, None, Ok, Err}
use Rattle.std.proofs.lemmas.Bool.{ltb-true}
use Rattle.std.proofs.lemmas.Bool.Decides.{nat_tests}
use Rattle.std.proofs.Math.Logic.{∥∥₁_map}
use Rattle.std.specs.Prelude.{IfOk, IsErrOf, Result}
use Rattle.hir_store.specs.Pointers.{Pointer}
use Rattle.hir_syntax.specs.declared.types.Type_.{Type_ as AstType_}
use Rattle.hir_store.specs.Stored.{Store, SourceMap, store_of}
use Rattle.hir_store.specs.StoreSink as store_sink
use Rattle.hir_store.specs.StoreSink.{type_id}
use Rattle.hir_store.specs.Range.{HasType}
use Rattle.hir_store.specs.declared.error.StoreError.TheVariants.{Memory, Full}
use Rattle.hir_store.specs.declared.ids.TypeRefId.{TypeRefId}
use Rattle.hir_store.specs.declared.type_ref.TypeRef.{TypeRef}
use Rattle.hir_env.specs.ResolveCtx.{ResolveCtx}
use Rattle.hir_lower_builder.specs.Builder.{Builder, new_builder}
use Rattle.hir_lower_builder.specs.Lower.{type_part}
use Rattle.hir_lower_builder.specs.Lowering.{Checked, Lowers, SomeEnd, alloc_type}
use Rattle.thm_logic.specs.Keeps.{MadeApart, Mapped, Paired}
use Rattle.thm_logic.proofs.Apart.{stored_type_apart}
use Rattle.thm_logic.proofs.Keeping.{apart_by}
use Rattle.thm_logic.proofs.Mapping.{leads_entry}
use Rattle.thm_body_result.specs.Theorems.{Defined, MayBeOwned}
use Rattle.thm_body_result.specs.StoredData.{ReadsAs}
use Rattle.thm_body_result.proofs.AsExpansions.{types_expand}
use Rattle.thm_body_result.proofs.AsStoredData.{whole_types_store}
use Rattle.thm_body_result.specs.Room.{type_part_size}
use Rattle.thm_type_result.specs.TypeResult.{TypeResult}
use Rattle.thm_type_result.proofs.Whole.{refused_types, type_results}
use Rattle.thm_item_result.specs.Exceeding.{Exceeds, FitsIn, InLimits}
use Rattle.thm_item_result.proofs.AsLimits.{fits_first, fresh_within, room_is_there}
use Rattle.thm_item_result.proofs.Limits.{LimitsTo, limited_type}
use Rattle.thm_item_result.proofs.Took.{exceeds_first}
use Rattle.hir_lower.specs.Calls.{Outside}
use Rattle.hir_lower.specs.Data.{data_in_type}
use Rattle.hir_lower.specs.Means.{AddsType, NoRoomForType, RoomForType, expanded_in_type, whole_type}
use Rattle.hir_lower.specs.Roots.{AnswersFromNothing, RefusedAtEnd}
use Rattle.thm_body_result.proofs.Onward.{made}

-- what the step does
abbrev after : Bool → Builder → TypeRef → Pointer → Checked TypeRefId × Builder
after t b ty at =
    let r = made type_id t ty (Some at) b.stored.types in (r.0, record b { stored = record b.stored { types = r.1 } })

alloc_is : (b : Builder) (ty : TypeRef) (at : Pointer)
    → alloc_type ty (Some at) b ≡ after (nat_lt (length b.stored.types.entries) b.stored.types.limit) b ty at
unfolding alloc_type store_sink.alloc_type
alloc_is b ty at = refl

module _ (b b' : Builder) (ty : TypeRef) (at : Pointer) where
  abbrev Alone : Checked TypeRefId → Type 0
  Alone r = Lowers HasType (alloc_type ty (Some at)) b r b'

  added : (t : Bool) (i : TypeRefId) → after t b ty at ≡ (Ok i, b') → AddsType b.stored b'.stored i ty at
  added true i e =
      let ok = ap (λ (q : Checked TypeRefId × Builder). q.0) e in
      let same : type_id (length b.stored.types.entries) ≡ i = cc in
      record { number = sym same; added = sym (ap (λ (q : Checked TypeRefId × Builder). q.1.stored) e) }
  added false i e = let no = ap (λ (q : Checked TypeRefId × Builder). q.0) e in cc

  pub adds_if : (r : Checked TypeRefId) → Alone r → IfOk r (λ i. AddsType b.stored b'.stored i ty at)
  adds_if (Ok i) l = added (nat_lt (length b.stored.types.entries) b.stored.types.limit) i (sym (alloc_is b ty at) ∙ l.0)
  adds_if (Err e) l = tt

  record Refused : Type 0 where
    room : NoRoomForType b.stored
    same : b'.stored ≡ b.stored

  refused : (t : Bool) → nat_lt (length b.stored.types.entries) b.stored.types.limit ≡ t → after t b ty at ≡ (Err Full, b') → Refused
  refused true is e = let no = ap (λ (q : Checked TypeRefId × Builder). q.0) e in cc
  refused false is e = record { room = grind (arith, nat_tests); same = sym (ap (λ (q : Checked TypeRefId × Builder). q.1.stored) e) }

  refused_if : (r : Checked TypeRefId) → Alone r → IsErrOf r Full → Refused
  refused_if (Ok i) l is = cc
  refused_if (Err e) l is =
      let other : e ≢ Memory = λ m. cc in
      let full : e ≡ Full = cc in
      refused (nat_lt (length b.stored.types.entries) b.stored.types.limit) refl
      (sym (alloc_is b ty at) ∙ subst (λ x. alloc_type ty (Some at) b ≡ (Err x, b')) full (l other).0)

  -- there was room for it
  room : (t : Bool) → nat_lt (length b.stored.types.entries) b.stored.types.limit ≡ t → (i : TypeRefId) → after t b ty at ≡ (Ok i, b')
      → RoomForType b.stored
  room true is i e = ltb-true (length b.stored.types.entries) b.stored.types.limit is
  room false is i e = let no = ap (λ (q : Checked TypeRefId × Builder). q.0) e in cc

  pub room_if : (r : Checked TypeRefId) → Alone r → IfOk r (λ i. RoomForType b.stored)
  room_if (Ok i) l = room (nat_lt (length b.stored.types.entries) b.stored.types.limit) refl i (sym (alloc_is b ty at) ∙ l.0)
  room_if (Err e) l = tt

  pub within_type_if : (r : Checked TypeRefId) → Alone r → InLimits b → IfOk r (λ i. InLimits b')
  within_type_if (Ok i) l w =
      subst (λ (q : Checked TypeRefId × Builder). LimitsTo q.0 q.1) l.0 ((limited_type ty (Some at)).limited b w)
  within_type_if (Err e) l w = tt

  pub ends_of_type_if : (r : Checked TypeRefId) → Alone r → IsErrOf r Full → SomeEnd b'
  ends_of_type_if (Ok i) l is = cc
  ends_of_type_if (Err e) l is = let other : e ≢ Memory = λ m. cc in (l other).1

  pub no_room_if : (r : Checked TypeRefId) → Alone r → IsErrOf r Full → NoRoomForType b.stored
  no_room_if r l is = (refused_if r l is).room

  pub unchanged_if : (r : Checked TypeRefId) → Alone r → IsErrOf r Full → b'.stored ≡ b.stored
  unchanged_if r l is = (refused_if r l is).same

  still : (t : Bool) → (after t b ty at).1.scopes ≡ b.scopes
  still true = refl
  still false = refl

  after_is : (after (nat_lt (length b.stored.types.entries) b.stored.types.limit) b ty at).1.scopes ≡ b.scopes
  after_is = still (nat_lt (length b.stored.types.entries) b.stored.types.limit)

  pub scopes_if : (r : Checked TypeRefId) → Alone r → r ≢ Err Memory → b'.scopes ≡ b.scopes
  scopes_if (Ok i) l n = sym (ap (λ (q : Checked TypeRefId × Builder). q.1.scopes) (sym (alloc_is b ty at) ∙ l.0)) ∙ after_is
  scopes_if (Err e) l n =
      let other : e ≢ Memory = λ is. n (ap Err is) in
      sym (ap (λ (q : Checked TypeRefId × Builder). q.1.scopes) (sym (alloc_is b ty at) ∙ (l other).0)) ∙ after_is

  no_name_after : (t : Bool) → (after t b ty at).1.names ≡ b.names
  no_name_after true = refl
  no_name_after false = refl

  no_name : (alloc_type ty (Some at) b).1.names ≡ b.names
  no_name =
      ap (λ (q : Checked TypeRefId × Builder). q.1.names) (alloc_is b ty at)
      ∙ no_name_after (nat_lt (length b.stored.types.entries) b.stored.types.limit)

  pub names_of_type_if : (r : Checked TypeRefId) → Alone r → r ≢ Err Memory → b'.names ≡ b.names
  names_of_type_if (Ok i) l n = sym (ap (λ (q : Checked TypeRefId × Builder). q.1.names) l.0) ∙ no_name
  names_of_type_if (Err e) l n =
      let other : e ≢ Memory = λ is. n (ap Err is) in sym (ap (λ (q : Checked TypeRefId × Builder). q.1.names) (l other).0) ∙ no_name

  no_tracks_after : (t : Bool) → (after t b ty at).1.tracks ≡ b.tracks
  no_tracks_after true = refl
  no_tracks_after false = refl

  no_side_output : (alloc_type ty (Some at) b).1.tracks ≡ b.tracks
  no_side_output =
      ap (λ (q : Checked TypeRefId × Builder). q.1.tracks) (alloc_is b ty at)
      ∙ no_tracks_after (nat_lt (length b.stored.types.entries) b.stored.types.limit)

  pub tracks_of_type_if : (r : Checked TypeRefId) → Alone r → r ≢ Err Memory → b'.tracks ≡ b.tracks
  tracks_of_type_if (Ok i) l n = sym (ap (λ (q : Checked TypeRefId × Builder). q.1.tracks) l.0) ∙ no_side_output
  tracks_of_type_if (Err e) l n =
      let other : e ≢ Memory = λ is. n (ap Err is) in sym (ap (λ (q : Checked TypeRefId × Builder). q.1.tracks) (l other).0)
      ∙ no_side_output

  outside_after : (t : Bool) → Outside b → Outside (after t b ty at).1
  outside_after true o = record { scopes = o.scopes; in_root = o.in_root }
  outside_after false o = record { scopes = o.scopes; in_root = o.in_root }

  pub outside_type_if : (r : Checked TypeRefId) → Alone r → Outside b → IfOk r (λ i. Outside b')
  outside_type_if (Ok i) l o =
      let t = nat_lt (length b.stored.types.entries) b.stored.types.limit in
      subst (λ (q : Checked TypeRefId × Builder). Outside q.1) (sym (alloc_is b ty at) ∙ l.0) (outside_after t o)
  outside_type_if (Err e) l o = tt

  defined_after : (t : Bool) → Defined b.stored → Defined (after t b ty at).1.stored
  defined_after true d = record { as_many = d.as_many; each = d.each; known = d.known }
  defined_after false d = d

  pub defined_type_if : (r : Checked TypeRefId) → Alone r → Defined b.stored → IfOk r (λ i. Defined b'.stored)
  defined_type_if (Ok i) l d =
      let t = nat_lt (length b.stored.types.entries) b.stored.types.limit in
      subst (λ (q : Checked TypeRefId × Builder). Defined q.1.stored) (sym (alloc_is b ty at) ∙ l.0) (defined_after t d)
  defined_type_if (Err e) l d = tt

  mapped_after : (t : Bool) → Mapped b.stored → Mapped (after t b ty at).1.stored
  mapped_after true m = record { types = leads_entry b.stored.types ty m.types type_id (Some at); lifetimes = m.lifetimes }
  mapped_after false m = record { types = m.types; lifetimes = m.lifetimes }

  mapped_type : (i : TypeRefId) → alloc_type ty (Some at) b ≡ (Ok i, b') → Mapped b.stored → Mapped b'.stored
  mapped_type i is m =
      let t = nat_lt (length b.stored.types.entries) b.stored.types.limit in
      subst (λ (q : Checked TypeRefId × Builder). Mapped q.1.stored) (sym (alloc_is b ty at) ∙ is) (mapped_after t m)

  pub mapped_type_if : (r : Checked TypeRefId) → Alone r → ∥ Mapped b.stored ∥₁ → IfOk r (λ i. ∥ Mapped b'.stored ∥₁)
  mapped_type_if (Ok i) l m = ∥∥₁_map m (mapped_type i l.0)
  mapped_type_if (Err e) l m = tt

  owned_after : (t : Bool) → MayBeOwned b.stored → MayBeOwned (after t b ty at).1.stored
  owned_after true m = m
  owned_after false m = m

  pub may_be_owned_type_if : (r : Checked TypeRefId) → Alone r → MayBeOwned b.stored → IfOk r (λ i. MayBeOwned b'.stored)
  may_be_owned_type_if (Ok i) l m =
      let t = nat_lt (length b.stored.types.entries) b.stored.types.limit in
      subst (λ (q : Checked TypeRefId × Builder). MayBeOwned q.1.stored) (sym (alloc_is b ty at) ∙ l.0) (owned_after t m)
  may_be_owned_type_if (Err e) l m = tt

  pub apart_type_if : (r : Checked TypeRefId) → Alone r → Paired b.stored → ∥ MadeApart b.names b.stored ∥₁
      → IfOk r (λ i. ∥ MadeApart b'.names b'.stored ∥₁)
  apart_type_if (Ok i) l d m = ∥∥₁_map m (apart_by (stored_type_apart ty (Some at)) b b' i d l.0)
  apart_type_if (Err e) l d m = tt

-- a type that stands alone, lowered from nothing
module _ (at : ResolveCtx) (x : Option AstType_) (limit : ℕ) where
  type_result : (i : TypeRefId) (store : Store) (source_map : SourceMap)
      → AnswersFromNothing (type_part None (whole_type at x)) limit i store source_map → TypeResult store source_map i (whole_type at x)
  type_result i store source_map s =
      let w = type_results limit (whole_type at x) i s.builder s.done in
      let P : Store → Type 0 = λ y. TypeResult y source_map i (whole_type at x) in
      let Q : SourceMap → Type 0 = λ m. TypeResult (store_of s.builder.stored) m i (whole_type at x) in
      subst P (sym s.store_is) (subst Q (sym s.source_map_is) w)

  pub type_result_if : {A E : Type 0} (store : A → Store) (source_map : A → SourceMap) (id : A → TypeRefId) (r : Result A E)
      → IfOk r (λ a. AnswersFromNothing (type_part None (whole_type at x)) limit (id a) (store a) (source_map a))
      → IfOk r (λ a. TypeResult (store a) (source_map a) (id a) (whole_type at x))
  type_result_if store source_map id (Ok a) h = type_result (id a) (store a) (source_map a) h
  type_result_if store source_map id (Err e) h = tt

  pub type_expanded_if : {A E : Type 0} (store : A → Store) (source_map : A → SourceMap) (id : A → TypeRefId) (r : Result A E)
      → IfOk r (λ a. AnswersFromNothing (type_part None (whole_type at x)) limit (id a) (store a) (source_map a))
      → IfOk r (λ a. (source_map a).expansions ≡ expanded_in_type (whole_type at x))
  type_expanded_if store source_map id (Ok a) h =
      let none : Paired (new_builder limit).stored = record { exprs = refl; labels = refl; pats = refl; types = refl; lifetimes = refl } in
      ap (λ (m : SourceMap). m.expansions) h.source_map_is
      ∙ types_expand None (whole_type at x) (new_builder limit) h.builder (id a) none h.done
  type_expanded_if store source_map id (Err e) h = tt

  type_stored : (i : TypeRefId) (store : Store) (source_map : SourceMap)
      → AnswersFromNothing (type_part None (whole_type at x)) limit i store source_map
      → ReadsAs (data_in_type (whole_type at x)) store source_map
  type_stored i store source_map s =
      let w = whole_types_store limit (whole_type at x) i s.builder s.done in
      let P : Store → Type 0 = λ y. ReadsAs (data_in_type (whole_type at x)) y source_map in
      let Q : SourceMap → Type 0 = λ m. ReadsAs (data_in_type (whole_type at x)) (store_of s.builder.stored) m in
      subst P (sym s.store_is) (subst Q (sym s.source_map_is) w)

  pub type_stored_if : {A E : Type 0} (store : A → Store) (source_map : A → SourceMap) (id : A → TypeRefId) (r : Result A E)
      → IfOk r (λ a. AnswersFromNothing (type_part None (whole_type at x)) limit (id a) (store a) (source_map a))
      → IfOk r (λ a. ReadsAs (data_in_type (whole_type at x)) (store a) (source_map a))
  type_stored_if store source_map id (Ok a) h = type_stored (id a) (store a) (source_map a) h
  type_stored_if store source_map id (Err e) h = tt

  pub type_too_large : RefusedAtEnd (type_part None (whole_type at x)) limit → Exceeds limit (type_part_size (whole_type at x))
  type_too_large r =
      exceeds_first (type_part_size (whole_type at x)) limit (refused_types limit (whole_type at x) Full r.builder r.refused)

  pub type_fits_if : {A E : Type 0} (store : A → Store) (source_map : A → SourceMap) (id : A → TypeRefId) (r : Result A E)
      → IfOk r (λ a. AnswersFromNothing (type_part None (whole_type at x)) limit (id a) (store a) (source_map a))
      → IfOk r (λ a. FitsIn limit (type_part_size (whole_type at x)))
  type_fits_if store source_map id (Ok a) h =
      let none : Paired (new_builder limit).stored = record { exprs = refl; labels = refl; pats = refl; types = refl; lifetimes = refl } in
      fits_first (room_is_there.types (whole_type at x) (new_builder limit) h.builder (id a) none (fresh_within limit) h.done).fits
  type_fits_if store source_map id (Err e) h = tt
