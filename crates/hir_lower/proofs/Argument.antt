-- The step of the walk of an `impl` in an argument, by whether there is room.
use Rattle.std.proofs.Common.{◌≡◌, ◌∙◌, inl, inr, refl, sym, ap, subst, arith, ℕ, ◌<◌, ◌≤◌, nat_lt, length, Bool, true, false, List}
use Rattle.std.proofs.Common.{if◌then◌else◌, Some, Ok, Err}
use Rattle.std.proofs.lemmas.Option.{same_Some}
use Rattle.hir_store.specs.Arenas.{Sourced, with_entry}
use Rattle.hir_store.specs.Pointers.{Pointer}
use Rattle.hir_store.specs.Stored.{Stored}
use Rattle.hir_store.specs.StoreSink as store_sink
use Rattle.hir_store.specs.StoreSink.{type_id}
use Rattle.hir_store.specs.declared.error.StoreError.TheVariants.{Full}
use Rattle.hir_store.specs.declared.ids.GenericDefId.{GenericDefId}
use Rattle.hir_store.specs.declared.ids.TypeRefId.{TypeRefId}
use Rattle.hir_store.specs.declared.type_ref.TypeBound.{TypeBound}
use Rattle.hir_store.specs.declared.type_ref.TypeRef.{TypeRef}
use Rattle.hir_env.specs.declared.ctx.ImplTrait.TheVariants.{Argument}
use Rattle.hir_lower_builder.specs.Builder.{Builder}
use Rattle.hir_lower_builder.specs.Generics.{unnamed_param, with_bounds, with_param}
use Rattle.hir_lower_builder.specs.Lowering.{Checked, Lowering, go_on, ◌>>=◌, add_param, alloc_type, argument_form, count_out, track_down}
use Rattle.hir_lower_builder.specs.Lowering.{param_numbered, param_type, pure, with_side_output}
use Rattle.hir_lower_builder.specs.declared.generics.GenericLists.{GenericLists}
use Rattle.hir_lower.specs.Argument.{ArgumentsAreOne, Lowered, SameAsWalk, walk_step}
use Rattle.hir_lower.specs.Means.{NoRoomForImpl, lists_behind}

is_less : (n m : ℕ) → nat_lt n m ≡ true → n < m
is_less n m h = grind arith

not_less : (n m : ℕ) → nat_lt n m ≡ false → m ≤ n
not_less n m h = grind arith

less_is : (n m : ℕ) → n < m → nat_lt n m ≡ true
less_is n m h = grind arith

not_less_is : (n m : ℕ) → m ≤ n → nat_lt n m ≡ false
not_less_is n m h = grind arith

module _ (def : GenericDefId) (at : Pointer) (bounds : List TypeBound) (b : Builder) where
  abbrev number : ℕ
  number = length b.tracks.generics.type_or_consts

  abbrev place : ℕ
  place = length b.stored.types.entries

  abbrev stored_type : Stored
  stored_type = record b.stored { types = with_entry type_id b.stored.types (param_type def number) (Some at) }

  abbrev with_one : Builder
  with_one = record b { tracks = with_param unnamed_param b.tracks }

  abbrev behind : Lowering TypeRefId
  behind = walk_step def at bounds

  abbrev after : TypeRefId → Lowering TypeRefId
  after t = track_down (with_bounds t bounds) >>= (λ u. pure t)

  -- the type, where there is room for it
  abbrev with_type : Bool → Checked TypeRefId × Sourced TypeRef TypeRefId
  with_type x = if x then (Ok (type_id place), with_entry type_id b.stored.types (param_type def number) (Some at))
      else (Err Full, b.stored.types)

  abbrev with_types : Checked TypeRefId × Sourced TypeRef TypeRefId → Checked TypeRefId × Stored
  with_types r = (r.0, record b.stored { types = r.1 })

  alloc_is : (x : Bool) → nat_lt place b.stored.types.limit ≡ x
      → store_sink.alloc_type (param_type def number) (Some at) b.stored ≡ with_types (with_type x)
  unfolding store_sink.alloc_type
  alloc_is x e = ap (λ z. with_types (with_type z)) e

  abbrev typed : Checked TypeRefId × Stored → Checked TypeRefId × Builder
  typed r = go_on r.0 (record with_one { stored = r.1 }) after

  numbered_is : nat_lt number 4294967295 ≡ true
      → behind b ≡ typed (store_sink.alloc_type (param_type def number) (Some at) b.stored)
  unfolding argument_form add_param with_side_output track_down alloc_type count_out
  numbered_is e = ap (λ x. let p = param_numbered unnamed_param number x b in
      go_on p.0 p.1 (λ k. alloc_type (param_type def k) (Some at) >>= (λ t. after t))) e

  step_ok : nat_lt number 4294967295 ≡ true → nat_lt place b.stored.types.limit ≡ true
      → behind b ≡ (Ok (type_id place), record b { stored = stored_type; tracks = with_bounds (type_id place) bounds with_one.tracks })
  unfolding track_down
  step_ok e g = numbered_is e ∙ ap typed (alloc_is true g)

  step_full : nat_lt number 4294967295 ≡ true → nat_lt place b.stored.types.limit ≡ false → behind b ≡ (Err Full, with_one)
  step_full e g = numbered_is e ∙ ap typed (alloc_is false g)

  step_counted_out : nat_lt number 4294967295 ≡ false → behind b ≡ (Err Full, record b { counted_out = true })
  unfolding argument_form add_param with_side_output track_down alloc_type count_out
  step_counted_out e = ap (λ x. let p = param_numbered unnamed_param number x b in
      go_on p.0 p.1 (λ k. alloc_type (param_type def k) (Some at) >>= (λ t. after t))) e

  abbrev Given : Checked TypeRefId × Builder → Type 0
  Given (Ok i, c) = Lowered def at bounds b.stored c.stored b.tracks.generics c.tracks.generics i
  Given (Err e, c) = NoRoomForImpl b.stored (Some b.tracks.generics)

  given : Given (behind b)
  given = by (nat_lt number 4294967295) refl (nat_lt place b.stored.types.limit) refl
    where
      by : (x : Bool) → nat_lt number 4294967295 ≡ x → (y : Bool) → nat_lt place b.stored.types.limit ≡ y → Given (behind b)
      by true e true g = subst Given (sym (step_ok e g)) (record {
        adds = record { number = refl; added = refl };
        tracks = refl;
        fits = (is_less place b.stored.types.limit g, is_less number 4294967295 e);
      })
      by true e false g = subst Given (sym (step_full e g)) (inl (not_less place b.stored.types.limit g))
      by false e y g = subst Given (sym (step_counted_out e)) (inr (not_less number 4294967295 e))

  behind_is : (lists : GenericLists) (i : TypeRefId) → i ≡ type_id place
      → Some lists ≡ lists_behind (Argument def) (Some b.tracks.generics) i bounds
      → (with_bounds (type_id place) bounds with_one.tracks).generics ≡ lists
  behind_is lists i e h = sym (same_Some lists _ (h ∙ ap (λ t. lists_behind (Argument def) (Some b.tracks.generics) t bounds) e))

  walked_is : (i : TypeRefId) (new : Stored) (lists : GenericLists) → Lowered def at bounds b.stored new b.tracks.generics lists i
      → behind b ≡ (Ok i, record b { stored = new; tracks = record b.tracks { generics = lists } })
  walked_is i new lists h =
      let types = step_ok (less_is number 4294967295 h.fits.1) (less_is place b.stored.types.limit h.fits.0) in
      let answer = sym h.adds.number in
      let all = sym h.adds.added in
      let tracked = behind_is lists i h.adds.number h.tracks in
      types ∙ (λ j. (Ok (answer j), record b { stored = all j; tracks = record b.tracks { generics = tracked j } }))

  no_room : NoRoomForImpl b.stored (Some b.tracks.generics) → (behind b).0 ≡ Err Full
  no_room (inr h) = ap (λ r. r.0) (step_counted_out (not_less_is number 4294967295 h))
  no_room (inl h) = by (nat_lt number 4294967295) refl
    where
      by : (x : Bool) → nat_lt number 4294967295 ≡ x → (behind b).0 ≡ Err Full
      by true e = ap (λ r. r.0) (step_full e (not_less_is place b.stored.types.limit h))
      by false e = ap (λ r. r.0) (step_counted_out e)

  same : SameAsWalk def at bounds b
  same = record {
    walked = λ i c is. subst Given is given;
    lowered = walked_is;
    refused = λ fault c is. subst Given is given;
    full = no_room;
  }

pub arguments_are_one : ArgumentsAreOne
arguments_are_one def at bounds b = same def at bounds b
