-- As much is stored as the parts of an item become, or there is no room for it.
use Rattle.std.proofs.Common.{◌≡◌, refl, ap, subst, arith, inl, inr, ⊎_elim, ◌⊎◌, ℕ, ◌+◌, ◌<◌, ◌≤◌, ◌^◌, nat_lt, length, length-append}
use Rattle.std.proofs.Common.{Bool, true, false, List, [], ◌∷◌, Option, Some, None, is_some, Ok, Err}
use Rattle.std.proofs.lemmas.Bool.{ltb-false}
use Rattle.hir_store.specs.Pointers.{Pointer}
use Rattle.hir_store.specs.StoreSink as store_sink
use Rattle.hir_store.specs.declared.error.StoreError.{StoreError}
use Rattle.hir_store.specs.declared.generics.LifetimeParamData.{LifetimeParamData}
use Rattle.hir_store.specs.declared.generics.TypeOrConstParamData.{TypeOrConstParamData}
use Rattle.hir_store.specs.declared.path.Path.{Path as HirPath}
use Rattle.hir_store.specs.declared.type_ref.LifetimeRef.{LifetimeRef}
use Rattle.hir_env.specs.ResolvedTree as tree
use Rattle.hir_env.specs.ResolvedTree.{Bound, Constant, OptionPath}
use Rattle.hir_lower_builder.specs.Builder.{Builder, new_builder}
use Rattle.hir_lower_builder.specs.Generics.{with_lifetime_param}
use Rattle.hir_lower_builder.specs.declared.generics.SideOutput.{SideOutput}
use Rattle.hir_lower_builder.specs.Lowering.{Checked, go_on, Lowering, ◌>>=◌, add_lifetime_param, add_param, alloc_lifetime, count_out}
use Rattle.hir_lower_builder.specs.Lowering.{lifetime_counted, track_down, param_numbered, with_side_output}
use Rattle.hir_lower_builder.specs.Lower.{lower_bound, lower_constant, lower_path}
use Rattle.hir_lower_item.specs.Lower.{stored_trait}
use Rattle.spec_data.specs.Tracking.{Tracking, none}
use Rattle.spec_semantics.specs.InnerWritten.{constant_body}
use Rattle.thm_logic.specs.Keeps.{Paired}
use Rattle.thm_logic.proofs.TypeSteps.{correct_alloc_lifetime}
use Rattle.thm_generics.proofs.Logic as tracked
use Rattle.thm_generics.proofs.Steps.{tracks_report, tracks_type}
use Rattle.thm_generics.proofs.Tree.{bound_tracked, constant_tracked, one_type_tracked, whole_tracked}
use Rattle.thm_generics.proofs.TypeForms.{lifetime_tracks}
use Rattle.thm_body_result.specs.Theorems.{Grown}
use Rattle.thm_logic.specs.PathSeen.{Seen, whole_read}
use Rattle.thm_body_result.specs.Room.{Short, bound_size, constant_size}
use Rattle.thm_body_result.specs.Size.{Size, a_param, a_type, if_so, nothing, ◌∪◌}
use Rattle.thm_body_result.proofs.ClosureRooms.{takes_owned}
use Rattle.thm_body_result.proofs.TrackRooms.{takes_add_param, takes_track_down}
use Rattle.thm_logic.proofs.PathAnswers.{GivesPath, option_seen}
use Rattle.thm_body_result.proofs.PathRooms.{lifetime_takes, path_bound_takes, uses_take}
use Rattle.thm_body_result.proofs.Rooms.{Takes, takes_end, takes_lifetime, takes_pure, takes_report, takes_type}
use Rattle.thm_body_result.proofs.Emissions.{Emits, anything, takes_of, emits_any, emits_then}
use Rattle.thm_body_result.proofs.Took.{Room, Took, may_be_owned, none_before, short_as, short_first, short_then, took_as, took_none}
use Rattle.thm_body_result.proofs.Took.{took_then}
use Rattle.thm_body_result.proofs.TreeRooms.{part_last, part_takes, path_emits, type_takes}
use Rattle.thm_item_result.specs.Exceeding.{Exceeds}
use Rattle.thm_item_result.specs.Fits.{FitsTo, ItemFits, ItemsFit, Refused, RefusedItems}
use Rattle.thm_item_result.specs.Items.{OfItems}
use Rattle.thm_item_result.specs.Parts as part
use Rattle.thm_item_result.specs.Parts.{Part}
use Rattle.thm_item_result.specs.Sizes.{ItemShort, ItemTooLarge, a_lifetime_param, lifetime_params, part_size, parts_size}
use Rattle.thm_item_result.proofs.Items.{items_read}
use Rattle.thm_item_result.proofs.Reading.{Beside, Reading, nothing_paired}

abbrev pub lifetimes_in : Builder → ℕ
lifetimes_in b = length b.tracks.generics.lifetimes

-- so much came, and so many lifetime parameters
pub record Came (n : Size) (m : ℕ) (b c : Builder) : Type 0 where
  pub took : Took n b c
  pub lifetimes : lifetimes_in c ≡ lifetimes_in b + m

-- or there is no room for it
abbrev pub CameTo : {A : Type 0} → Size → ℕ → Builder → Checked A → Builder → Type 0
CameTo n m b (Ok a) c = Came n m b c
CameTo n m b (Err e) c = Short n b ⊎ (2 ^ 32 ≤ lifetimes_in b + m)

pub record TakesAll {A : Type 0} (xs : List Part) (p : Lowering A) : Type 0 where
  pub takes : (b : Builder) → Paired b.stored → CameTo (parts_size xs) (lifetime_params xs) b (p b).0 (p b).1

record TakesOne {A : Type 0} (x : Part) (p : Lowering A) : Type 0 where
  takes : (b : Builder) → Paired b.stored → CameTo (part_size x) (a_lifetime_param x) b (p b).0 (p b).1

-- counting

none_came : (b c m : ℕ) → m ≡ 0 → c ≡ b → c ≡ b + m
none_came b c m z e = omega (arith, z, e)

both_came : (a b c m j : ℕ) → b ≡ a + m → c ≡ b + j → c ≡ a + (m + j)
both_came a b c m j e f = omega (arith, e, f)

none_first : (b c m : ℕ) → c ≡ b + (0 + m) → c ≡ b + m
none_first b c m e = omega (arith, e)

far_behind : (far a m : ℕ) → far ≤ a + (0 + m) → far ≤ a + m
far_behind far a m h = omega (arith, h)

far_first : (far a m j : ℕ) → far ≤ a + m → far ≤ a + (m + j)
far_first far a m j h = omega (arith, h)

far_then : (far a b m j : ℕ) → b ≡ a + m → far ≤ b + j → far ≤ a + (m + j)
far_then far a b m j e h = omega (arith, e, h)

-- one part, and then others

came_first : (n k : Size) (m j : ℕ) (b : Builder) → Short n b ⊎ (2 ^ 32 ≤ lifetimes_in b + m)
    → Short (n ∪ k) b ⊎ (2 ^ 32 ≤ lifetimes_in b + (m + j))
came_first n k m j b h = ⊎_elim (λ s. inl (short_first n k b s)) (λ l. inr (far_first (2 ^ 32) (lifetimes_in b) m j l)) h

came_then : {B : Type 0} (n k : Size) (m j : ℕ) (b c : Builder) → Came n m b c → (o : Checked B) (d : Builder) → CameTo k j c o d
    → CameTo (n ∪ k) (m + j) b o d
came_then n k m j b c h (Ok e) d x = record {
  took = took_then b c d h.took x.took;
  lifetimes = both_came (lifetimes_in b) (lifetimes_in c) (lifetimes_in d) m j h.lifetimes x.lifetimes;
}
came_then n k m j b c h (Err e) d x = ⊎_elim (λ s. inl (short_then k b c h.took s))
    (λ l. inr (far_then (2 ^ 32) (lifetimes_in b) (lifetimes_in c) m j h.lifetimes l)) x

takes_next : {A B : Type 0} {x : Part} {ys : List Part} {p : Lowering A} {f : A → Lowering B} → TakesOne x p
    → ((a : A) → TakesAll ys (f a)) → TakesAll (x ∷ ys) (p >>= f)
takes_next {A = A} {x = x} {ys = ys} {p = p} {f = f} h k = record { takes = λ b d. by b d (p b).0 (p b).1 (h.takes b d) }
  where
    by : (b : Builder) → Paired b.stored → (o : Checked A) (c : Builder) → CameTo (part_size x) (a_lifetime_param x) b o c
        → CameTo (parts_size (x ∷ ys)) (lifetime_params (x ∷ ys)) b (go_on o c f).0 (go_on o c f).1
    by b d (Ok a) c t = came_then (part_size x) (parts_size ys) (a_lifetime_param x) (lifetime_params ys) b c t (f a c).0 (f a c).1
        ((k a).takes c (t.took.paired d))
    by b d (Err e) c t = came_first (part_size x) (parts_size ys) (a_lifetime_param x) (lifetime_params ys) b t

-- what is noted besides takes nothing, and is no lifetime parameter
beside_came : (f : SideOutput → SideOutput) → Beside f → (b : Builder) → Paired b.stored
    → Came nothing 0 b (record b { tracks = f b.tracks })
unfolding track_down
beside_came f h b d = record {
  took = (takes_track_down f h.params).takes b d;
  lifetimes = none_came (lifetimes_in b) (length (f b.tracks).generics.lifetimes) 0 refl (ap length (h.lifetimes b.tracks));
}

as_before : {B : Type 0} (n : Size) (m : ℕ) (b : Builder) (o : Checked B) (c : Builder) → CameTo (nothing ∪ n) (0 + m) b o c
    → CameTo n m b o c
as_before n m b (Ok a) c t =
    record { took = took_as (none_before n) t.took; lifetimes = none_first (lifetimes_in b) (lifetimes_in c) m t.lifetimes }
as_before n m b (Err e) c t = ⊎_elim (λ s. inl (short_as b (none_before n) s)) (λ l. inr (far_behind (2 ^ 32) (lifetimes_in b) m l)) t

takes_beside : {B : Type 0} {ys : List Part} (f : SideOutput → SideOutput) → Beside f → {k : Unit {0} → Lowering B}
    → ((u : Unit {0}) → TakesAll ys (k u)) → TakesAll ys (track_down f >>= k)
unfolding track_down
takes_beside {ys = ys} f h {k = k} more = record {
  takes = λ b d. let c : Builder = record b { tracks = f b.tracks } in
      as_before (parts_size ys) (lifetime_params ys) b (k tt c).0 (k tt c).1
      (came_then nothing (parts_size ys) 0 (lifetime_params ys) b c (beside_came f h b d) (k tt c).0 (k tt c).1 ((more tt).takes c d));
}

-- steps that make no lifetime parameter
of_takes : {A : Type 0} {x : Part} {n : Tracking} {p : Lowering A} → a_lifetime_param x ≡ 0 → Takes (part_size x) p → tracked.SideOutput n p
    → TakesOne x p
of_takes {A = A} {x = x} {n = n} {p = p} z h k = record { takes = λ b d. by b (p b).0 (p b).1 (h.takes b d) (k.at b d) }
  where
    by : (b : Builder) (o : Checked A) (c : Builder) → Room (part_size x) b o c → tracked.TracksTo n b o c
        → CameTo (part_size x) (a_lifetime_param x) b o c
    by b (Ok a) c t y = record {
      took = t;
      lifetimes = none_came (lifetimes_in b) (lifetimes_in c) (a_lifetime_param x) z (ap length y.1.lifetimes);
    }
    by b (Err e) c t y = inl t

-- the parts

bound_takes : (b : Bound) → Takes (bound_size b) (lower_bound b)
bound_takes tree.error_bound = takes_pure _
bound_takes (tree.path_bound at p maybe binder) = path_bound_takes at maybe binder (path_emits p)
bound_takes (tree.lifetime_bound l) = takes_end (lifetime_takes l) (λ i. takes_pure _)
bound_takes (tree.use_bound us) = takes_end (uses_take [] us) (λ xs. takes_pure _)

constant_takes : (c : Constant) → Takes (constant_size c) (lower_constant c)
constant_takes (tree.constant e) = takes_owned (constant_body e) (part_last e) (part_takes e)

-- what is stored of a trait, by how far its path is read
stored_takes : (at : Pointer) (p : Option HirPath) → Takes (if_so (is_some (option_seen p)) (a_type (Some at))) (stored_trait at p)
stored_takes at None = takes_pure None
stored_takes at (Some p) = takes_end (takes_type _ _) (λ id. takes_pure _)

stored_emits : (at : Pointer) (x : Option Seen) (p : Option HirPath) → GivesPath x p
    → Emits (if_so (is_some x) (a_type (Some at))) anything (stored_trait at p)
stored_emits at x p e = emits_any (subst (λ y. Takes (if_so (is_some y) (a_type (Some at))) (stored_trait at p)) e (stored_takes at p))

pub trait_takes : (at : Pointer) (p : OptionPath) → Takes (part_size (part.trait_read at p)) (lower_path p >>= stored_trait at)
trait_takes at p = takes_of (emits_then (path_emits p) (λ r e. stored_emits at (whole_read p) r e))

pub trait_tracked : (at : Pointer) (p : Option HirPath) → tracked.SideOutput none (stored_trait at p)
trait_tracked at None = tracked.tracks_pure None
trait_tracked at (Some p) = tracked.tracks_begin (tracks_type _ _) (λ id. tracked.tracks_pure _)

pub lifetime_tracked : (l : LifetimeRef) (at : Option Pointer) → tracked.SideOutput none (alloc_lifetime l at)
unfolding alloc_lifetime
lifetime_tracked l at = tracked.tracks_stored (store_sink.alloc_lifetime l at) (correct_alloc_lifetime l at)

-- parameters

numbered_keeps : (x : TypeOrConstParamData) (k : ℕ) (room : Bool) (b : Builder) → Room a_param b (param_numbered x k room b).0
    (param_numbered x k room b).1 → CameTo a_param 0 b (param_numbered x k room b).0 (param_numbered x k room b).1
unfolding track_down count_out
numbered_keeps x k true b t =
    record { took = t; lifetimes = none_came (lifetimes_in b) (lifetimes_in b) 0 refl refl }
numbered_keeps x k false b t = inl t

one_param : (x : TypeOrConstParamData) → TakesOne part.param_made (add_param x)
unfolding add_param with_side_output
one_param x = record {
  takes = λ b d. let k = length b.tracks.generics.type_or_consts in
      numbered_keeps x k (nat_lt k 4294967295) b ((takes_add_param x).takes b d);
}

far_enough : (n : ℕ) → 4294967295 ≤ n → 4294967296 ≤ n + 1
far_enough n h = omega (arith, h)

-- a lifetime parameter is counted apart
counted_came : (x : LifetimeParamData) (b : Builder) → Paired b.stored → (room : Bool) → nat_lt (lifetimes_in b) 4294967295 ≡ room
    → CameTo nothing 1 b (lifetime_counted x room b).0 (lifetime_counted x room b).1
unfolding track_down count_out
counted_came x b d true is = record {
  took = (takes_track_down (with_lifetime_param x) (λ n. refl)).takes b d;
  lifetimes = length-append b.tracks.generics.lifetimes (x ∷ []);
}
counted_came x b d false is = inr (far_enough (lifetimes_in b) (ltb-false (lifetimes_in b) 4294967295 is))

one_lifetime_param : (x : LifetimeParamData) → TakesOne part.lifetime_param_made (add_lifetime_param x)
unfolding add_lifetime_param with_side_output
one_lifetime_param x = record { takes = λ b d. counted_came x b d (nat_lt (lifetimes_in b) 4294967295) refl }

nothing_came : (b : Builder) → Came nothing 0 b b
nothing_came b = record { took = took_none b; lifetimes = none_came (lifetimes_in b) (lifetimes_in b) 0 refl refl }

taking : Reading
taking = record {
  Claim = λ xs p. TakesAll xs p;
  One = λ x p. TakesOne x p;
  pure_is = λ a. record { takes = λ b d. nothing_came b };
  one_is = λ h k. takes_next h k;
  tracked_is = λ f h k. takes_beside f h k;
  type_is = λ t. of_takes refl (type_takes None t) (one_type_tracked None t);
  made_is = λ t shape h. of_takes refl (takes_type t None) (tracks_type t None);
  bound_is = λ b. of_takes refl (bound_takes b) (bound_tracked b);
  trait_is = λ at p. of_takes refl (trait_takes at p) (tracked.tracks_then (whole_tracked p) (λ r. trait_tracked at r));
  constant_is = λ c. of_takes refl (constant_takes c) (constant_tracked c);
  lifetime_is = λ l. of_takes refl (lifetime_takes l) (lifetime_tracks l);
  made_lifetime_is = λ l. of_takes refl (takes_lifetime l None) (lifetime_tracked l None);
  fault_is = λ d. of_takes refl (takes_report d) (tracks_report d);
  param_is = λ x. one_param x;
  lifetime_param_is = λ x. one_lifetime_param x;
}

pub items_take : OfItems (λ A xs p. TakesAll xs p)
unfolding taking
items_take def = items_read taking def

-- where it answered, and where it was refused
pub came_of : {A : Type 0} {xs : List Part} {p : Lowering A} → TakesAll xs p → (b c : Builder) (a : A) → Paired b.stored
    → p b ≡ (Ok a, c) → Came (parts_size xs) (lifetime_params xs) b c
came_of {xs = xs} h b c a d is = subst (λ q. CameTo (parts_size xs) (lifetime_params xs) b q.0 q.1) is (h.takes b d)

pub short_of : {A : Type 0} {xs : List Part} {p : Lowering A} → TakesAll xs p → (b c : Builder) (e : StoreError) → Paired b.stored
    → p b ≡ (Err e, c) → ItemShort xs b
short_of {xs = xs} h b c e d is = subst (λ q. CameTo (parts_size xs) (lifetime_params xs) b q.0 q.1) is (h.takes b d)

pub grown_of : {n : Size} {b c : Builder} → Took n b c → Grown n b.stored c.stored
grown_of h = record {
  exprs = h.exprs.more;
  labels = h.labels.more;
  bindings = h.bindings.more;
  owners = h.owners;
  may_be_owned = may_be_owned h;
  pats = h.pats.more;
  types = h.types.more;
  lifetimes = h.lifetimes.more;
  pat_sources = h.pat_sources;
  pat_map = h.pat_mappings;
  target_map = h.target_mappings;
  type_sources = h.type_sources;
  lifetime_sources = h.lifetime_sources;
  types_map = h.type_mappings;
}

-- theorems

one_of : {A B C D : Type 0} → (A → C) → (B → D) → A ⊎ B → C ⊎ D
one_of f g h = ⊎_elim (λ a. inl (f a)) (λ b. inr (g b)) h

over_none : (limit n : ℕ) → limit < 0 + n → limit < n
over_none limit n h = omega (arith, h)

far_from_none : (far n : ℕ) → far ≤ 0 + n → far ≤ n
far_from_none far n h = omega (arith, h)

-- behind nothing
pub exceeds_first : (n : Size) (limit : ℕ) → Short n (new_builder limit) → Exceeds limit n
exceeds_first n limit h = one_of (over_none limit n.exprs) (one_of (over_none limit n.labels) (one_of (over_none limit (length n.pats))
    (one_of (over_none limit n.bindings) (one_of (over_none limit (length n.types)) (one_of (over_none limit (length n.lifetimes))
    (one_of (λ far. far) (one_of (far_from_none (2 ^ 32) n.names) (far_from_none (2 ^ 32) n.params)))))))) h

too_large : (limit : ℕ) (xs : List Part) → ItemShort xs (new_builder limit) → ItemTooLarge limit xs
too_large limit xs h = one_of (exceeds_first (parts_size xs) limit) (far_from_none (2 ^ 32) (lifetime_params xs)) h

fits_to : {A : Type 0} {xs : List Part} {p : Lowering A} → TakesAll xs p → ItemFits xs p
fits_to {A = A} {xs = xs} {p = p} h b d = by (p b).0 (p b).1 (h.takes b d)
  where
    by : (o : Checked A) (c : Builder) → CameTo (parts_size xs) (lifetime_params xs) b o c → FitsTo xs b o c
    by (Ok a) c t = record {
      grown = grown_of t.took;
      names = t.took.names;
      params = t.took.params;
      lifetimes = t.lifetimes;
    }
    by (Err e) c t = t

pub items_fit : ItemsFit
items_fit def = let t = items_take def in (
  λ g. fits_to (t.0 g),
  λ x. fits_to (t.1 x),
  λ x. fits_to (t.2 x),
  λ x. fits_to (t.3 x),
  λ x. fits_to (t.4 x),
)

refused : {A : Type 0} {xs : List Part} {p : Lowering A} → TakesAll xs p → Refused xs p
refused {xs = xs} h limit new fault is = too_large limit xs (short_of h (new_builder limit) new fault (nothing_paired limit) is)

pub refused_items : RefusedItems
refused_items def = let t = items_take def in (
  λ g. refused (t.0 g),
  λ x. refused (t.1 x),
  λ x. refused (t.2 x),
  λ x. refused (t.3 x),
  λ x. refused (t.4 x),
)
