-- The constants of an item are recorded as roots, where no root is being lowered.
use Rattle.std.proofs.Common.{◌≡◌, sym, subst, ℕ, nat_lt, length, Bool, true, false, List, []}
use Rattle.std.proofs.Common.{Option, Some, None, is_some, Ok}
use Rattle.hir_store.specs.Pointers.{Pointer}
use Rattle.hir_store.specs.Stored.{map_of, store_of}
use Rattle.hir_store.specs.declared.generics.LifetimeParamData.{LifetimeParamData}
use Rattle.hir_store.specs.declared.generics.TypeOrConstParamData.{TypeOrConstParamData}
use Rattle.hir_store.specs.declared.path.Path.{Path as HirPath}
use Rattle.hir_store.proofs.Arenas.{prefix_refl}
use Rattle.hir_store.proofs.Extending.{extends_refl}
use Rattle.hir_env.specs.ResolvedTree as tree
use Rattle.hir_env.specs.ResolvedTree.{Bound, Constant, OptionPath, Type_}
use Rattle.spec_semantics.specs.Inner.{Bodies}
use Rattle.hir_lower_builder.specs.Builder.{Builder, new_builder}
use Rattle.hir_lower_builder.specs.Generics.{with_lifetime_param, with_param}
use Rattle.hir_lower_builder.specs.Lowering.{Lowering, ◌>>=◌, add_lifetime_param, add_param, lifetime_counted, track_down}
use Rattle.hir_lower_builder.specs.Lowering.{param_numbered, with_side_output}
use Rattle.hir_lower_builder.specs.declared.generics.SideOutput.{SideOutput as Beside}
use Rattle.hir_lower_builder.specs.Lower.{lower_bound, lower_constant, lower_path, lower_type}
use Rattle.hir_lower_item.specs.Lower.{stored_trait}
use Rattle.thm_logic.specs.Keeps.{KeepsAll, Paired}
use Rattle.thm_logic.proofs.Calls.{only_report}
use Rattle.thm_logic.specs.PathSeen.{whole_read}
use Rattle.thm_body_result.specs.Room.{bound_size, constant_size, type_size}
use Rattle.thm_body_result.specs.Size.{a_type, if_so}
use Rattle.thm_type_result.specs.Roots.{RootsAre, lengths_of, no_lengths}
use Rattle.thm_type_result.proofs.Behind.{roots_behind}
use Rattle.thm_type_result.proofs.Tracking.{Tracked, SideOutput, tracks_constant, tracks_count_out, tracks_end, tracks_lifetime}
use Rattle.thm_type_result.proofs.Tracking.{tracks_tracked}
use Rattle.thm_type_result.proofs.Tracking.{tracks_only, tracks_owning, tracks_pure, tracks_then, tracks_type}
use Rattle.thm_type_result.proofs.TrackingForms.{TracksOf, lifetime_tracks, path_bound_tracks, uses_track}
use Rattle.thm_type_result.proofs.TreeTracks.{path_tracks, type_tracks}
use Rattle.thm_item_result.specs.Parts as part
use Rattle.thm_item_result.specs.Parts.{Part}
use Rattle.thm_item_result.specs.Roots.{FirstItemRoots, FirstRoots, ItemRoots, RootsInside}
use Rattle.thm_item_result.specs.Items.{OfItems}
use Rattle.thm_item_result.specs.Sizes.{part_size, parts_size}
use Rattle.thm_item_result.proofs.Items.{items_read}
use Rattle.thm_item_result.proofs.Reading.{Reading, nothing_paired}

abbrev inner_of : List Part → Bodies
inner_of xs = (parts_size xs).inner

-- one part

bound_tracks : (b : Bound) → TracksOf (bound_size b) (lower_bound b)
bound_tracks tree.error_bound = tracks_pure _
bound_tracks (tree.path_bound at p maybe binder) = path_bound_tracks at maybe binder (is_some (whole_read p)) (path_tracks p)
bound_tracks (tree.lifetime_bound l) = tracks_end (lifetime_tracks l) (λ i. tracks_pure _)
bound_tracks (tree.use_bound us) = tracks_end (uses_track [] us) (λ xs. tracks_pure _)

constant_tracks : (c : Constant) → TracksOf (constant_size c) (lower_constant c)
constant_tracks (tree.constant e) = tracks_owning (λ c. c.expr) (tracks_constant e)

one_type_tracks : (t : Type_) → TracksOf (type_size t) (lower_type None t)
one_type_tracks t = type_tracks None (tree.some_type t)

stored_tracks : (at : Pointer) (p : Option HirPath) → SideOutput [] (stored_trait at p)
stored_tracks at None = tracks_pure None
stored_tracks at (Some p) = tracks_end (tracks_type _ _) (λ id. tracks_pure _)

-- what is a type only where something is so holds no body
none_held : (b : Bool) (at : Pointer) {A : Type 0} {p : Lowering A} → SideOutput [] p → TracksOf (if_so b (a_type (Some at))) p
none_held true at h = h
none_held false at h = h

trait_tracks : (at : Pointer) (p : OptionPath) → SideOutput (part_size (part.trait_read at p)).inner (lower_path p >>= stored_trait at)
trait_tracks at p = tracks_then (path_tracks p) (λ r. none_held (is_some (whole_read p)) at (stored_tracks at r))

-- what is noted records none
tracked : (f : Beside → Beside) → SideOutput [] (track_down f)
unfolding track_down
tracked f = tracks_tracked f (tracks_pure tt)

numbered : (x : TypeOrConstParamData) (k : ℕ) (room : Bool) → SideOutput [] (param_numbered x k room)
numbered x k true = tracks_tracked (with_param x) (tracks_pure k)
numbered x k false = tracks_count_out

param_tracks : (x : TypeOrConstParamData) → SideOutput [] (add_param x)
unfolding add_param with_side_output
param_tracks x = record {
  tracks = λ b d. let k = length b.tracks.generics.type_or_consts in (numbered x k (nat_lt k 4294967295)).tracks b d;
}

counted : (x : LifetimeParamData) (room : Bool) → SideOutput [] (lifetime_counted x room)
counted x true = tracked (with_lifetime_param x)
counted x false = tracks_count_out

lifetime_param_tracks : (x : LifetimeParamData) → SideOutput [] (add_lifetime_param x)
unfolding add_lifetime_param with_side_output
lifetime_param_tracks x = record {
  tracks = λ b d. (counted x (nat_lt (length b.tracks.generics.lifetimes) 4294967295)).tracks b d;
}

-- all parts

pub record Records {A : Type 0} (xs : List Part) (p : Lowering A) : Type 0 where
  pub tracks : SideOutput (inner_of xs) p

record RecordsOne {A : Type 0} (x : Part) (p : Lowering A) : Type 0 where
  tracks : SideOutput (part_size x).inner p

-- in front of others
beside : {B : Type 0} {ys : List Part} (f : Beside → Beside) {k : Unit {0} → Lowering B} → ((u : Unit {0}) → Records ys (k u))
    → Records ys (track_down f >>= k)
unfolding track_down
beside f k = record { tracks = tracks_tracked f (k tt).tracks }

records : Reading
records = record {
  Claim = λ xs p. Records xs p;
  One = λ x p. RecordsOne x p;
  pure_is = λ a. record { tracks = tracks_pure a };
  one_is = λ h k. record { tracks = tracks_then h.tracks (λ a. (k a).tracks) };
  tracked_is = λ f h k. beside f k;
  type_is = λ t. record { tracks = one_type_tracks t };
  made_is = λ t shape h. record { tracks = tracks_type t None };
  bound_is = λ b. record { tracks = bound_tracks b };
  trait_is = λ at p. record { tracks = trait_tracks at p };
  constant_is = λ c. record { tracks = constant_tracks c };
  lifetime_is = λ l. record { tracks = lifetime_tracks l };
  made_lifetime_is = λ l. record { tracks = tracks_lifetime l None };
  fault_is = λ d. record { tracks = tracks_only (only_report d) };
  param_is = λ x. record { tracks = param_tracks x };
  lifetime_param_is = λ x. record { tracks = lifetime_param_tracks x };
}

pub items_record : OfItems (λ A xs p. Records xs p)
unfolding records
items_record def = items_read records def

-- theorems

roots_of : {A : Type 0} {xs : List Part} {p : Lowering A} → Records xs p → RootsInside xs p
roots_of h b b' a paired is later stays = roots_behind b b' a paired is h.tracks later stays

-- what was before is kept
pub kept_of : {A : Type 0} {xs : List Part} {p : Lowering A} → Records xs p → (b c : Builder) (a : A) → Paired b.stored → p b ≡ (Ok a, c)
    → KeepsAll b c
kept_of {xs = xs} h b c a paired is = (subst (λ q. Tracked (inner_of xs) b q.0 q.1) is (h.tracks.tracks b paired)).kept

pub first_of : {A : Type 0} {xs : List Part} {p : Lowering A} → Records xs p → FirstRoots xs p
first_of {xs = xs} h limit new a is =
    let s = store_of new.stored in
    let r = roots_of h (new_builder limit) new a (nothing_paired limit) is new.stored (extends_refl new.stored) in
    subst (λ rs. RootsAre s (map_of new.stored) [] no_lengths (lengths_of s) rs (inner_of xs)) (sym r.is)
    (r.each (prefix_refl new.stored.bindings.entries))

pub item_roots : ItemRoots
item_roots def = let r = items_record def in (
  λ g. roots_of (r.0 g),
  λ x. roots_of (r.1 x),
  λ x. roots_of (r.2 x),
  λ x. roots_of (r.3 x),
  λ x. roots_of (r.4 x),
)

pub first_item_roots : FirstItemRoots
first_item_roots def = let r = items_record def in (
  λ g. first_of (r.0 g),
  λ x. first_of (r.1 x),
  λ x. first_of (r.2 x),
  λ x. first_of (r.3 x),
  λ x. first_of (r.4 x),
)
