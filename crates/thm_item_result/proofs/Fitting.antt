-- An item that has no room isn't answered.
use Rattle.std.proofs.Common.{◌≡◌, refl, sym, ap, subst, arith, ℕ, ◌+◌, ◌<◌, ◌^◌, nat_lt, length, length-append, Bool, true, false, List}
use Rattle.std.proofs.Common.{[], ◌∷◌, ◌++◌, None, Ok, Err}
use Rattle.std.proofs.lemmas.Bool.{ltb-true}
use Rattle.hir_store.specs.declared.generics.LifetimeParamData.{LifetimeParamData}
use Rattle.hir_store.specs.declared.generics.TypeOrConstParamData.{TypeOrConstParamData}
use Rattle.hir_lower_builder.specs.Builder.{Builder, new_builder}
use Rattle.hir_lower_builder.specs.declared.generics.SideOutput.{SideOutput}
use Rattle.hir_lower_builder.specs.Lowering.{Checked, go_on, Lowering, ◌>>=◌, add_lifetime_param, add_param, count_out, lifetime_counted}
use Rattle.hir_lower_builder.specs.Lowering.{track_down, param_numbered, with_side_output}
use Rattle.spec_data.specs.Tracking.{Tracking}
use Rattle.thm_logic.specs.Keeps.{Paired}
use Rattle.thm_generics.proofs.Logic as tracked
use Rattle.thm_generics.proofs.Steps.{tracks_report, tracks_type}
use Rattle.thm_generics.proofs.Tree.{bound_tracked, constant_tracked, one_type_tracked, whole_tracked}
use Rattle.thm_generics.proofs.TypeForms.{lifetime_tracks}
use Rattle.thm_item_result.specs.Exceeding.{InLimits}
use Rattle.thm_item_result.specs.Fits.{Fitting, FittingItems}
use Rattle.thm_item_result.specs.Items.{OfItems}
use Rattle.thm_item_result.specs.Parts as part
use Rattle.thm_item_result.specs.Parts.{Part}
use Rattle.thm_item_result.specs.Sizes.{lifetime_params, parts_size}
use Rattle.thm_item_result.proofs.AsLimits.{fits_first, fresh_within, limits_graded, room_was}
use Rattle.thm_item_result.proofs.Items.{items_read}
use Rattle.thm_item_result.proofs.Limits.{Limited, LimitsTo, limited_add_param, limited_type}
use Rattle.thm_item_result.proofs.Reading.{Beside, Reading, nothing_paired}
use Rattle.thm_item_result.proofs.Emitted.{GradedParams, EmitsAll, items_emit}
use Rattle.thm_item_result.proofs.Took.{Came, TakesAll, came_of, items_take, lifetime_tracked, lifetimes_in, trait_tracked}

-- parameters that are lifetimes

abbrev CountsTo : {A : Type 0} → Checked A → Builder → Type 0
CountsTo (Ok a) c = Paired c.stored × (lifetimes_in c < 2 ^ 32)
CountsTo (Err e) c = Unit {0}

record CountsAll {A : Type 0} (xs : List Part) (p : Lowering A) : Type 0 where
  counts : (b : Builder) → Paired b.stored → lifetimes_in b < 2 ^ 32 → CountsTo (p b).0 (p b).1

record CountsOne {A : Type 0} (x : Part) (p : Lowering A) : Type 0 where
  counts : (b : Builder) → Paired b.stored → lifetimes_in b < 2 ^ 32 → CountsTo (p b).0 (p b).1

next : {A B : Type 0} {x : Part} {ys : List Part} {p : Lowering A} {f : A → Lowering B} → CountsOne x p → ((a : A) → CountsAll ys (f a))
    → CountsAll (x ∷ ys) (p >>= f)
next {A = A} {p = p} {f = f} h k = record { counts = λ b d l. by (p b).0 (p b).1 (h.counts b d l) }
  where
    by : (o : Checked A) (c : Builder) → CountsTo o c → CountsTo (go_on o c f).0 (go_on o c f).1
    by (Ok a) c x = (k a).counts c x.0 x.1
    by (Err e) c x = tt

-- in front of others
beside : {B : Type 0} {ys : List Part} (f : SideOutput → SideOutput) → Beside f → {k : Unit {0} → Lowering B}
    → ((u : Unit {0}) → CountsAll ys (k u))
    → CountsAll ys (track_down f >>= k)
unfolding track_down
beside f h k = record {
  counts = λ b d l. (k tt).counts (record b { tracks = f b.tracks }) d
      (subst (λ n. n < 2 ^ 32) (sym (ap length (h.lifetimes b.tracks))) l);
}

-- steps that make none
of_tracks : {A : Type 0} {x : Part} {n : Tracking} {p : Lowering A} → tracked.SideOutput n p → CountsOne x p
of_tracks {A = A} {n = n} {p = p} k = record { counts = λ b d l. by b d l (p b).0 (p b).1 (k.at b d) }
  where
    by : (b : Builder) → Paired b.stored → lifetimes_in b < 2 ^ 32 → (o : Checked A) (c : Builder) → tracked.TracksTo n b o c → CountsTo o c
    by b d l (Ok a) c y = (y.1.paired d, subst (λ m. m < 2 ^ 32) (sym (ap length y.1.lifetimes)) l)
    by b d l (Err e) c y = tt

numbered : (x : TypeOrConstParamData) (k : ℕ) (room : Bool) (b : Builder) → Paired b.stored → lifetimes_in b < 2 ^ 32
    → CountsTo (param_numbered x k room b).0 (param_numbered x k room b).1
unfolding track_down count_out
numbered x k true b d l = (d, l)
numbered x k false b d l = tt

one_param : (x : TypeOrConstParamData) → CountsOne part.param_made (add_param x)
unfolding add_param with_side_output
one_param x = record {
  counts = λ b d l. let k = length b.tracks.generics.type_or_consts in numbered x k (nat_lt k 4294967295) b d l;
}

far_enough : {T : Type 0} (xs : List T) (x : T) → nat_lt (length xs) 4294967295 ≡ true → length (xs ++ x ∷ []) < 2 ^ 32
far_enough xs x is = let n = length-append xs (x ∷ []) in let room = ltb-true (length xs) 4294967295 is in omega (arith, n, room)

counted : (x : LifetimeParamData) (b : Builder) → Paired b.stored → (room : Bool) → nat_lt (lifetimes_in b) 4294967295 ≡ room
    → CountsTo (lifetime_counted x room b).0 (lifetime_counted x room b).1
unfolding track_down count_out
counted x b d true is = (d, far_enough b.tracks.generics.lifetimes x is)
counted x b d false is = tt

one_lifetime_param : (x : LifetimeParamData) → CountsOne part.lifetime_param_made (add_lifetime_param x)
unfolding add_lifetime_param with_side_output
one_lifetime_param x = record { counts = λ b d l. counted x b d (nat_lt (lifetimes_in b) 4294967295) refl }

counting : Reading
counting = record {
  Claim = λ xs p. CountsAll xs p;
  One = λ x p. CountsOne x p;
  pure_is = λ a. record { counts = λ b d l. (d, l) };
  one_is = λ h k. next h k;
  tracked_is = λ f h k. beside f h k;
  type_is = λ t. of_tracks (one_type_tracked None t);
  made_is = λ t shape h. of_tracks (tracks_type t None);
  bound_is = λ b. of_tracks (bound_tracked b);
  trait_is = λ at p. of_tracks (tracked.tracks_then (whole_tracked p) (λ r. trait_tracked at r));
  constant_is = λ c. of_tracks (constant_tracked c);
  lifetime_is = λ l. of_tracks (lifetime_tracks l);
  made_lifetime_is = λ l. of_tracks (lifetime_tracked l None);
  fault_is = λ d. of_tracks (tracks_report d);
  param_is = λ x. one_param x;
  lifetime_param_is = λ x. one_lifetime_param x;
}

items_count : OfItems (λ A xs p. CountsAll xs p)
unfolding counting
items_count def = items_read counting def

-- all that is stored and counted

limited_counted : (x : LifetimeParamData) (room : Bool) → Limited (lifetime_counted x room)
unfolding track_down count_out
limited_counted x true = record { limited = λ b h. h }
limited_counted x false = record { limited = λ b h. tt }

limited_lifetime_param : (x : LifetimeParamData) → Limited (add_lifetime_param x)
unfolding add_lifetime_param with_side_output
limited_lifetime_param x = record {
  limited = λ b h. (limited_counted x (nat_lt (length b.tracks.generics.lifetimes) 4294967295)).limited b h;
}

limits_params : GradedParams limits_graded
limits_params = record {
  type_is = λ t x. limited_type t None;
  param_is = λ x. limited_add_param x;
  lifetime_param_is = λ x. limited_lifetime_param x;
}

items_limited : OfItems (λ A xs p. EmitsAll limits_graded xs p)
items_limited = items_emit limits_graded limits_params

-- the theorem

first_params : (m k : ℕ) → k ≡ 0 + m → k < 2 ^ 32 → m < 2 ^ 32
first_params m k e h = omega (arith, e, h)

none_yet : (limit : ℕ) → lifetimes_in (new_builder limit) < 2 ^ 32
none_yet limit = omega (arith)

fitting : {A : Type 0} {xs : List Part} {p : Lowering A} → TakesAll xs p → EmitsAll limits_graded xs p → CountsAll xs p → Fitting xs p
fitting {xs = xs} t l k limit new a is =
    let old = new_builder limit in
    let none = nothing_paired limit in
    let came : Came (parts_size xs) (lifetime_params xs) old new = came_of t old new a none is in
    let within : InLimits new = subst (λ r. LimitsTo r.0 r.1) is (l.claim.limited old (fresh_within limit)) in
    let counted = subst (λ r. CountsTo r.0 r.1) is (k.counts old none (none_yet limit)) in record {
      parts = fits_first (room_was came.took within).fits;
      lifetimes = first_params (lifetime_params xs) (lifetimes_in new) came.lifetimes counted.1;
    }

pub fitting_items : FittingItems
fitting_items def =
    let t = items_take def in
    let l = items_limited def in
    let k = items_count def in (
      λ g. fitting (t.0 g) (l.0 g) (k.0 g),
      λ x. fitting (t.1 x) (l.1 x) (k.1 x),
      λ x. fitting (t.2 x) (l.2 x) (k.2 x),
      λ x. fitting (t.3 x) (l.3 x) (k.3 x),
      λ x. fitting (t.4 x) (l.4 x) (k.4 x),
    )
