-- The theorems, of the steps.
use Rattle.std.proofs.Common.{arith, ◌≡◌, ◌∙◌, ◌≤◌, refl, sym, ap, subst, ℕ, suc, min, length, List, [], ◌∷◌, map, Ok, not, ◌&&◌, ◌||◌}
use Rattle.std.proofs.lemmas.List.{length-map}
use Rattle.hir_store.specs.Params.{early_among, one_early}
use Rattle.hir_store.specs.Stored.{Stored, map_of, store_of}
use Rattle.hir_store.specs.StoreSink.{Extends}
use Rattle.hir_store.specs.declared.generics.LifetimeBoundType.{LifetimeBoundType}
use Rattle.hir_store.specs.declared.generics.LifetimeBoundType.TheVariants as kind
use Rattle.hir_store.specs.declared.generics.LifetimeParamData.{LifetimeParamData}
use Rattle.hir_store.specs.declared.ids.GenericDefId.{GenericDefId}
use Rattle.hir_store.specs.declared.name.Name.{Name}
use Rattle.hir_lower_builder.specs.Builder.{Builder, new_builder}
use Rattle.hir_lower_builder.specs.Lowering.{Lowering}
use Rattle.hir_lower_scope.specs.NameSets.{with_names}
use Rattle.hir_lower_scope.specs.declared.lifetimes.NamedLifetimeStore.{NamedLifetimeStore}
use Rattle.hir_lower_scope.proofs.NameLists.{all_have}
use Rattle.thm_logic.specs.Keeps.{Paired}
use Rattle.spec_data.specs.Kinds.{LifetimeSets, among, bound_kind, kind_by}
use Rattle.hir_lower_item.specs.declared.function.Signature.{Signature}
use Rattle.hir_lower_item.specs.Items.{Function}
use Rattle.hir_lower_item.specs.Kinds.{finished, named_sets, of_kind, of_kinds}
use Rattle.hir_lower_item.specs.Lower.{lower_function}
use Rattle.thm_item_generics.specs.Fold.{ItemTracking, tracked_in_function, sets_of_item}
use Rattle.thm_item_generics.specs.Theorems.{ItemsMake, ItemsTrack, Made, MakesEarly}
use Rattle.thm_item_generics.specs.Tracked.{ItemTracked, ParamsFrom, by_kind, early}
use Rattle.thm_item_generics.proofs.Items.{alias_tracked, function_tracked, generics_tracked, impl_tracked, trait_tracked}
use Rattle.thm_item_generics.proofs.Logic.{Steps, tracked_by}

pub items_track : ItemsTrack
items_track def = (
  λ g b c a d is. tracked_by (generics_tracked def g) b c a d is,
  λ x b c a d is. tracked_by (trait_tracked def x) b c a d is,
  λ x b c a d is. tracked_by (impl_tracked def x) b c a d is,
  λ x b c a d is. tracked_by (alias_tracked def x) b c a d is,
  λ x b c a d is. tracked_by (function_tracked def x) b c a d is,
)

nothing_stored : (limit : ℕ) → Paired (new_builder limit).stored
nothing_stored limit = record { exprs = refl; labels = refl; pats = refl; types = refl; lifetimes = refl }

-- how many are early bound

one_more : (k : LifetimeBoundType) (n m : ℕ) → n ≤ m → one_early k n ≤ suc m
one_more kind.EarlyBound n m h = omega (arith, h)
one_more kind.LateBound n m h = omega (arith, h)

among_all : (ls : List LifetimeParamData) → early_among ls ≤ length ls
among_all [] = omega (arith)
among_all (l ∷ ls) = one_more l.bound_type (early_among ls) (length ls) (among_all ls)

below_end : (n m : ℕ) → n ≤ m → m ≤ 4294967295 → min n 4294967295 ≡ n
below_end n m h le = omega (arith, h, le)

all_counted : (ls : List LifetimeParamData) → length ls ≤ 4294967295 → min (early_among ls) 4294967295 ≡ early_among ls
all_counted ls le = below_end (early_among ls) (length ls) (among_all ls) le

none_fit : 0 ≤ 4294967295
none_fit = omega (arith)

-- all of the parameters, where there were none
params_from_nothing : {n : ItemTracking} (limit : ℕ) (c : Builder) → ItemTracked n (new_builder limit) c → (final : Stored)
    → Extends c.stored final
    → ParamsFrom (store_of final) (map_of final) 0 c.tracks.generics.type_or_consts n.params
params_from_nothing {n = n} limit c g final e =
    subst (λ xs. ParamsFrom (store_of final) (map_of final) 0 xs n.params) (sym g.adds) (g.params final e)

makes_early : {A : Type 0} {n : ItemTracking} {p : Lowering A} → Steps n p → MakesEarly n p
makes_early h limit c a is =
    let g = tracked_by h (new_builder limit) c a (nothing_stored limit) is in
    record {
      params = params_from_nothing limit c g;
      lifetimes_are = g.lifetimes;
      counted = all_counted c.tracks.generics.lifetimes (g.fits none_fit);
    }

-- a lifetime parameter of the kind that these sets give it
abbrev given : LifetimeSets → Name → LifetimeParamData
given s x = record { name = x; bound_type = bound_kind s x }

kinds_are : (s : NamedLifetimeStore) (sets : LifetimeSets) → ((x : Name) → given (named_sets s) x ≡ given sets x) → (ns : List Name)
    → map (of_kind s) (map early ns) ≡ map (given sets) ns
kinds_are s sets h [] = refl
kinds_are s sets h (n ∷ ns) = λ j. h n j ∷ kinds_are s sets h ns j

-- a set that came from nothing has just the names that were mentioned
mentioned : (xs ns : List Name) → xs ≡ with_names [] ns → (x : Name) → among x xs ≡ among x ns
mentioned xs ns e x = ap (λ ys. among x ys) e ∙ all_have [] ns x

same_kind : (n : ItemTracking) (limit : ℕ) (c : Builder) → ItemTracked n (new_builder limit) c → (x : Name)
    → given (named_sets c.tracks.named) x ≡ given (sets_of_item n) x
same_kind n limit c g x =
    let named = c.tracks.named in
    let bound = mentioned named.where_clause n.bounds g.bounds x in
    let input = mentioned named.constrained_by_input n.input g.input x in
    let output = mentioned named.output n.output g.output x in
    λ j. record { name = x; bound_type = kind_by (bound j || (output j && not (input j))) }

function_makes : (def : GenericDefId) (x : Function) (limit : ℕ) (c : Builder) (s : Signature)
    → lower_function def x (new_builder limit) ≡ (Ok s, c)
    → Made (tracked_in_function def x) (by_kind (tracked_in_function def x)) c.stored (finished (of_kinds c.tracks))
function_makes def x limit c s is =
    let n = tracked_in_function def x in
    let g = tracked_by (function_tracked def x) (new_builder limit) c s (nothing_stored limit) is in
    record {
      params = params_from_nothing limit c g;
      lifetimes_are = ap (map (of_kind c.tracks.named)) g.lifetimes
          ∙ kinds_are c.tracks.named (sets_of_item n) (same_kind n limit c g) n.lifetimes;
      counted = all_counted (map (of_kind c.tracks.named) c.tracks.generics.lifetimes)
          (subst (λ k. k ≤ 4294967295) (sym (length-map c.tracks.generics.lifetimes (of_kind c.tracks.named))) (g.fits none_fit));
    }

pub items_make : ItemsMake
items_make def = (
  λ g. makes_early (generics_tracked def g),
  λ x. makes_early (trait_tracked def x),
  λ x. makes_early (impl_tracked def x),
  λ x. makes_early (alias_tracked def x),
  function_makes def,
)
