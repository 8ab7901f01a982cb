-- What lowering an item notes is what is read off the item.
use Rattle.std.specs.Prelude.{◌≡◌, ℕ, List, Ok}
use Rattle.hir_store.specs.Params.{early_among}
use Rattle.hir_store.specs.Stored.{Stored, map_of, store_of}
use Rattle.hir_store.specs.StoreSink.{Extends}
use Rattle.hir_store.specs.declared.generics.GenericParams.{GenericParams}
use Rattle.hir_store.specs.declared.generics.LifetimeParamData.{LifetimeParamData}
use Rattle.hir_store.specs.declared.ids.GenericDefId.{GenericDefId}
use Rattle.hir_lower_builder.specs.Builder.{Builder, new_builder}
use Rattle.hir_lower_builder.specs.Lowering.{Lowering}
use Rattle.hir_lower_item.specs.declared.function.Signature.{Signature}
use Rattle.hir_lower_item.specs.Items.{Alias, Function, Generics, Impl, Trait}
use Rattle.hir_lower_item.specs.Kinds.{finished, of_kinds}
use Rattle.hir_lower_item.specs.Lower.{lower_alias, lower_function, lower_generics, lower_impl, lower_trait}
use Rattle.thm_logic.specs.Keeps.{Paired}
use Rattle.thm_item_generics.specs.Fold.{ItemTracking, tracked_in_alias, tracked_in_function, tracked_in_generics, tracked_in_impl}
use Rattle.thm_item_generics.specs.Fold.{tracked_in_trait}
use Rattle.thm_item_generics.specs.Tracked.{ItemTracked, ParamsFrom, all_early, by_kind}

-- from any builder on in which each entry has its source

abbrev pub SideOutput : {A : Type 0} → ItemTracking → Lowering A → Type 0
SideOutput {A} n p = (b c : Builder) (a : A) → Paired b.stored → p b ≡ (Ok a, c) → ItemTracked n b c

abbrev pub ItemsTrack : Type 0
ItemsTrack = (def : GenericDefId)
    → ((g : Generics) → SideOutput (tracked_in_generics def g) (lower_generics def g))
    × ((x : Trait) → SideOutput (tracked_in_trait def x) (lower_trait def x))
    × ((x : Impl) → SideOutput (tracked_in_impl def x) (lower_impl def x))
    × ((x : Alias) → SideOutput (tracked_in_alias def x) (lower_alias def x))
    × ((x : Function) → SideOutput (tracked_in_function def x) (lower_function def x))

-- from nothing

-- the parameters that are made of what is noted, in each store that goes on with this one
pub record Made (n : ItemTracking) (lifetimes : List LifetimeParamData) (s : Stored) (g : GenericParams) : Type 0 where
  pub params : (final : Stored) → Extends s final → ParamsFrom (store_of final) (map_of final) 0 g.type_or_consts n.params
  pub lifetimes_are : g.lifetimes ≡ lifetimes
  pub counted : g.early_bound_lifetimes_len ≡ early_among g.lifetimes

abbrev pub MakesEarly : {A : Type 0} → ItemTracking → Lowering A → Type 0
MakesEarly {A} n p = (limit : ℕ) (c : Builder) (a : A) → p (new_builder limit) ≡ (Ok a, c)
    → Made n (all_early n) c.stored (finished c.tracks.generics)

-- Each lifetime parameter is early bound, except for those of a function, which are so by the sets of all that names lifetimes in it.
abbrev pub ItemsMake : Type 0
ItemsMake = (def : GenericDefId)
    → ((g : Generics) → MakesEarly (tracked_in_generics def g) (lower_generics def g))
    × ((x : Trait) → MakesEarly (tracked_in_trait def x) (lower_trait def x))
    × ((x : Impl) → MakesEarly (tracked_in_impl def x) (lower_impl def x))
    × ((x : Alias) → MakesEarly (tracked_in_alias def x) (lower_alias def x))
    × ((x : Function) (limit : ℕ) (c : Builder) (s : Signature) → lower_function def x (new_builder limit) ≡ (Ok s, c)
    → Made (tracked_in_function def x) (by_kind (tracked_in_function def x)) c.stored (finished (of_kinds c.tracks)))
