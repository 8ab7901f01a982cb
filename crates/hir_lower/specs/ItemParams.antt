-- The generic parameters that an item has, and what it asks of types and lifetimes, as they stand in the store.
use Rattle.std.specs.Prelude.{◌≡◌, List}
use Rattle.hir_store.specs.Params.{early_among}
use Rattle.hir_store.specs.Stored.{Store, SourceMap}
use Rattle.hir_store.specs.declared.generics.GenericParams.{GenericParams}
use Rattle.hir_store.specs.declared.generics.LifetimeParamData.{LifetimeParamData}
use Rattle.hir_store.specs.declared.ids.GenericDefId.{GenericDefId}
use Rattle.hir_lower_item.specs.Items.{Alias, Function, Generics, Impl, Trait}
use Rattle.thm_item_generics.specs.Asked.{Stand}
use Rattle.thm_item_generics.specs.AskedFold.{Asking, asked_in_alias, asked_in_function, asked_in_generics, asked_in_impl, asked_in_trait}
use Rattle.thm_item_generics.specs.Fold.{ItemTracking}
use Rattle.thm_item_generics.specs.Fold.{tracked_in_alias, tracked_in_function, tracked_in_generics, tracked_in_impl, tracked_in_trait}
use Rattle.thm_item_generics.specs.Tracked.{ParamsFrom, all_early, by_kind}

-- Its parameters, by the order of their numbers, are those that are read off the item, its lifetime parameters are these, as many of them
-- early bound as are counted, and its predicates stand for what the item asks.
pub record ParamsAre (store : Store) (source_map : SourceMap) (n : ItemTracking) (lifetimes : List LifetimeParamData) (asks : List Asking)
    (g : GenericParams) : Type 0 where
  pub params : ParamsFrom store source_map 0 g.type_or_consts n.params
  pub lifetimes_are : g.lifetimes ≡ lifetimes
  pub counted : g.early_bound_lifetimes_len ≡ early_among lifetimes
  pub predicates : Stand store source_map g.where_predicates asks

-- of each item; lifetimes are early bound, except for those of a function, which are so by all that names them in it

module _ (store : Store) (source_map : SourceMap) (def : GenericDefId) where
  abbrev pub GenericsHave : Generics → GenericParams → Type 0
  GenericsHave x g = let n = tracked_in_generics def x in ParamsAre store source_map n (all_early n) (asked_in_generics def x 0).asks g

  abbrev pub ImplHas : Impl → GenericParams → Type 0
  ImplHas x g = let n = tracked_in_impl def x in ParamsAre store source_map n (all_early n) (asked_in_impl def x 0).asks g

  abbrev pub TraitHas : Trait → GenericParams → Type 0
  TraitHas x g = let n = tracked_in_trait def x in ParamsAre store source_map n (all_early n) (asked_in_trait def x 0).asks g

  abbrev pub AliasHas : Alias → GenericParams → Type 0
  AliasHas x g = let n = tracked_in_alias def x in ParamsAre store source_map n (all_early n) (asked_in_alias def x 0).asks g

  abbrev pub FunctionHas : Function → GenericParams → Type 0
  FunctionHas x g = let n = tracked_in_function def x in ParamsAre store source_map n (by_kind n) (asked_in_function def x 0).asks g
