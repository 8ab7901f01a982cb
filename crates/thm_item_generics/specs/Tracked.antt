-- What becomes of the parameters where an item notes this, and the kinds of its lifetime parameters.
use Rattle.std.specs.Prelude.{◌≡◌, ◌≤◌, ℕ, suc, List, [], ◌∷◌, ◌++◌, length, map, slice_get, Option, Some, None, option_map}
use Rattle.hir_store.specs.Pointers.{Pointer}
use Rattle.hir_store.specs.Stored.{Store, SourceMap, Stored, map_of, store_of}
use Rattle.hir_store.specs.StoreSink.{Extends}
use Rattle.hir_store.specs.declared.generics.LifetimeBoundType.TheVariants.{EarlyBound}
use Rattle.hir_store.specs.declared.generics.LifetimeParamData.{LifetimeParamData}
use Rattle.hir_store.specs.declared.generics.TypeOrConstParamData.{TypeOrConstParamData}
use Rattle.hir_store.specs.declared.generics.TypeOrConstParamData.TheVariants as param
use Rattle.hir_store.specs.declared.generics.TypeParamProvenance.TheVariants.{ArgumentImplTrait}
use Rattle.hir_store.specs.declared.ids.GenericDefId.{GenericDefId}
use Rattle.hir_store.specs.declared.ids.TypeRefId.{TypeRefId}
use Rattle.hir_store.specs.declared.name.Name.{Name}
use Rattle.hir_store.specs.declared.type_ref.TypeRef.{TypeRef}
use Rattle.hir_store.specs.declared.type_ref.TypeRef.TheVariants as type
use Rattle.spec_data.specs.Reading.{stored_constant, stored_option_type, stored_type}
use Rattle.spec_semantics.specs.Inner.{all_inners, of_constant, of_present, type_inner_bodies}
use Rattle.spec_semantics.specs.Same.{SameBodies}
use Rattle.spec_data.specs.Kinds.{bound_kind}
use Rattle.hir_lower_scope.specs.NameSets.{with_names}
use Rattle.hir_lower_builder.specs.Builder.{Builder}
use Rattle.thm_item_generics.specs.Fold.{ItemTracking, Param, const_param, impl_param, sets_of_item, type_param}

-- the type that the parameter of this definition with this number is
abbrev pub parameter_type : GenericDefId → ℕ → TypeRef
parameter_type def k = type.TypeParam (record { parent = def; local_id = record { 0 = k } })

module _ (store : Store) (source_map : SourceMap) where
  -- that type, which is stored from the node, where it came from one
  pub record ItsType (def : GenericDefId) (k : ℕ) (at : Option Pointer) : Type 0 where
    pub id : TypeRefId
    pub corresponds : slice_get store.types id.0 ≡ Some (parameter_type def k)
    pub from : slice_get source_map.type_sources id.0 ≡ Some at

  -- The parameter with this number is this one: the type that it is is stored, of one that is written from no node; its other types read
  -- back, a default that is a constant came from the node of the written one, and the bodies inside them do what the written ones do.
  abbrev pub ParamIs : ℕ → TypeOrConstParamData → Param → Type 0
  ParamIs k (param.TypeParamData x) (type_param def n from t bs) = (x.name ≡ Some n) × (x.provenance ≡ from)
      × (stored_option_type store source_map x.default ≡ t)
      × SameBodies store source_map (of_present (type_inner_bodies store) x.default) bs
      × ItsType def k None
  ParamIs k (param.TypeParamData x) (impl_param def at) = (x.name ≡ None) × (x.provenance ≡ ArgumentImplTrait) × (x.default ≡ None)
      × ItsType def k (Some at)
  ParamIs k (param.TypeParamData x) (const_param n t bs c cs) = ⊥
  ParamIs k (param.ConstParamData x) (const_param n t bs c cs) = (x.name ≡ n) × (stored_type store source_map x.ty ≡ t)
      × SameBodies store source_map (type_inner_bodies store x.ty) bs
      × (option_map (stored_constant store source_map) x.default ≡ c)
      × SameBodies store source_map (of_present (of_constant (all_inners store)) x.default) cs
  ParamIs k (param.ConstParamData x) (type_param def n from t bs) = ⊥
  ParamIs k (param.ConstParamData x) (impl_param def at) = ⊥

  -- one for each, by their numbers, from this one on
  abbrev pub ParamsFrom : ℕ → List TypeOrConstParamData → List Param → Type 0
  ParamsFrom k [] [] = Unit {0}
  ParamsFrom k (x ∷ xs) (y ∷ ys) = ParamIs k x y × ParamsFrom (suc k) xs ys
  ParamsFrom k [] (y ∷ ys) = ⊥
  ParamsFrom k (x ∷ xs) [] = ⊥

abbrev pub early : Name → LifetimeParamData
early n = record { name = n; bound_type = EarlyBound }

-- how many parameters are noted
abbrev pub count : Builder → ℕ
count b = length b.tracks.generics.type_or_consts

-- What is stored goes on, and to the parameters come those that were noted with this, in each later store. There is an end of lifetime
-- parameters. To the names come those that weren't there, each where it is mentioned first.
pub record ItemTracked (n : ItemTracking) (b c : Builder) : Type 0 where
  pub stays : Extends b.stored c.stored
  pub added : List TypeOrConstParamData
  pub adds : c.tracks.generics.type_or_consts ≡ b.tracks.generics.type_or_consts ++ added
  pub params : (final : Stored) → Extends c.stored final → ParamsFrom (store_of final) (map_of final) (count b) added n.params
  pub fits : length b.tracks.generics.lifetimes ≤ 4294967295 → length c.tracks.generics.lifetimes ≤ 4294967295
  pub lifetimes : c.tracks.generics.lifetimes ≡ b.tracks.generics.lifetimes ++ map early n.lifetimes
  pub bounds : c.tracks.named.where_clause ≡ with_names b.tracks.named.where_clause n.bounds
  pub input : c.tracks.named.constrained_by_input ≡ with_names b.tracks.named.constrained_by_input n.input
  pub output : c.tracks.named.output ≡ with_names b.tracks.named.output n.output

-- the lifetime parameters of a function, with their kinds, and those of any other item
abbrev pub by_kind : ItemTracking → List LifetimeParamData
by_kind n = map (λ x. record { name = x; bound_type = bound_kind (sets_of_item n) x }) n.lifetimes

abbrev pub all_early : ItemTracking → List LifetimeParamData
all_early n = map early n.lifetimes
