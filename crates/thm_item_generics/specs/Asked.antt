-- What stands for what is asked.
use Rattle.std.specs.Prelude.{◌≡◌, List, [], ◌∷◌, ◌++◌, slice_get, Some}
use Rattle.hir_store.specs.Stored.{Store, SourceMap, Stored, map_of, store_of}
use Rattle.hir_store.specs.StoreSink.{Extends}
use Rattle.hir_store.specs.declared.generics.WherePredicate.{WherePredicate}
use Rattle.hir_store.specs.declared.generics.WherePredicate.TheVariants as predicate
use Rattle.hir_store.specs.declared.ids.TypeRefId.{TypeRefId}
use Rattle.hir_store.specs.declared.type_ref.TypeBound.{TypeBound}
use Rattle.spec_data.specs.Data.{BoundData}
use Rattle.spec_data.specs.Reading.{bound_layer, entries, readers, stored_lifetime, stored_type}
use Rattle.spec_semantics.specs.Inner.{Bodies, all_inners, of_bound, type_inner_bodies}
use Rattle.spec_semantics.specs.Same.{SameBodies}
use Rattle.hir_lower_builder.specs.Builder.{Builder}
use Rattle.thm_item_generics.specs.Tracked.{count, parameter_type}
use Rattle.thm_item_generics.specs.AskedFold.{Asked, Asking, Asks, of_lifetime, of_type, parameter, written}

module _ (store : Store) (source_map : SourceMap) where
  -- a parameter is one, from that node; what is written is read back, and the bodies inside it do what the written ones do
  abbrev pub TypeIs : TypeRefId → Asked → Type 0
  TypeIs t (parameter def k at) =
      (slice_get store.types t.0 ≡ Some (parameter_type def k)) × (slice_get source_map.type_sources t.0 ≡ Some at)
  TypeIs t (written d bs) = (stored_type store source_map t ≡ d) × SameBodies store source_map (type_inner_bodies store t) bs

  abbrev pub BoundIs : TypeBound → BoundData → Type 0
  BoundIs b d = bound_layer store source_map (readers store source_map (entries store source_map)) b ≡ d

  abbrev pub BoundHolds : TypeBound → Bodies → Type 0
  BoundHolds b bs = SameBodies store source_map (of_bound (all_inners store) b) bs

  abbrev pub CorrespondsTo : WherePredicate → Asking → Type 0
  CorrespondsTo (predicate.TypeBound binder t b) (of_type names x d bs) = (binder ≡ names) × TypeIs t x × BoundIs b d × BoundHolds b bs
  CorrespondsTo (predicate.TypeBound binder t b) (of_lifetime d e) = ⊥
  CorrespondsTo (predicate.Lifetime l m) (of_lifetime d e) =
      (stored_lifetime store source_map l ≡ d) × (stored_lifetime store source_map m ≡ e)
  CorrespondsTo (predicate.Lifetime l m) (of_type names x d bs) = ⊥

  -- one for each, in their order
  abbrev pub Stand : List WherePredicate → List Asking → Type 0
  Stand [] [] = Unit {0}
  Stand (p ∷ ps) (a ∷ as') = CorrespondsTo p a × Stand ps as'
  Stand [] (a ∷ as') = ⊥
  Stand (p ∷ ps) [] = ⊥

-- What is stored goes on, and to the predicates come those that stand for what is asked, in each later store.
pub record IsAsked (x : Asks) (b c : Builder) : Type 0 where
  pub stays : Extends b.stored c.stored
  pub params : count c ≡ (x (count b)).params
  pub added : List WherePredicate
  pub predicates : c.tracks.generics.where_predicates ≡ b.tracks.generics.where_predicates ++ added
  pub stand : (final : Stored) → Extends c.stored final → Stand (store_of final) (map_of final) added (x (count b)).asks
