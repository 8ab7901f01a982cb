-- What becomes of parameters, of predicates and of the names of lifetimes where this is noted.
use Rattle.std.specs.Prelude.{◌≡◌, ◌+◌, ℕ, suc, List, [], ◌∷◌, ◌++◌, map, length, slice_get, Some}
use Rattle.hir_store.specs.Stored.{Store, SourceMap, Stored, map_of, store_of}
use Rattle.hir_store.specs.StoreSink.{Extends}
use Rattle.hir_store.specs.declared.generics.TypeOrConstParamData.{TypeOrConstParamData}
use Rattle.hir_store.specs.declared.generics.WherePredicate.{WherePredicate}
use Rattle.hir_store.specs.declared.ids.TypeRefId.{TypeRefId}
use Rattle.hir_store.specs.declared.type_ref.TypeBound.{TypeBound}
use Rattle.hir_lower_scope.specs.NameSets.{with_names}
use Rattle.hir_lower_builder.specs.Builder.{Builder}
use Rattle.hir_lower_builder.specs.Generics.{predicates_of, unnamed_param}
use Rattle.hir_lower_builder.specs.Lowering.{param_type}
use Rattle.thm_logic.specs.Keeps.{Paired}
use Rattle.hir_env.specs.ResolvedTree as tree
use Rattle.hir_env.specs.ResolvedTree.{Bounds}
use Rattle.spec_data.specs.Reading.{bounds_layer, readers}
use Rattle.spec_data.specs.Written.{bounds_data}
use Rattle.spec_semantics.specs.Inner.{Inners, all_inners, bound_bodies, of_bound}
use Rattle.spec_semantics.specs.Same.{SameBodies}
use Rattle.spec_data.specs.Tracking.{Impl, Tracking}

abbrev pub unnamed_params : List Impl → List TypeOrConstParamData
unnamed_params is = map (λ i. unnamed_param) is

-- no more types and patterns can be inside one another
abbrev pub all_entries : Stored → ℕ
all_entries s = length s.types.entries + length s.pats.entries

-- the bodies inside each bound, looked into so deep, do what the written ones do
abbrev pub BoundsHold : Store → SourceMap → Inners → List TypeBound → Bounds → Type 0
BoundsHold store source_map r [] tree.no_bounds = Unit {0}
BoundsHold store source_map r (y ∷ ys) (tree.more_bounds b bs) =
    SameBodies store source_map (of_bound r y) (bound_bodies b) × BoundsHold store source_map r ys bs
BoundsHold store source_map r [] (tree.more_bounds b bs) = ⊥
BoundsHold store source_map r (y ∷ ys) tree.no_bounds = ⊥

-- in each store that goes on these bounds read back as they are written, and so do the bodies inside them run
abbrev pub ReadAs : Stored → List TypeBound → Bounds → Type 0
ReadAs s bs x = (final : Stored) → Extends s final
    → (bounds_layer (store_of final) (map_of final) (readers (store_of final) (map_of final) (all_entries final)) bs ≡ bounds_data x)
    × BoundsHold (store_of final) (map_of final) (all_inners (store_of final)) bs x

-- The predicates of one parameter: one for each of its bounds, in their order, of the type that it is, which is stored from its node; and
-- those of the parameters behind it.
pub record OfParam (rest : List WherePredicate → Type 0) (ps : List WherePredicate) (k : ℕ) (i : Impl) (s : Stored) : Type 0 where
  pub target : TypeRefId
  pub bounds : List TypeBound
  pub others : List WherePredicate
  pub are : ps ≡ predicates_of target bounds ++ others
  pub read : ReadAs s bounds i.bounds
  pub corresponds : slice_get s.types.entries target.0 ≡ Some (param_type i.parent k)
  pub from : slice_get s.types.sources target.0 ≡ Some (Some i.at)
  pub rest_fits : rest others

-- The parameters from this number on have the predicates that their bounds give.
abbrev pub Fits : List WherePredicate → ℕ → List Impl → Stored → Type 0
Fits ps k [] s = ps ≡ []
Fits ps k (i ∷ is) s = OfParam (λ others. Fits others (suc k) is s) ps k i s

-- What is stored goes on, and to what was noted comes this: of the names those that weren't there, each where it is mentioned first. Where
-- the next name stands is as it was.
pub record Tracked (n : Tracking) (b c : Builder) : Type 0 where
  pub paired : Paired b.stored → Paired c.stored
  pub stays : Extends b.stored c.stored
  pub params : c.tracks.generics.type_or_consts ≡ b.tracks.generics.type_or_consts ++ unnamed_params n.impls
  pub lifetimes : c.tracks.generics.lifetimes ≡ b.tracks.generics.lifetimes
  pub added : List WherePredicate
  pub predicates : c.tracks.generics.where_predicates ≡ b.tracks.generics.where_predicates ++ added
  pub fits : Fits added (length b.tracks.generics.type_or_consts) n.impls c.stored
  pub bounds : c.tracks.named.where_clause ≡ with_names b.tracks.named.where_clause n.bounds
  pub input : c.tracks.named.constrained_by_input ≡ with_names b.tracks.named.constrained_by_input n.input
  pub output : c.tracks.named.output ≡ with_names b.tracks.named.output n.output
  pub scope : c.tracks.named.scope ≡ b.tracks.named.scope
