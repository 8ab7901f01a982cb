-- What the parts of an item ask, and the items.
use Rattle.std.proofs.Common.{◌≡◌, ◌∙◌, refl, sym, ap, subst, ℕ, List, [], ◌∷◌, Option, Some, None, slice_get, Ok}
use Rattle.hir_store.specs.Pointers.{Pointer}
use Rattle.hir_store.specs.Stored.{map_of, store_of}
use Rattle.hir_store.specs.StoreSink as store_sink
use Rattle.hir_store.specs.declared.diagnostics.ExpressionStoreDiagnostics.{ExpressionStoreDiagnostics}
use Rattle.hir_store.specs.declared.diagnostics.MissingBodyItemKind.{MissingBodyItemKind}
use Rattle.hir_store.specs.declared.generics.LifetimeBoundType.TheVariants.{EarlyBound}
use Rattle.hir_store.specs.declared.generics.TypeOrConstParamData.TheVariants as param
use Rattle.hir_store.specs.declared.generics.TypeParamProvenance.{TypeParamProvenance}
use Rattle.hir_store.specs.declared.generics.TypeParamProvenance.TheVariants as provenance
use Rattle.hir_store.specs.declared.generics.WherePredicate.TheVariants as predicate
use Rattle.hir_store.specs.declared.hir.CoroutineKind.{CoroutineKind}
use Rattle.hir_store.specs.declared.hir.Mutability.{Mutability}
use Rattle.hir_store.specs.declared.ids.GenericDefId.{GenericDefId}
use Rattle.hir_store.specs.declared.ids.LifetimeRefId.{LifetimeRefId}
use Rattle.hir_store.specs.declared.ids.TypeRefId.{TypeRefId}
use Rattle.hir_store.specs.declared.name.Name.{Name}
use Rattle.hir_store.specs.declared.path.Path.{Path as HirPath}
use Rattle.hir_store.specs.declared.type_ref.LifetimeRef.{LifetimeRef}
use Rattle.hir_store.specs.declared.type_ref.LifetimeRef.TheVariants as lifetime
use Rattle.hir_store.specs.declared.type_ref.TypeBound.{TypeBound}
use Rattle.hir_store.specs.declared.type_ref.TypeBound.TheVariants as bound
use Rattle.hir_store.specs.declared.type_ref.TypeRef.{TypeRef}
use Rattle.hir_store.proofs.Extending.{extends_refl, extends_trans}
use Rattle.hir_store.specs.StoreSink.{Extends}
use Rattle.hir_store.specs.Stored.{Stored}
use Rattle.hir_env.specs.declared.ctx.LifetimeScope.{LifetimeScope}
use Rattle.hir_env.specs.declared.ctx.LifetimeScope.TheVariants as scope
use Rattle.hir_env.specs.ResolvedTree as tree
use Rattle.hir_env.specs.ResolvedTree.{Binder, Bounds as WrittenBounds, Constant, Lifetime, OptionRet, Type_}
use Rattle.hir_env.specs.TypeLayers.{PathTypeReading}
use Rattle.spec_data.specs.Data as datum
use Rattle.spec_data.specs.Data.{BoundData, LifetimeData}
use Rattle.spec_data.specs.Reading.{bound_layer, entries, readers, stored_lifetime, stored_type}
use Rattle.spec_data.specs.Written.{bound_data, lifetime_data, type_data}
use Rattle.spec_semantics.specs.Inner.{Bodies, bound_bodies, type_bodies, type_inner_bodies}
use Rattle.hir_lower_builder.specs.Builder.{Builder}
use Rattle.hir_lower_builder.specs.Generics.{naming, with_param}
use Rattle.hir_lower_builder.specs.Lowering.{Lowering, ◌>>◌, ◌>>=◌, add_lifetime_param, add_param, add_predicate, alloc_lifetime}
use Rattle.hir_lower_builder.specs.Lowering.{alloc_type, track_down, param_type, report}
use Rattle.hir_lower_builder.specs.Lower.{lower_bound, lower_type, push_some}
use Rattle.hir_lower_builder.specs.Types.{lower_lifetime}
use Rattle.thm_logic.specs.Keeps.{Paired}
use Rattle.thm_logic.proofs.TypeSteps.{correct_alloc_lifetime, correct_alloc_type}
use Rattle.thm_round_trip.proofs.Layers.{a_bound, a_lifetime as the_lifetime, a_type as the_type}
use Rattle.thm_round_trip.proofs.Now.{answered}
use Rattle.thm_round_trip.proofs.Tree.{bound_reads, type_reads}
use Rattle.thm_round_trip.proofs.Types.{lifetime_reads}
use Rattle.thm_semantics.proofs.HeldTree.{part_holds}
use Rattle.spec_data.specs.Tracking.{of_lifetime_option, one_name, one_ref}
use Rattle.spec_data.specs.Fold.{tracked_in_bound, tracked_in_output}
use Rattle.thm_generics.proofs.Held.{bound_holds, held_here}
use Rattle.thm_generics.proofs.Logic as parts
use Rattle.thm_generics.proofs.Steps.{tracks_report, tracks_type}
use Rattle.thm_generics.proofs.TypeForms.{lifetime_tracks, lifetime_option_tracks, tracks_naming, unit_tracks}
use Rattle.thm_generics.proofs.Tree.{bound_tracked, bounds_tracked, constant_tracked, one_type_tracked, present_type_tracked, type_tracked}
use Rattle.thm_generics.proofs.Tree.{whole_tracked}
use Rattle.hir_lower_item.specs.declared.predicates.Bounded.{Bounded}
use Rattle.hir_lower_item.specs.declared.predicates.Bounded.TheVariants as bounded_by
use Rattle.hir_lower_item.specs.Items as item
use Rattle.hir_lower_item.specs.Items.{Alias, Argument, Function, Generics, Impl, Param, Predicate, Receiver, Trait}
use Rattle.hir_lower_item.specs.Lower as steps
use Rattle.thm_item_generics.specs.AskedFold.{Asked, Target, a_lifetime, a_type, asked_by, asked_in_alias, asked_in_argument}
use Rattle.thm_item_generics.specs.AskedFold.{asked_in_arguments}
use Rattle.thm_item_generics.specs.AskedFold.{asked_in_default, asked_in_each, asked_in_function, asked_in_generics, asked_in_impl}
use Rattle.thm_item_generics.specs.AskedFold.{asked_in_param}
use Rattle.thm_item_generics.specs.AskedFold.{asked_in_params, asked_in_predicate, asked_in_predicates, asked_in_receiver, asked_in_trait}
use Rattle.thm_item_generics.specs.AskedFold.{asked_in_trait_path, asked_of_param, asking, nothing, of_part, of_type}
use Rattle.thm_item_generics.specs.AskedFold.{of_lifetime as outlives}
use Rattle.thm_item_generics.specs.AskedFold.{one_param, parameter, written, ◌⊟◌}
use Rattle.thm_item_generics.specs.Tracked.{count}
use Rattle.thm_item_generics.specs.Asked.{BoundHolds, BoundIs, TypeIs}
use Rattle.thm_item_generics.proofs.AskedLogic.{AskTo, Later, Steps, asked_nothing, from_then, param_then, predicate_to, read_as}
use Rattle.thm_item_generics.proofs.AskedLogic.{steps_begin}
use Rattle.thm_item_generics.proofs.AskedLogic.{steps_end, steps_lifetime_param, steps_param, steps_part, steps_pure, steps_quiet}
use Rattle.thm_item_generics.proofs.AskedLogic.{steps_then}
use Rattle.thm_item_generics.proofs.AskedLogic.{ask_at, steps_by, still}

-- steps that ask nothing

type_stored : (t : TypeRef) (at : Option Pointer) → Steps nothing (alloc_type t at)
type_stored t at = steps_quiet (tracks_type t at) refl

reported : (d : ExpressionStoreDiagnostics) → Steps nothing (report d)
reported d = steps_quiet (tracks_report d) refl

lifetime_stored : (l : LifetimeRef) (at : Option Pointer) → Steps nothing (alloc_lifetime l at)
unfolding alloc_lifetime
lifetime_stored l at = steps_quiet (parts.tracks_stored (store_sink.alloc_lifetime l at) (correct_alloc_lifetime l at)) refl

one_name_quiet : (s : LifetimeScope) (n : Name) → (one_name s n).impls ≡ []
one_name_quiet scope.Nowhere n = refl
one_name_quiet scope.Bound n = refl
one_name_quiet scope.Input n = refl
one_name_quiet scope.Projection n = refl
one_name_quiet scope.Output n = refl

one_ref_quiet : (s : LifetimeScope) (l : LifetimeRef) → (one_ref s l).impls ≡ []
one_ref_quiet s (lifetime.Named n) = one_name_quiet s n
one_ref_quiet s lifetime.Static = refl
one_ref_quiet s lifetime.Placeholder = refl
one_ref_quiet s lifetime.Error = refl

lifetime_asks : (l : Lifetime) → Steps nothing (lower_lifetime l)
lifetime_asks l = steps_quiet (lifetime_tracks l) (one_ref_quiet l.scope l.lifetime)

lifetime_option_quiet : (l : Option Lifetime) → (of_lifetime_option l).impls ≡ []
lifetime_option_quiet None = refl
lifetime_option_quiet (Some l) = one_ref_quiet l.scope l.lifetime

-- bounds

-- from here on it is that
abbrev TypeFrom : Stored → TypeRefId → Asked → Type 0
TypeFrom s t x = Later s (λ store source_map. TypeIs store source_map t x)

abbrev LifetimeFrom : Stored → LifetimeRefId → LifetimeData → Type 0
LifetimeFrom s l d = Later s (λ store source_map. stored_lifetime store source_map l ≡ d)

abbrev BoundFrom : Stored → TypeBound → BoundData → Type 0
BoundFrom s b d = Later s (λ store source_map. BoundIs store source_map b d)

abbrev HoldsFrom : Stored → TypeBound → Bodies → Type 0
HoldsFrom s b bs = Later s (λ store source_map. BoundHolds store source_map b bs)

-- what is bound
abbrev Bounds : Stored → Bounded → Target → Type 0
Bounds s (bounded_by.Type_ t) (a_type x) = TypeFrom s t x
Bounds s (bounded_by.Lifetime text l) (a_lifetime d) = LifetimeFrom s l d
Bounds s (bounded_by.Type_ t) (a_lifetime d) = ⊥
Bounds s (bounded_by.Lifetime text l) (a_type x) = ⊥

bounds_stay : {s t : Stored} → Extends s t → (u : Bounded) (x : Target) → Bounds s u x → Bounds t u x
bounds_stay e (bounded_by.Type_ i) (a_type x) h = still (λ s m. TypeIs s m i x) e h
bounds_stay e (bounded_by.Lifetime text l) (a_lifetime d) h = still (λ s m. stored_lifetime s m l ≡ d) e h
bounds_stay e (bounded_by.Type_ i) (a_lifetime d) h = absurd h
bounds_stay e (bounded_by.Lifetime text l) (a_type x) h = absurd h

-- as it is read in this store
abbrev now : Stored → TypeBound → BoundData
now s y =
    let store = store_of s in
    let source_map = map_of s in bound_layer store source_map (readers store source_map (entries store source_map)) y

nothing_to : (b : Builder) → Paired b.stored → AskTo {A = Unit {0}} nothing b (Ok tt) b
nothing_to b d = (d, asked_nothing (extends_refl b.stored) refl refl)

abbrev lifetime_in : BoundData → LifetimeData
lifetime_in datum.error_bound = record { lifetime = lifetime.Error; from = None }
lifetime_in (datum.path_bound t m) = record { lifetime = lifetime.Error; from = None }
lifetime_in (datum.for_bound ns t) = record { lifetime = lifetime.Error; from = None }
lifetime_in (datum.lifetime_bound l) = l
lifetime_in (datum.use_bound us) = record { lifetime = lifetime.Error; from = None }

-- a lifetime, which is named once more
outlived : (text : LifetimeRef) (l m : LifetimeRefId) (x : LifetimeData) (b : Builder) → Paired b.stored → LifetimeFrom b.stored l x
    → BoundFrom b.stored (bound.Lifetime m) (now b.stored (bound.Lifetime m))
    → let p = track_down (naming scope.Bound text) >> add_predicate (predicate.Lifetime l m) in
    AskTo (asking (outlives x (stored_lifetime (store_of b.stored) (map_of b.stored) m) ∷ [])) b (p b).0 (p b).1
outlived text l m x b d g h =
    let a = outlives x (stored_lifetime (store_of b.stored) (map_of b.stored) m) in
    from_then nothing (asking (a ∷ [])) (track_down (naming scope.Bound text)) (λ u. add_predicate (predicate.Lifetime l m)) b
    ((steps_quiet (tracks_naming scope.Bound text) (one_ref_quiet scope.Bound text)).at b d)
    (λ u c e k is. predicate_to (predicate.Lifetime l m) a c e
    (λ final pre. (g final (extends_trans k.stays pre), ap lifetime_in (h final (extends_trans k.stays pre)))))

-- a bound of a type, with the bodies inside it
bound_asked : (binder : Option Binder) (x : Asked) (t : TypeRefId) (y : TypeBound) (bs : Bodies) (b : Builder) → Paired b.stored
    → TypeFrom b.stored t x → BoundFrom b.stored y (now b.stored y) → HoldsFrom b.stored y bs
    → let p = add_predicate (predicate.TypeBound binder t y) in
    AskTo (asking (of_type binder x (now b.stored y) bs ∷ [])) b (p b).0 (p b).1
bound_asked binder x t y bs b d g h k =
    predicate_to (predicate.TypeBound binder t y) (of_type binder x (now b.stored y) bs) b d
    (λ final pre. (refl, g final pre, h final pre, k final pre))

type_asked : (binder : Option Binder) (x : Asked) (t : TypeRefId) (y : TypeBound) (bs : Bodies) (b : Builder) → Paired b.stored
    → TypeFrom b.stored t x → BoundFrom b.stored y (now b.stored y) → HoldsFrom b.stored y bs
    → let p = steps.ask binder (bounded_by.Type_ t) y in
    AskTo (asking (asked_by binder (a_type x) (now b.stored y) bs)) b (p b).0 (p b).1
type_asked binder x t bound.Error bs b d g h k = nothing_to b d
type_asked binder x t (bound.Use us) bs b d g h k = nothing_to b d
type_asked binder x t (bound.Path p m) bs b d g h k = bound_asked binder x t (bound.Path p m) bs b d g h k
type_asked binder x t (bound.ForLifetime ns p) bs b d g h k = bound_asked binder x t (bound.ForLifetime ns p) bs b d g h k
type_asked binder x t (bound.Lifetime l) bs b d g h k = bound_asked binder x t (bound.Lifetime l) bs b d g h k

lifetime_asked : (binder : Option Binder) (x : LifetimeData) (text : LifetimeRef) (l : LifetimeRefId) (y : TypeBound) (bs : Bodies)
    (b : Builder) → Paired b.stored → LifetimeFrom b.stored l x → BoundFrom b.stored y (now b.stored y)
    → let p = steps.ask binder (bounded_by.Lifetime text l) y in
    AskTo (asking (asked_by binder (a_lifetime x) (now b.stored y) bs)) b (p b).0 (p b).1
lifetime_asked binder x text l bound.Error bs b d g h = nothing_to b d
lifetime_asked binder x text l (bound.Use us) bs b d g h = nothing_to b d
lifetime_asked binder x text l (bound.Path p m) bs b d g h = nothing_to b d
lifetime_asked binder x text l (bound.ForLifetime ns p) bs b d g h = nothing_to b d
lifetime_asked binder x text l (bound.Lifetime m) bs b d g h = outlived text l m x b d g h

asked_now : (binder : Option Binder) (x : Target) (t : Bounded) (y : TypeBound) (bs : Bodies) (b : Builder) → Paired b.stored
    → Bounds b.stored t x → BoundFrom b.stored y (now b.stored y) → HoldsFrom b.stored y bs
    → AskTo (asking (asked_by binder x (now b.stored y) bs)) b (steps.ask binder t y b).0 (steps.ask binder t y b).1
asked_now binder (a_type x) (bounded_by.Type_ t) y bs b d g h k = type_asked binder x t y bs b d g h k
asked_now binder (a_lifetime x) (bounded_by.Lifetime text l) y bs b d g h k = lifetime_asked binder x text l y bs b d g h
asked_now binder (a_type x) (bounded_by.Lifetime text l) y bs b d g h k = absurd g
asked_now binder (a_lifetime x) (bounded_by.Type_ t) y bs b d g h k = absurd g

asked_one : (binder : Option Binder) (x : Target) (t : Bounded) (y : TypeBound) (e : BoundData) (bs : Bodies) (b : Builder)
    → Paired b.stored → Bounds b.stored t x → BoundFrom b.stored y e → HoldsFrom b.stored y bs
    → AskTo (asking (asked_by binder x e bs)) b (steps.ask binder t y b).0 (steps.ask binder t y b).1
asked_one binder x t y e bs b d g h k =
    let is = h b.stored (extends_refl b.stored) in
    subst (λ e. AskTo (asking (asked_by binder x e bs)) b (steps.ask binder t y b).0 (steps.ask binder t y b).1) is
    (asked_now binder x t y bs b d g (λ final pre. h final pre ∙ sym is) k)

-- of what is bound, from a builder on in which it is that
each_to : (binder : Option Binder) (x : Target) (t : Bounded) (bs : WrittenBounds) (b : Builder) → Paired b.stored → Bounds b.stored t x
    → AskTo (asked_in_each binder x bs) b (steps.ask_each binder t bs b).0 (steps.ask_each binder t bs b).1
each_to binder x t tree.no_bounds b d h = nothing_to b d
each_to binder x t (tree.more_bounds y ys) b d h =
    let asks = asking (asked_by binder x (bound_data y) (bound_bodies y)) in
    from_then (of_part (tracked_in_bound y)) (asks ⊟ asked_in_each binder x ys) (lower_bound y)
    (λ r. steps.ask binder t r >> steps.ask_each binder t ys) b ((steps_part (bound_tracked y)).at b d)
    (λ r c e g is. let there = bounds_stay g.stays t x h in
    from_then asks (asked_in_each binder x ys) (steps.ask binder t r) (λ u. steps.ask_each binder t ys) c
    (asked_one binder x t r (bound_data y) (bound_bodies y) c e there (read_as {l = a_bound} (bound_reads y) b c r d is)
    (held_here (bound_holds y) b c r d is))
    (λ u o f k as'. each_to binder x t ys o f (bounds_stay k.stays t x there)))

-- parameters

-- from a builder on that has the parameter
typed_to : (def : GenericDefId) (k : ℕ) (bs : WrittenBounds) (b : Builder) → Paired b.stored
    → let p = alloc_type (param_type def k) None >>= (λ id. steps.ask_each None (bounded_by.Type_ id) bs) in
    AskTo (asked_in_each None (a_type (parameter def k None)) bs) b (p b).0 (p b).1
typed_to def k bs b d =
    let x = a_type (parameter def k None) in
    from_then nothing (asked_in_each None x bs) (alloc_type (param_type def k) None) (λ id. steps.ask_each None (bounded_by.Type_ id) bs) b
    ((type_stored (param_type def k) None).at b d)
    (λ id c e g is.
    each_to None x (bounded_by.Type_ id) bs c e (λ final pre.
    let row = answered (correct_alloc_type (param_type def k) None) b c id d is final pre in (
      ap (λ i. slice_get final.types.entries i) row.number ∙ row.here,
      ap (λ i. slice_get final.types.sources i) row.number ∙ row.from,
    )))

type_param_asks : (def : GenericDefId) (n : Name) (default : Option TypeRefId) (from : TypeParamProvenance) (bs : WrittenBounds)
    → Steps (asked_of_param def bs) (steps.type_param_form def n default from bs)
type_param_asks def n default from bs = record {
  at = λ b d.
      let k = count b in
      let x = param.TypeParamData (record { name = Some n; default = default; provenance = from }) in
      let y = asked_in_each None (a_type (parameter def k None)) bs in
      let f : ℕ → Lowering (Unit {0}) = λ k. alloc_type (param_type def k) None >>= (λ id. steps.ask_each None (bounded_by.Type_ id) bs) in
      ask_at (one_param ⊟ y) (asked_of_param def bs) b refl ((add_param x >>= f) b).0 ((add_param x >>= f) b).1
      (param_then y x f b (typed_to def k bs (record b { tracks = with_param x b.tracks }) d));
}

default_asks : (c : Option Constant) → Steps (asked_in_default c) (steps.present_constant c)
default_asks None = steps_pure None
default_asks (Some c) = steps_end (steps_part (constant_tracked c)) (λ i. steps_pure (Some i))

placeholder_asks : (l : Option Lifetime) → Steps nothing (steps.lifetime_or_placeholder l)
placeholder_asks None = lifetime_stored lifetime.Placeholder None
placeholder_asks (Some l) = lifetime_asks l

one_asks : (def : GenericDefId) (x : Param) → Steps (asked_in_param def x) (steps.lower_param def x)
one_asks def (item.disabled_param at by) = reported _
one_asks def (item.type_param n default bs) = steps_then (steps_part (present_type_tracked default))
    (λ i. type_param_asks def n i provenance.TypeParamList bs)
one_asks def (item.const_param n t default) = steps_then (steps_part (type_tracked None t)) (λ i.
    steps_then (default_asks default) (λ d. steps_end (steps_param _) (λ k. steps_pure tt)))
one_asks def (item.lifetime_param n l bs) =
    let x = a_lifetime (lifetime_data l) in
    let add = add_lifetime_param (record { name = n; bound_type = EarlyBound }) in
    steps_by (asked_in_each None x bs) (λ id. add >> steps.ask_each None (bounded_by.Lifetime l.lifetime id) bs) (lifetime_asks l)
    (λ b id c d e is.
    from_then nothing (asked_in_each None x bs) add (λ u. steps.ask_each None (bounded_by.Lifetime l.lifetime id) bs) c
    ((steps_lifetime_param (record { name = n; bound_type = EarlyBound })).at c e)
    (λ u o f k as'. each_to None x (bounded_by.Lifetime l.lifetime id) bs o f
    (λ final pre. read_as {l = the_lifetime} (lifetime_reads l) b c id d is final (extends_trans k.stays pre))))
one_asks def (item.nameless_param l) = steps_end (placeholder_asks l) (λ i. steps_pure tt)

all_ask : (def : GenericDefId) (xs : List Param) → Steps (asked_in_params def xs) (steps.lower_params def xs)
all_ask def [] = steps_pure tt
all_ask def (x ∷ xs) = steps_then (one_asks def x) (λ u. all_ask def xs)

-- a written type, with the bodies inside it
type_from : (t : Type_) (b c : Builder) (i : TypeRefId) → Paired b.stored → lower_type None t b ≡ (Ok i, c)
    → TypeFrom c.stored i (written (type_data None t) (type_bodies t))
unfolding stored_type type_inner_bodies
type_from t b c i d is = λ final pre. (
  read_as {l = the_type} (type_reads None t) b c i d is final pre,
  held_here (part_holds None (tree.some_type t)) b c i d is final pre,
)

predicate_asks : (x : Predicate) → Steps (asked_in_predicate x) (steps.lower_predicate x)
predicate_asks (item.of_type t binder bs) =
    let x = a_type (written (type_data None t) (type_bodies t)) in
    steps_by (asked_in_each binder x bs) (λ id. steps.ask_each binder (bounded_by.Type_ id) bs) (steps_part (one_type_tracked None t))
    (λ b id c d e is. each_to binder x (bounded_by.Type_ id) bs c e (type_from t b c id d is))
predicate_asks (item.of_lifetime l bs) =
    let x = a_lifetime (lifetime_data l) in
    steps_by (asked_in_each None x bs) (λ id. steps.ask_each None (bounded_by.Lifetime l.lifetime id) bs) (lifetime_asks l)
    (λ b id c d e is.
    each_to None x (bounded_by.Lifetime l.lifetime id) bs c e (read_as {l = the_lifetime} (lifetime_reads l) b c id d is))
predicate_asks item.of_nothing = steps_pure tt

predicates_ask : (xs : List Predicate) → Steps (asked_in_predicates xs) (steps.lower_predicates xs)
predicates_ask [] = steps_pure tt
predicates_ask (x ∷ xs) = steps_then (predicate_asks x) (λ u. predicates_ask xs)

pub generics_ask : (def : GenericDefId) (g : Generics) → Steps (asked_in_generics def g) (steps.lower_generics def g)
generics_ask def g = steps_then (all_ask def g.params) (λ u. predicates_ask g.predicates)

-- traits, implementations and aliases

pub trait_asks : (def : GenericDefId) (x : Trait) → Steps (asked_in_trait def x) (steps.lower_trait def x)
trait_asks def x = steps_then (type_param_asks def steps.self_text None provenance.TraitSelf x.bounds) (λ u. generics_ask def x.generics)

trait_stored : (at : Pointer) (p : Option HirPath) → Steps nothing (steps.stored_trait at p)
trait_stored at None = steps_pure None
trait_stored at (Some p) = steps_begin (type_stored _ _) (λ id. steps_pure _)

trait_path_asks : (x : Option PathTypeReading) → Steps (asked_in_trait_path x) (steps.lower_trait_ref x)
trait_path_asks None = steps_pure None
trait_path_asks (Some x) = steps_end (steps_part (whole_tracked x.path)) (λ p. trait_stored x.pointer p)

pub impl_asks : (def : GenericDefId) (x : Impl) → Steps (asked_in_impl def x) (steps.lower_impl def x)
impl_asks def x = steps_then (steps_part (type_tracked None x.self_type)) (λ self.
    steps_then (trait_path_asks x.trait_) (λ t. steps_end (generics_ask def x.generics) (λ u. steps_pure _)))

missing_reported : (f : Option (Pointer × MissingBodyItemKind)) → Steps nothing (steps.report_missing f)
missing_reported None = steps_pure tt
missing_reported (Some f) = reported _

pub alias_asks : (def : GenericDefId) (x : Alias) → Steps (asked_in_alias def x) (steps.lower_alias def x)
alias_asks def x = steps_then (steps_part (bounds_tracked [] x.bounds)) (λ bs.
    steps_then (generics_ask def x.generics) (λ u.
    steps_end (steps_part (present_type_tracked x.type_)) (λ t. steps_begin (missing_reported x.missing) (λ v. steps_pure _))))

-- functions

borrowed_asks : (borrow : Option Mutability) (self : TypeRefId) (l : Option LifetimeRefId) → Steps nothing (steps.borrowed borrow self l)
borrowed_asks None self l = steps_pure self
borrowed_asks (Some m) self l = type_stored _ None

self_asks : (borrow : Option Mutability) (l : Option Lifetime) → Steps nothing (steps.self_form borrow l)
self_asks borrow l = steps_begin (type_stored steps.self_path None) (λ self.
    steps_begin (steps_quiet (lifetime_option_tracks l) (lifetime_option_quiet l)) (borrowed_asks borrow self))

receiver_asks : (x : Receiver) → Steps (asked_in_receiver x) (steps.lower_receiver x)
receiver_asks item.no_receiver = steps_pure None
receiver_asks (item.disabled_receiver at by) = steps_begin (reported _) (λ u. steps_pure None)
receiver_asks (item.typed_receiver t) = steps_end (steps_part (one_type_tracked None t)) (λ i. steps_pure (Some i))
receiver_asks (item.self_receiver borrow l) = steps_begin (self_asks borrow l) (λ i. steps_pure (Some i))

argument_reported : (x : Argument) → Steps nothing (steps.report_inactive x)
argument_reported (item.disabled_argument at by) = reported _
argument_reported item.variadic_argument = steps_pure tt
argument_reported (item.argument t) = steps_pure tt

each_reported : (xs : List Argument) → Steps nothing (steps.report_each xs)
each_reported [] = steps_pure tt
each_reported (x ∷ xs) = steps_begin (argument_reported x) (λ u. each_reported xs)

argument_asks : (x : Argument) → Steps (asked_in_argument x) (steps.argument_type x)
argument_asks (item.disabled_argument at by) = steps_pure None
argument_asks item.variadic_argument = steps_pure None
argument_asks (item.argument t) = steps_end (steps_part (type_tracked None t)) (λ i. steps_pure (Some i))

arguments_ask : (done : List TypeRefId) (xs : List Argument) → Steps (asked_in_arguments xs) (steps.argument_types done xs)
arguments_ask done [] = steps_pure done
arguments_ask done (x ∷ xs) = steps_then (argument_asks x) (λ t. arguments_ask (push_some done t) xs)

input_asks : (r : Receiver) (xs : List Argument) → Steps (asked_in_receiver r ⊟ asked_in_arguments xs) (steps.input_types r xs)
input_asks r xs = steps_then (receiver_asks r) (λ self. steps_begin (each_reported xs) (λ u. arguments_ask (push_some [] self) xs))

ret_asks : (r : OptionRet) → Steps (of_part (tracked_in_output r)) (steps.present_ret r)
ret_asks tree.no_ret = steps_part (parts.tracks_pure None)
ret_asks (tree.some_ret t) = steps_end (steps_part (type_tracked None t)) (λ i. steps_pure (Some i))

unit_asks : (t : Option TypeRefId) → Steps nothing (steps.or_unit t)
unit_asks None = steps_quiet unit_tracks refl
unit_asks (Some t) = steps_pure t

coroutine_asks : (k : CoroutineKind) (t : Option TypeRefId) → Steps nothing (steps.coroutine_form k t)
coroutine_asks k t = steps_begin (unit_asks t) (λ given. steps_begin (type_stored _ None) (λ p. type_stored _ None))

answer_asks : (k : Option CoroutineKind) (t : Option TypeRefId) → Steps nothing (steps.answer_form k t)
answer_asks None t = steps_pure t
answer_asks (Some k) t = steps_begin (coroutine_asks k t) (λ i. steps_pure (Some i))

output_asks : (k : Option CoroutineKind) (r : OptionRet) → Steps (of_part (tracked_in_output r)) (steps.output_type k r)
output_asks k r = steps_end (ret_asks r) (answer_asks k)

pub function_asks : (def : GenericDefId) (x : Function) → Steps (asked_in_function def x) (steps.lower_function def x)
function_asks def x = steps_then (generics_ask def x.generics) (λ u.
    steps_then (input_asks x.receiver x.arguments) (λ args. steps_end (output_asks x.kind x.ret) (λ ret. steps_pure _)))
