-- What the parts of an item note, and the items.
use Rattle.std.proofs.Common.{◌≡◌, ◌∙◌, refl, ap, ℕ, nat_lt, slice_get, Bool, true, false, List, [], ◌∷◌, Option, Some, None, Ok, Err}
use Rattle.hir_store.specs.Pointers.{Pointer}
use Rattle.hir_store.specs.Stored.{Stored, map_of, store_of}
use Rattle.hir_store.specs.StoreSink as store_sink
use Rattle.hir_store.specs.StoreSink.{Extends}
use Rattle.hir_store.specs.declared.diagnostics.ExpressionStoreDiagnostics.{ExpressionStoreDiagnostics}
use Rattle.hir_store.specs.declared.diagnostics.MissingBodyItemKind.{MissingBodyItemKind}
use Rattle.hir_store.specs.declared.generics.TypeOrConstParamData.{TypeOrConstParamData}
use Rattle.hir_store.specs.declared.generics.TypeOrConstParamData.TheVariants as param
use Rattle.hir_store.specs.declared.generics.TypeParamProvenance.{TypeParamProvenance}
use Rattle.hir_store.specs.declared.generics.TypeParamProvenance.TheVariants as provenance
use Rattle.hir_store.specs.declared.hir.CoroutineKind.{CoroutineKind}
use Rattle.hir_store.specs.declared.hir.Mutability.{Mutability}
use Rattle.hir_store.specs.declared.ids.GenericDefId.{GenericDefId}
use Rattle.hir_store.specs.declared.ids.LifetimeRefId.{LifetimeRefId}
use Rattle.hir_store.specs.declared.ids.TypeRefId.{TypeRefId}
use Rattle.hir_store.specs.declared.name.Name.{Name}
use Rattle.hir_store.specs.declared.path.Path.{Path as HirPath}
use Rattle.hir_store.specs.declared.type_ref.ConstRef.{ConstRef}
use Rattle.hir_store.specs.declared.type_ref.LifetimeRef.{LifetimeRef}
use Rattle.hir_store.specs.declared.type_ref.LifetimeRef.TheVariants as lifetime
use Rattle.hir_store.specs.declared.type_ref.TypeBound.{TypeBound}
use Rattle.hir_store.specs.declared.type_ref.TypeBound.TheVariants as bound
use Rattle.hir_store.specs.declared.type_ref.TypeRef.{TypeRef}
use Rattle.hir_store.proofs.Extending.{extends_trans}
use Rattle.hir_env.specs.declared.ctx.LifetimeScope.TheVariants as scope
use Rattle.hir_env.specs.ResolvedTree as tree
use Rattle.hir_env.specs.ResolvedTree.{Binder, Bounds, Constant, Lifetime, OptionRet, OptionType}
use Rattle.hir_env.specs.TypeLayers.{PathTypeReading}
use Rattle.hir_lower_builder.specs.Builder.{Builder}
use Rattle.hir_lower_builder.specs.Generics.{with_param}
use Rattle.hir_lower_builder.specs.Lowering.{Checked, Lowering, ◌>>=◌, ◌>>◌, add_param, alloc_lifetime, alloc_type, count_out, track_down}
use Rattle.hir_lower_builder.specs.Lowering.{param_numbered, param_type, pure, report, with_side_output}
use Rattle.hir_lower_builder.specs.Lower.{lower_path, present_type, push_some, type_part}
use Rattle.hir_lower_builder.specs.Types.{path_bound_form, path_bound_of, stored_path_bound}
use Rattle.spec_data.specs.Data.{no_type}
use Rattle.spec_data.specs.Reading.{stored_option_type, stored_type}
use Rattle.spec_semantics.specs.Inner.{part_bodies, type_inner_bodies}
use Rattle.spec_data.specs.Written.{written_type}
use Rattle.thm_logic.specs.Keeps.{Paired}
use Rattle.thm_logic.proofs.TypeSteps.{correct_alloc_lifetime, correct_alloc_type}
use Rattle.thm_round_trip.proofs.Now.{answered, option_type_now, type_now}
use Rattle.thm_semantics.proofs.HeldTree.{part_holds}
use Rattle.thm_semantics.proofs.Holding.{SameIn}
use Rattle.spec_data.specs.Tracking.{of_lifetime_option}
use Rattle.spec_data.specs.Fold.{tracked_in_output}
use Rattle.thm_generics.proofs.Held.{held_here}
use Rattle.thm_generics.proofs.Logic as parts
use Rattle.thm_generics.proofs.Steps.{tracks_report, tracks_type}
use Rattle.thm_generics.proofs.TypeForms.{lifetime_tracks, lifetime_option_tracks, tracks_naming, unit_tracks}
use Rattle.thm_generics.proofs.Tree.{bound_tracked, bounds_tracked, constant_tracked, one_type_tracked, present_type_tracked, type_tracked}
use Rattle.thm_generics.proofs.Tree.{whole_tracked}
use Rattle.hir_lower_item.specs.declared.predicates.Bounded.TheVariants as bounded_by
use Rattle.hir_lower_item.specs.Items as item
use Rattle.hir_lower_item.specs.Items.{Alias, Argument, Function, Generics, Impl, Param, Predicate, Receiver, Trait}
use Rattle.hir_lower_item.specs.Lower as steps
use Rattle.thm_item_generics.specs.Fold as fold
use Rattle.thm_item_generics.specs.Fold.{bounded, constant, tracked_in_alias, tracked_in_argument, tracked_in_arguments}
use Rattle.thm_item_generics.specs.Fold.{tracked_in_bounds_of, tracked_in_each, tracked_in_function, tracked_in_generics, tracked_in_impl}
use Rattle.thm_item_generics.specs.Fold.{tracked_in_param}
use Rattle.thm_item_generics.specs.Fold.{tracked_in_params, tracked_in_predicate, tracked_in_predicates, tracked_in_receiver}
use Rattle.thm_item_generics.specs.Fold.{tracked_in_trait}
use Rattle.thm_item_generics.specs.Fold.{nothing, of_part, one_param, self_param, typed, ◌⊞◌, tracked_in_default, tracked_in_trait_path}
use Rattle.thm_item_generics.specs.Tracked.{ItsType, ParamIs, count}
use Rattle.thm_item_generics.proofs.Held.{default_holds, default_read, present_holds}
use Rattle.thm_item_generics.proofs.Logic.{Gives, Steps, StepsTo, by_at, gives_pure, gives_then, param_at, param_with, steps_begin}
use Rattle.thm_item_generics.proofs.Logic.{steps_by, steps_end, steps_given, steps_lifetime_param, steps_part, steps_predicate, steps_pure}
use Rattle.thm_item_generics.proofs.Logic.{steps_then, then_at}

-- steps that note nothing

type_stored : (t : TypeRef) (at : Option Pointer) → Steps nothing (alloc_type t at)
type_stored t at = steps_part (tracks_type t at)

reported : (d : ExpressionStoreDiagnostics) → Steps nothing (report d)
reported d = steps_part (tracks_report d)

lifetime_stored : (l : LifetimeRef) (at : Option Pointer) → Steps nothing (alloc_lifetime l at)
unfolding alloc_lifetime
lifetime_stored l at = steps_part (parts.tracks_stored (store_sink.alloc_lifetime l at) (correct_alloc_lifetime l at))

-- bounds

-- of a type
asked_of_type : (binder : Option Binder) (t : TypeRefId) (y : TypeBound) → Steps nothing (steps.ask binder (bounded_by.Type_ t) y)
asked_of_type binder t bound.Error = steps_pure tt
asked_of_type binder t (bound.Use us) = steps_pure tt
asked_of_type binder t (bound.Path p m) = steps_predicate _
asked_of_type binder t (bound.ForLifetime ns p) = steps_predicate _
asked_of_type binder t (bound.Lifetime l) = steps_predicate _

each_asked : (binder : Option Binder) (t : TypeRefId) (bs : Bounds)
    → Steps (tracked_in_each bs) (steps.ask_each binder (bounded_by.Type_ t) bs)
each_asked binder t tree.no_bounds = steps_pure tt
each_asked binder t (tree.more_bounds b bs) = steps_then (steps_part (bound_tracked b)) (λ y.
    steps_begin (asked_of_type binder t y) (λ u. each_asked binder t bs))

-- whether it is no lifetime
abbrev Other : TypeBound → Type 0
Other bound.Error = Unit {0}
Other (bound.Use us) = Unit {0}
Other (bound.Path p m) = Unit {0}
Other (bound.ForLifetime ns p) = Unit {0}
Other (bound.Lifetime l) = ⊥

asked_other : (binder : Option Binder) (text : LifetimeRef) (l : LifetimeRefId) (y : TypeBound) → Other y
    → Steps nothing (steps.ask binder (bounded_by.Lifetime text l) y)
asked_other binder text l bound.Error h = steps_pure tt
asked_other binder text l (bound.Use us) h = steps_pure tt
asked_other binder text l (bound.Path p m) h = steps_pure tt
asked_other binder text l (bound.ForLifetime ns p) h = steps_pure tt
asked_other binder text l (bound.Lifetime m) h = absurd h

other_path : (maybe : Bool) (binder : Binder) (id : TypeRefId) → Other (stored_path_bound maybe binder id)
other_path maybe [] id = tt
other_path maybe (n ∷ ns) id = tt

gives_other : (at : Pointer) (maybe : Bool) (binder : Binder) (r : Option HirPath) → Gives Other (path_bound_of at maybe binder r)
gives_other at maybe binder None = gives_pure _ tt
gives_other at maybe binder (Some p) = gives_then (alloc_type _ _) (λ id. gives_pure _ (other_path maybe binder id))

gives_path : (at : Pointer) (maybe : Bool) (binder : Binder) (p : Lowering (Option HirPath))
    → Gives Other (path_bound_form at maybe binder p)
unfolding path_bound_form
gives_path at maybe binder p = gives_then p (gives_other at maybe binder)

-- what a lifetime bound is
abbrev IsLifetime : TypeBound → Type 0
IsLifetime bound.Error = ⊥
IsLifetime (bound.Use us) = ⊥
IsLifetime (bound.Path p m) = ⊥
IsLifetime (bound.ForLifetime ns p) = ⊥
IsLifetime (bound.Lifetime l) = Unit {0}

asked_lifetime : (binder : Option Binder) (text : LifetimeRef) (l : LifetimeRefId) (m : Lifetime) (y : TypeBound) → IsLifetime y
    → Steps (bounded text (tree.lifetime_bound m)) (steps.ask binder (bounded_by.Lifetime text l) y)
asked_lifetime binder text l m bound.Error h = absurd h
asked_lifetime binder text l m (bound.Use us) h = absurd h
asked_lifetime binder text l m (bound.Path p q) h = absurd h
asked_lifetime binder text l m (bound.ForLifetime ns p) h = absurd h
asked_lifetime binder text l m (bound.Lifetime k) h = steps_end (steps_part (tracks_naming scope.Bound text)) (λ u. steps_predicate _)

-- of a lifetime
bounds_asked : (binder : Option Binder) (text : LifetimeRef) (l : LifetimeRefId) (bs : Bounds)
    → Steps (tracked_in_bounds_of text bs) (steps.ask_each binder (bounded_by.Lifetime text l) bs)
bounds_asked binder text l tree.no_bounds = steps_pure tt
bounds_asked binder text l (tree.more_bounds tree.error_bound bs) =
    steps_given {P = Other} (steps_part (bound_tracked tree.error_bound)) (gives_pure _ tt) (λ y h.
    steps_then (asked_other binder text l y h) (λ u. bounds_asked binder text l bs))
bounds_asked binder text l (tree.more_bounds (tree.path_bound at p maybe ns) bs) =
    steps_given {P = Other} (steps_part (bound_tracked (tree.path_bound at p maybe ns))) (gives_path at maybe ns (lower_path p)) (λ y h.
    steps_then (asked_other binder text l y h) (λ u. bounds_asked binder text l bs))
bounds_asked binder text l (tree.more_bounds (tree.lifetime_bound m) bs) =
    steps_given {P = IsLifetime} (steps_part (bound_tracked (tree.lifetime_bound m))) (gives_then _ (λ i. gives_pure _ tt)) (λ y h.
    steps_then (asked_lifetime binder text l m y h) (λ u. bounds_asked binder text l bs))
bounds_asked binder text l (tree.more_bounds (tree.use_bound us) bs) =
    steps_given {P = Other} (steps_part (bound_tracked (tree.use_bound us))) (gives_then _ (λ i. gives_pure _ tt)) (λ y h.
    steps_then (asked_other binder text l y h) (λ u. bounds_asked binder text l bs))

-- parameters

-- a constant parameter
abbrev const_of : Name → TypeRefId → Option ConstRef → TypeOrConstParamData
const_of n t d = param.ConstParamData (record { name = n; ty = t; default = d })

-- behind it the type that a parameter is, and its bounds
abbrev behind_param : GenericDefId → Bounds → ℕ → Lowering (Unit {0})
behind_param def bs k = alloc_type (param_type def k) None >>= (λ id. steps.ask_each None (bounded_by.Type_ id) bs)

abbrev type_of : Name → Option TypeRefId → TypeParamProvenance → TypeOrConstParamData
type_of n default from = param.TypeParamData (record { name = Some n; default = default; provenance = from })

-- one that is this from here on where the type that it is is stored, whatever its number
abbrev IsWithType : Builder → GenericDefId → TypeOrConstParamData → fold.Param → Type 0
IsWithType b def x y = (final : Stored) → Extends b.stored final → (k : ℕ) → ItsType (store_of final) (map_of final) def k None
    → ParamIs (store_of final) (map_of final) k x y

abbrev with_one : TypeOrConstParamData → Builder → Builder
with_one x b = record b { tracks = with_param x b.tracks }

-- the type that it is
its_type_at : (def : GenericDefId) (x : TypeOrConstParamData) (y : fold.Param) (b : Builder) → Paired b.stored → IsWithType b def x y
    → (o : Checked TypeRefId) (c : Builder) → alloc_type (param_type def (count b)) None (with_one x b) ≡ (o, c)
    → StepsTo nothing (with_one x b) o c → StepsTo (one_param y) b o c
its_type_at def x y b d h (Ok id) c is g = (
  g.0,
  param_with x y b c g.1 (λ final e. h final (extends_trans g.1.stays e) (count b)
      (let row = answered (correct_alloc_type (param_type def (count b)) None) (with_one x b) c id d is final e in record {
        id = id;
        corresponds = ap (λ i. slice_get final.types.entries i) row.number ∙ row.here;
        from = ap (λ i. slice_get final.types.sources i) row.number ∙ row.from;
      })),
)
its_type_at def x y b d h (Err f) c is g = tt

type_param_at : (def : GenericDefId) (n : Name) (default : Option TypeRefId) (from : TypeParamProvenance) (bs : Bounds) (y : fold.Param)
    (b : Builder) → Paired b.stored → IsWithType b def (type_of n default from) y
    → let p = steps.type_param_form def n default from bs in StepsTo (one_param y ⊞ tracked_in_each bs) b (p b).0 (p b).1
unfolding add_param with_side_output track_down count_out
type_param_at def n default from bs y b d h = by (nat_lt (count b) 4294967295)
  where
    its : Lowering TypeRefId
    its c = alloc_type (param_type def (count b)) None (with_one (type_of n default from) b)

    by : (room : Bool) → let p = param_numbered (type_of n default from) (count b) room >>= behind_param def bs in
        StepsTo (one_param y ⊞ tracked_in_each bs) b (p b).0 (p b).1
    by true = then_at (one_param y) (tracked_in_each bs) its (λ id. steps.ask_each None (bounded_by.Type_ id) bs) b
        (its_type_at def (type_of n default from) y b d h (its b).0 (its b).1 refl
        ((type_stored (param_type def (count b)) None).at (with_one (type_of n default from) b) d))
        (λ id. each_asked None id bs)
    by false = tt

absent_read : (final : Stored) → stored_option_type (store_of final) (map_of final) None ≡ no_type
unfolding stored_option_type
absent_read final = refl

self_tracked : (def : GenericDefId) (bs : Bounds) → Steps (one_param (self_param def) ⊞ tracked_in_each bs) (steps.self_param def bs)
self_tracked def bs = record {
  at = λ b d. type_param_at def steps.self_text None provenance.TraitSelf bs (self_param def) b d
      (λ final e k its. (refl, refl, absent_read final, tt, its));
}

default_tracked : (c : Option Constant) → Steps (tracked_in_default c) (steps.present_constant c)
default_tracked None = steps_pure None
default_tracked (Some c) = steps_end (steps_part (constant_tracked c)) (λ i. steps_pure (Some i))

placeholder_tracked : (l : Option Lifetime) → Steps (of_part (of_lifetime_option l)) (steps.lifetime_or_placeholder l)
placeholder_tracked None = lifetime_stored lifetime.Placeholder None
placeholder_tracked (Some l) = steps_part (lifetime_tracks l)

-- behind a default
abbrev behind_default : Name → TypeRefId → Option ConstRef → Lowering (Unit {0})
behind_default n i d = add_param (const_of n i d) >> pure tt

-- a type that was lowered, with the bodies inside it
abbrev TypeIs : OptionType → TypeRefId → Stored → Type 0
TypeIs t i final = (stored_type (store_of final) (map_of final) i ≡ written_type t)
    × SameIn final (type_inner_bodies (store_of final) i) (part_bodies t)

-- behind its type, which is that from here on
const_at : (n : Name) (t : OptionType) (default : Option Constant) (i : TypeRefId) (b : Builder) → Paired b.stored
    → ((final : Stored) → Extends b.stored final → TypeIs t i final) → let p = steps.present_constant default >>= behind_default n i in
    StepsTo (tracked_in_default default ⊞ one_param (constant n t default)) b (p b).0 (p b).1
const_at n t default i b d h =
    let y = constant n t default in
    by_at (tracked_in_default default) (one_param y) (steps.present_constant default) (behind_default n i) b
    ((default_tracked default).at b d)
    (λ x c is e paired. then_at (one_param y) nothing (add_param (const_of n i x)) (λ k. pure tt) c
    (param_at (const_of n i x) y c paired (λ final z k. let type = h final (extends_trans e z) in (
      refl,
      type.0,
      type.1,
      default_read default b c x d is final z,
      held_here (default_holds default) b c x d is final z,
    )))
    (λ k. steps_pure tt))

-- what is answered for a type that may stay absent
typed_from : (def : GenericDefId) (n : Name) (default : OptionType) (b c : Builder) (i : Option TypeRefId) → Paired b.stored
    → present_type default b ≡ (Ok i, c) → IsWithType c def (type_of n i provenance.TypeParamList) (typed def n default)
unfolding type_inner_bodies
typed_from def n default b c i d is = λ final x k its. (
  refl,
  refl,
  (answered (option_type_now default) b c i d is final x).is,
  held_here (present_holds default) b c i d is final x,
  its,
)

type_from : (t : OptionType) (b c : Builder) (i : TypeRefId) → Paired b.stored → type_part None t b ≡ (Ok i, c) → (final : Stored)
    → Extends c.stored final → TypeIs t i final
unfolding type_inner_bodies
type_from t b c i d is final x = ((answered (type_now t) b c i d is final x).is, held_here (part_holds None t) b c i d is final x)

one_tracked : (def : GenericDefId) (x : Param) → Steps (tracked_in_param def x) (steps.lower_param def x)
one_tracked def (item.disabled_param at by) = reported _
one_tracked def (item.type_param n default bs) =
    let y = typed def n default in
    steps_by (one_param y ⊞ tracked_in_each bs) (λ i. steps.type_param_form def n i provenance.TypeParamList bs)
    (steps_part (present_type_tracked default)) (λ b i c d is e paired.
    type_param_at def n i provenance.TypeParamList bs y c paired (typed_from def n default b c i d is))
one_tracked def (item.const_param n t default) =
    steps_by (tracked_in_default default ⊞ one_param (constant n t default)) (λ i. steps.present_constant default >>= behind_default n i)
    (steps_part (type_tracked None t)) (λ b i c d is e paired. const_at n t default i c paired (type_from t b c i d is))
one_tracked def (item.lifetime_param n l bs) = steps_then (steps_part (lifetime_tracks l)) (λ id.
    steps_then (steps_lifetime_param n) (λ u. bounds_asked None l.lifetime id bs))
one_tracked def (item.nameless_param l) = steps_end (placeholder_tracked l) (λ i. steps_pure tt)

all_tracked : (def : GenericDefId) (xs : List Param) → Steps (tracked_in_params def xs) (steps.lower_params def xs)
all_tracked def [] = steps_pure tt
all_tracked def (x ∷ xs) = steps_then (one_tracked def x) (λ u. all_tracked def xs)

predicate_tracked : (x : Predicate) → Steps (tracked_in_predicate x) (steps.lower_predicate x)
predicate_tracked (item.of_type t binder bs) = steps_then (steps_part (one_type_tracked None t)) (λ id. each_asked binder id bs)
predicate_tracked (item.of_lifetime l bs) = steps_then (steps_part (lifetime_tracks l)) (λ id. bounds_asked None l.lifetime id bs)
predicate_tracked item.of_nothing = steps_pure tt

predicates_tracked : (xs : List Predicate) → Steps (tracked_in_predicates xs) (steps.lower_predicates xs)
predicates_tracked [] = steps_pure tt
predicates_tracked (x ∷ xs) = steps_then (predicate_tracked x) (λ u. predicates_tracked xs)

pub generics_tracked : (def : GenericDefId) (g : Generics) → Steps (tracked_in_generics def g) (steps.lower_generics def g)
generics_tracked def g = steps_then (all_tracked def g.params) (λ u. predicates_tracked g.predicates)

-- traits, implementations and aliases

pub trait_tracked : (def : GenericDefId) (x : Trait) → Steps (tracked_in_trait def x) (steps.lower_trait def x)
trait_tracked def x = steps_then (self_tracked def x.bounds) (λ u. generics_tracked def x.generics)

trait_stored : (at : Pointer) (p : Option HirPath) → Steps nothing (steps.stored_trait at p)
trait_stored at None = steps_pure None
trait_stored at (Some p) = steps_begin (type_stored _ _) (λ id. steps_pure _)

trait_path_tracked : (x : Option PathTypeReading) → Steps (tracked_in_trait_path x) (steps.lower_trait_ref x)
trait_path_tracked None = steps_pure None
trait_path_tracked (Some x) = steps_end (steps_part (whole_tracked x.path)) (λ p. trait_stored x.pointer p)

pub impl_tracked : (def : GenericDefId) (x : Impl) → Steps (tracked_in_impl def x) (steps.lower_impl def x)
impl_tracked def x = steps_then (steps_part (type_tracked None x.self_type)) (λ self.
    steps_then (trait_path_tracked x.trait_) (λ t. steps_end (generics_tracked def x.generics) (λ u. steps_pure _)))

missing_reported : (f : Option (Pointer × MissingBodyItemKind)) → Steps nothing (steps.report_missing f)
missing_reported None = steps_pure tt
missing_reported (Some f) = reported _

pub alias_tracked : (def : GenericDefId) (x : Alias) → Steps (tracked_in_alias def x) (steps.lower_alias def x)
alias_tracked def x = steps_then (steps_part (bounds_tracked [] x.bounds)) (λ bs.
    steps_then (generics_tracked def x.generics) (λ u.
    steps_end (steps_part (present_type_tracked x.type_)) (λ t. steps_begin (missing_reported x.missing) (λ v. steps_pure _))))

-- functions

borrowed_tracked : (borrow : Option Mutability) (self : TypeRefId) (l : Option LifetimeRefId) → Steps nothing (steps.borrowed borrow self l)
borrowed_tracked None self l = steps_pure self
borrowed_tracked (Some m) self l = type_stored _ None

receiver_tracked : (x : Receiver) → Steps (tracked_in_receiver x) (steps.lower_receiver x)
receiver_tracked item.no_receiver = steps_pure None
receiver_tracked (item.disabled_receiver at by) = steps_begin (reported _) (λ u. steps_pure None)
receiver_tracked (item.typed_receiver t) = steps_end (steps_part (one_type_tracked None t)) (λ i. steps_pure (Some i))
receiver_tracked (item.self_receiver borrow l) = steps_end
    (steps_begin (type_stored steps.self_path None)
    (λ self. steps_end (steps_part (lifetime_option_tracks l)) (borrowed_tracked borrow self)))
    (λ i. steps_pure (Some i))

argument_reported : (x : Argument) → Steps nothing (steps.report_inactive x)
argument_reported (item.disabled_argument at by) = reported _
argument_reported item.variadic_argument = steps_pure tt
argument_reported (item.argument t) = steps_pure tt

each_reported : (xs : List Argument) → Steps nothing (steps.report_each xs)
each_reported [] = steps_pure tt
each_reported (x ∷ xs) = steps_begin (argument_reported x) (λ u. each_reported xs)

argument_tracked : (x : Argument) → Steps (tracked_in_argument x) (steps.argument_type x)
argument_tracked (item.disabled_argument at by) = steps_pure None
argument_tracked item.variadic_argument = steps_pure None
argument_tracked (item.argument t) = steps_end (steps_part (type_tracked None t)) (λ i. steps_pure (Some i))

arguments_tracked : (done : List TypeRefId) (xs : List Argument) → Steps (tracked_in_arguments xs) (steps.argument_types done xs)
arguments_tracked done [] = steps_pure done
arguments_tracked done (x ∷ xs) = steps_then (argument_tracked x) (λ t. arguments_tracked (push_some done t) xs)

input_tracked : (r : Receiver) (xs : List Argument) → Steps (tracked_in_receiver r ⊞ tracked_in_arguments xs) (steps.input_types r xs)
input_tracked r xs =
    steps_then (receiver_tracked r) (λ self. steps_begin (each_reported xs) (λ u. arguments_tracked (push_some [] self) xs))

ret_tracked : (r : OptionRet) → Steps (of_part (tracked_in_output r)) (steps.present_ret r)
ret_tracked tree.no_ret = steps_pure None
ret_tracked (tree.some_ret t) = steps_end (steps_part (type_tracked None t)) (λ i. steps_pure (Some i))

unit_tracked : (t : Option TypeRefId) → Steps nothing (steps.or_unit t)
unit_tracked None = steps_part unit_tracks
unit_tracked (Some t) = steps_pure t

coroutine_tracked : (k : CoroutineKind) (t : Option TypeRefId) → Steps nothing (steps.coroutine_form k t)
coroutine_tracked k t = steps_begin (unit_tracked t) (λ given. steps_begin (type_stored _ None) (λ p. type_stored _ None))

answer_tracked : (k : Option CoroutineKind) (t : Option TypeRefId) → Steps nothing (steps.answer_form k t)
answer_tracked None t = steps_pure t
answer_tracked (Some k) t = steps_begin (coroutine_tracked k t) (λ i. steps_pure (Some i))

output_of : (k : Option CoroutineKind) (r : OptionRet) → Steps (of_part (tracked_in_output r)) (steps.output_type k r)
output_of k r = steps_end (ret_tracked r) (answer_tracked k)

pub function_tracked : (def : GenericDefId) (x : Function) → Steps (tracked_in_function def x) (steps.lower_function def x)
function_tracked def x = steps_then (generics_tracked def x.generics) (λ u.
    steps_then (input_tracked x.receiver x.arguments) (λ args. steps_end (output_of x.kind x.ret) (λ ret. steps_pure _)))
