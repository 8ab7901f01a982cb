-- What parameters and predicates name is counted once: the steps of what is generic in an item.
use Rattle.std.proofs.Common.{◌≡◌, ◌∙◌, refl, sym, ap, subst, arith, ℕ, ◌+◌, ◌≤◌, nat_lt, length, Bool, true, false, List, []}
use Rattle.std.proofs.Common.{◌∷◌, ◌++◌, Option, Some, None, Ok, Err}
use Rattle.hir_store.specs.StoreSink as store_sink
use Rattle.hir_store.specs.Stored.{Stored, map_of, store_of}
use Rattle.hir_store.specs.declared.diagnostics.ExpressionStoreDiagnostics.{ExpressionStoreDiagnostics}
use Rattle.hir_store.specs.declared.generics.LifetimeParamData.{LifetimeParamData}
use Rattle.hir_store.specs.declared.generics.TypeOrConstParamData.{TypeOrConstParamData}
use Rattle.hir_store.specs.declared.generics.TypeOrConstParamData.TheVariants as param
use Rattle.hir_store.specs.declared.generics.TypeParamProvenance.{TypeParamProvenance}
use Rattle.hir_store.specs.declared.generics.TypeParamProvenance.TheVariants as provenance
use Rattle.hir_store.specs.declared.generics.LifetimeBoundType.TheVariants.{EarlyBound}
use Rattle.hir_store.specs.declared.generics.WherePredicate.{WherePredicate}
use Rattle.hir_store.specs.declared.generics.WherePredicate.TheVariants as predicate
use Rattle.hir_store.specs.declared.hir.CoroutineKind.{CoroutineKind}
use Rattle.hir_store.specs.declared.hir.Mutability.{Mutability}
use Rattle.hir_store.specs.declared.ids.GenericDefId.{GenericDefId}
use Rattle.hir_store.specs.declared.ids.LifetimeRefId.{LifetimeRefId}
use Rattle.hir_store.specs.declared.ids.TypeRefId.{TypeRefId}
use Rattle.hir_store.specs.declared.name.Name.{Name}
use Rattle.hir_store.specs.declared.type_ref.ConstRef.{ConstRef}
use Rattle.hir_store.specs.declared.type_ref.LifetimeRef.{LifetimeRef}
use Rattle.hir_store.specs.declared.type_ref.LifetimeRef.TheVariants as lifetime
use Rattle.hir_store.specs.declared.type_ref.TypeBound.{TypeBound}
use Rattle.hir_store.specs.declared.type_ref.TypeBound.TheVariants as bound
use Rattle.hir_env.specs.declared.ctx.LifetimeScope.TheVariants as scope
use Rattle.hir_env.specs.ResolvedTree as tree
use Rattle.hir_env.specs.ResolvedTree.{Binder, Bound, Bounds, Constant, Lifetime, OptionRet, OptionType}
use Rattle.hir_env.specs.TypeLayers.{PathTypeReading}
use Rattle.hir_lower_builder.specs.Builder.{Builder}
use Rattle.hir_lower_builder.specs.Generics.{naming, with_param, with_predicate}
use Rattle.hir_lower_builder.specs.Lowering.{Checked, go_on, Lowering, ◌>>=◌, ◌>>◌, add_lifetime_param, add_param, add_predicate}
use Rattle.hir_lower_builder.specs.Lowering.{alloc_lifetime, alloc_type, count_out, lifetime_counted, track_down, param_numbered}
use Rattle.hir_lower_builder.specs.Lowering.{param_type}
use Rattle.hir_lower_builder.specs.Lowering.{pure, report, with_side_output}
use Rattle.hir_lower_builder.specs.Lower.{lower_bound, lower_constant, present_type, type_part}
use Rattle.hir_lower_builder.specs.Types.{lower_lifetime}
use Rattle.thm_logic.specs.Keeps.{Paired}
use Rattle.thm_logic.proofs.TypeSteps.{correct_alloc_lifetime}
use Rattle.hir_lower_item.specs.declared.predicates.Bounded.TheVariants as bounded_by
use Rattle.hir_lower_item.specs.Items as item
use Rattle.hir_lower_item.specs.Items.{Generics, Param, Predicate}
use Rattle.hir_lower_item.specs.Lower as steps
use Rattle.spec_data.specs.Tracking.{Tracking}
use Rattle.thm_generics.proofs.Logic as parts
use Rattle.thm_generics.proofs.Steps.{tracks_report, tracks_type}
use Rattle.thm_generics.proofs.TypeForms.{lifetime_tracks}
use Rattle.thm_generics.proofs.Tree.{bound_tracked, constant_tracked, type_tracked}
use Rattle.thm_item_result.specs.Once.{among, is_of_impl}
use Rattle.thm_item_result.proofs.Costs.{Cost, Meter, a_bound, a_constant, a_param, a_trait, a_type, before_all, before_append, beside}
use Rattle.thm_item_result.proofs.Costs.{among_first, each_append, free, left, left_less, maybe_constant, maybe_type, params, predicates}
use Rattle.thm_item_result.proofs.Costs.{predicates_append, unless, unless_less}
use Rattle.thm_item_result.proofs.Counting.{Count, CountTo, Counts, Part, Sort, count_still, counted_both, counts_as, counts_beside}
use Rattle.thm_item_result.proofs.Counting.{counts_pure, counts_then, tracked, part_counts, then_to, to_as, to_beside}

-- what is left of what is bound, behind what a builder has
abbrev left_of : Builder → TypeRefId → Cost
left_of b t q = left b.tracks.generics.where_predicates t q

abbrev bound_and_left : Builder → TypeRefId → TypeBound → Cost
bound_and_left b t y q = a_bound y q + left_of b t q

gone : (b : Bool) → b ≡ true → (n : ℕ) → unless b n ≡ 0
gone b e n = ap (λ x. unless x n) e

one_more : (xs old new ys l l' y : ℕ) → new ≡ old + ys → l' ≡ 0 → ys ≤ l + y → l' + (xs + new) ≤ (y + l) + (xs + old)
one_more xs old new ys l l' y e g h = omega (arith, e, g, h)

-- behind a part there isn't more left
left_later : {A : Type 0} {n : Tracking} {p : Lowering A} → parts.SideOutput n p → (b c : Builder) (a : A) → Paired b.stored
    → p b ≡ (Ok a, c)
    → (t : TypeRefId) (q : Meter) → left_of c t q ≤ left_of b t q
left_later {n = n} h b c a d is t q =
    let g : parts.TracksTo n b (Ok a) c = subst (λ r. parts.TracksTo n b r.0 r.1) is (h.at b d) in
    let ps = b.tracks.generics.where_predicates in
    subst (λ l. left l t q ≤ left ps t q) (sym g.1.predicates) (left_less ps g.1.added t q)

-- a constant of this type
abbrev behind_default : Name → TypeRefId → Option ConstRef → Lowering (Unit {0})
behind_default n t d = add_param (param.ConstParamData (record { name = n; ty = t; default = d })) >> pure tt

module _ (S : Sort) where
  -- what is counted of the parts of an item
  pub record Leaves : Type 0 where
    pub type_is : (t : OptionType) → Part S a_type (type_part None t)
    pub bound_is : (b : Bound) → Part S a_bound (lower_bound b)
    pub constant_is : (c : Constant) → Part S a_constant (lower_constant c)
    pub lifetime_is : (l : Lifetime) → Part S (λ i. free) (lower_lifetime l)
    pub made_lifetime_is : (l : LifetimeRef) → Part S (λ i. free) (alloc_lifetime l None)
    pub fault_is : (d : ExpressionStoreDiagnostics) → Part S (λ u. free) (report d)
    pub param_type_is : (def : GenericDefId) (k : ℕ) → Part S a_type (alloc_type (param_type def k) None)
    pub trait_is : (x : Option PathTypeReading) → Part S a_trait (steps.lower_trait_ref x)
    pub self_is : (borrow : Option Mutability) (l : Option Lifetime) → Part S a_type (steps.self_form borrow l)
    pub output_is : (k : Option CoroutineKind) (r : OptionRet) → Part S maybe_type (steps.output_type k r)

  -- what costs in the end is dropped
  pub dropped : {A : Type 0} {now : A → Cost} {p : Lowering A} → Counts S free now p → Counts S free (λ a. free) p
  dropped h = counts_as S (λ q. omega arith) (λ a q. omega arith) h

  pub nothing_counts : {A : Type 0} (a : A) → Counts S free (λ a. free) (pure a)
  nothing_counts a = counts_pure S a (λ q. omega arith)

  -- a predicate of a type
  predicate_counts : (binder : Option Binder) (t : TypeRefId) (y : TypeBound) (b : Builder) → Paired b.stored
      → let p = predicate.TypeBound binder t y in let c = record b { tracks = with_predicate p b.tracks } in
      Count S (bound_and_left b t y) (left_of c t) b c
  predicate_counts binder t y b d = count_still S refl d (λ final q. by final q)
    where
      ps : List WherePredicate
      ps = b.tracks.generics.where_predicates

      p : WherePredicate
      p = predicate.TypeBound binder t y

      by : (final : Stored) (q : Meter)
          → left (ps ++ p ∷ []) t q + tracked final (with_predicate p b.tracks) q
          ≤ bound_and_left b t y q + tracked final b.tracks q
      by final q =
          let s = store_of final in
          let m = map_of final in
          let i = is_of_impl s m t in
          let one = unless i (left ps t q) + a_bound y q in
          let e = predicates_append s m [] ps (p ∷ []) q in
          let among_it = ap (among t) (before_append [] ps (p ∷ [])) ∙ among_first t (before_all [] ps) in
          let new = predicates s m [] (ps ++ p ∷ []) q in
          let old = predicates s m [] ps q in
          let of_it = unless_less i (left ps t q) in
          one_more (params b.tracks.generics.type_or_consts q) old new one (left ps t q) (left (ps ++ p ∷ []) t q) (a_bound y q)
          (omega (arith, e)) (gone (among t (before_all [] (ps ++ p ∷ []))) among_it (q.types t)) (omega (arith, of_it))

  -- where it answers, what is left then costs still
  abbrev AskTo : TypeRefId → Cost → Builder → Checked (Unit {0}) → Builder → Type 0
  AskTo t was b (Ok a) c = Count S was (left_of c t) b c
  AskTo t was b (Err e) c = Unit {0}

  -- what becomes of a bound of a type
  asked_counts : (binder : Option Binder) (t : TypeRefId) (y : TypeBound) (b : Builder) → Paired b.stored
      → let p = steps.ask binder (bounded_by.Type_ t) y in AskTo t (bound_and_left b t y) b (p b).0 (p b).1
  unfolding add_predicate track_down
  asked_counts binder t bound.Error b d = count_still S refl d (λ final q. omega arith)
  asked_counts binder t (bound.Use us) b d = count_still S refl d (λ final q. omega arith)
  asked_counts binder t (bound.Path p m) b d = predicate_counts binder t (bound.Path p m) b d
  asked_counts binder t (bound.ForLifetime ns p) b d = predicate_counts binder t (bound.ForLifetime ns p) b d
  asked_counts binder t (bound.Lifetime l) b d = predicate_counts binder t (bound.Lifetime l) b d

  -- what becomes of one, and then of the others
  asked_then : (binder : Option Binder) (t : TypeRefId) (ys : Bounds) → ((b : Builder) → Paired b.stored
      → let p = steps.ask_each binder (bounded_by.Type_ t) ys in CountTo S (left_of b t) (λ a. free) b (p b).0 (p b).1)
      → (was : Cost) (b : Builder) (o : Checked (Unit {0})) (c : Builder) → AskTo t was b o c
      → let p = go_on o c (λ u. steps.ask_each binder (bounded_by.Type_ t) ys) in CountTo S was (λ a. free) b p.0 p.1
  asked_then binder t ys more was b (Ok u) c h =
      let p = steps.ask_each binder (bounded_by.Type_ t) ys in
      counted_both S (λ a. free) b c h (p c).0 (p c).1 (more c h.paired)
  asked_then binder t ys more was b (Err f) c h = tt

  -- a type parameter that isn't named, with what it has of its own
  param_tracked : (x : TypeOrConstParamData) (b : Builder) → Paired b.stored
      → Count S (a_param x) free b (record b { tracks = with_param x b.tracks })
  param_tracked x b d = count_still S refl d (λ final q.
      let e = each_append (λ x. a_param x q) b.tracks.generics.type_or_consts (x ∷ []) in omega (arith, e))

  param_counts : (x : TypeOrConstParamData) → Counts S (a_param x) (λ k. free) (add_param x)
  unfolding add_param with_side_output track_down count_out
  param_counts x = record { at = λ b d. by b d (nat_lt (length b.tracks.generics.type_or_consts) 4294967295) }
    where
      by : (b : Builder) → Paired b.stored → (room : Bool) → let p = param_numbered x (length b.tracks.generics.type_or_consts) room in
          CountTo S (a_param x) (λ k. free) b (p b).0 (p b).1
      by b d true = param_tracked x b d
      by b d false = tt

  lifetime_param_counts : (x : LifetimeParamData) → Counts S free (λ a. free) (add_lifetime_param x)
  unfolding add_lifetime_param with_side_output track_down count_out
  lifetime_param_counts x = record { at = λ b d. by b d (nat_lt (length b.tracks.generics.lifetimes) 4294967295) }
    where
      by : (b : Builder) → Paired b.stored → (room : Bool) → let p = lifetime_counted x room in
          CountTo S free (λ a. free) b (p b).0 (p b).1
      by b d true = count_still S refl d (λ final q. omega arith)
      by b d false = tt

  lifetime_predicate : (l m : LifetimeRefId) → Counts S free (λ a. free) (add_predicate (predicate.Lifetime l m))
  unfolding add_predicate track_down
  lifetime_predicate l m = record {
    at = λ b d. count_still S refl d (λ final q.
        let e = predicates_append (store_of final) (map_of final) [] b.tracks.generics.where_predicates (predicate.Lifetime l m ∷ []) q in
        omega (arith, e));
  }

  name_counts : (text : LifetimeRef) → Counts S free (λ a. free) (track_down (naming scope.Bound text))
  unfolding track_down
  name_counts (lifetime.Named n) = record { at = λ b d. count_still S refl d (λ final q. omega arith) }
  name_counts lifetime.Static = record { at = λ b d. count_still S refl d (λ final q. omega arith) }
  name_counts lifetime.Placeholder = record { at = λ b d. count_still S refl d (λ final q. omega arith) }
  name_counts lifetime.Error = record { at = λ b d. count_still S refl d (λ final q. omega arith) }

  lifetime_asked : (binder : Option Binder) (text : LifetimeRef) (l : LifetimeRefId) (y : TypeBound)
      → Counts S free (λ a. free) (steps.ask binder (bounded_by.Lifetime text l) y)
  lifetime_asked binder text l bound.Error = nothing_counts tt
  lifetime_asked binder text l (bound.Use us) = nothing_counts tt
  lifetime_asked binder text l (bound.Path p m) = nothing_counts tt
  lifetime_asked binder text l (bound.ForLifetime ns p) = nothing_counts tt
  lifetime_asked binder text l (bound.Lifetime m) = counts_then S (name_counts text) (λ u. lifetime_predicate l m)

  module _ (L : Leaves) where
    pub type_counts : (t : OptionType) → Counts S free a_type (type_part None t)
    type_counts t = part_counts S (L.type_is t) (type_tracked None t)

    pub present_counts : (t : OptionType) → Counts S free maybe_type (present_type t)
    present_counts tree.no_type = counts_pure S None (λ q. omega arith)
    present_counts (tree.some_type t) = counts_then S (type_counts (tree.some_type t)) (λ i. counts_pure S (Some i) (λ q. omega arith))

    pub fault_counts : (d : ExpressionStoreDiagnostics) → Counts S free (λ a. free) (report d)
    fault_counts d = part_counts S (L.fault_is d) (tracks_report d)

    -- bounds

    pub bound_counts : (b : Bound) → Counts S free a_bound (lower_bound b)
    bound_counts b = part_counts S (L.bound_is b) (bound_tracked b)

    -- each bound of a type
    each_counts : (binder : Option Binder) (t : TypeRefId) (bs : Bounds) (b : Builder) → Paired b.stored
        → let p = steps.ask_each binder (bounded_by.Type_ t) bs in CountTo S (left_of b t) (λ a. free) b (p b).0 (p b).1
    each_counts binder t tree.no_bounds b d = count_still S refl d (λ final q. omega arith)
    each_counts binder t (tree.more_bounds y ys) b d =
        let ask : TypeBound → Lowering (Unit {0}) = λ r. steps.ask binder (bounded_by.Type_ t) r in
        let all : TypeBound → Lowering (Unit {0}) = λ r. ask r >> steps.ask_each binder (bounded_by.Type_ t) ys in
        let one : TypeBound → Cost = λ r. beside (left_of b t) (a_bound r) in
        then_to S (λ a. free) (lower_bound y) all b
        (to_as S (beside (left_of b t) free) (left_of b t) one one b (lower_bound y b).0 (lower_bound y b).1
        (λ q. omega arith) (λ a q. omega arith)
        (to_beside S free a_bound (left_of b t) b (lower_bound y b).0 (lower_bound y b).1 ((bound_counts y).at b d)))
        (λ r c g is.
        to_as S (bound_and_left c t r) (one r) (λ a. free) (λ a. free) c (all r c).0 (all r c).1
        (λ q. let l = left_later (bound_tracked y) b c r d is t q in omega (arith, l)) (λ a q. omega arith)
        (asked_then binder t ys (λ e h. each_counts binder t ys e h) (bound_and_left c t r) c (ask r c).0 (ask r c).1
        (asked_counts binder t r c g.paired)))

    -- of a type that is named nowhere else
    pub all_counts : (binder : Option Binder) (t : TypeRefId) (bs : Bounds)
        → Counts S (a_type t) (λ a. free) (steps.ask_each binder (bounded_by.Type_ t) bs)
    all_counts binder t bs = record {
      at = λ b d. let p = steps.ask_each binder (bounded_by.Type_ t) bs in
          to_as S (left_of b t) (a_type t) (λ a. free) (λ a. free) b (p b).0 (p b).1
          (λ q. unless_less (among t (before_all [] b.tracks.generics.where_predicates)) (q.types t)) (λ a q. omega arith)
          (each_counts binder t bs b d);
    }

    lifetime_bounds : (binder : Option Binder) (text : LifetimeRef) (l : LifetimeRefId) (bs : Bounds)
        → Counts S free (λ a. free) (steps.ask_each binder (bounded_by.Lifetime text l) bs)
    lifetime_bounds binder text l tree.no_bounds = nothing_counts tt
    lifetime_bounds binder text l (tree.more_bounds y ys) = counts_then S (dropped (bound_counts y))
        (λ r. counts_then S (lifetime_asked binder text l r) (λ u. lifetime_bounds binder text l ys))

    -- parameters

    -- a type parameter with this default
    typed_counts : (def : GenericDefId) (n : Name) (default : Option TypeRefId) (from : TypeParamProvenance) (bs : Bounds)
        → Counts S (maybe_type default) (λ a. free) (steps.type_param_form def n default from bs)
    typed_counts def n default from bs =
        counts_then S (param_counts (param.TypeParamData (record { name = Some n; default = default; provenance = from })))
        (λ k. counts_then S (part_counts S (L.param_type_is def k) (tracks_type (param_type def k) None)) (λ id. all_counts None id bs))

    default_counts : (c : Option Constant) → Counts S free maybe_constant (steps.present_constant c)
    default_counts None = counts_pure S None (λ q. omega arith)
    default_counts (Some c) =
        counts_then S (part_counts S (L.constant_is c) (constant_tracked c)) (λ i. counts_pure S (Some i) (λ q. omega arith))

    lifetime_counts : (l : Lifetime) → Counts S free (λ a. free) (lower_lifetime l)
    lifetime_counts l = part_counts S (L.lifetime_is l) (lifetime_tracks l)

    placeholder_counts : (l : Option Lifetime) → Counts S free (λ a. free) (steps.lifetime_or_placeholder l)
    unfolding alloc_lifetime
    placeholder_counts None = part_counts S (L.made_lifetime_is lifetime.Placeholder)
        (parts.tracks_stored (store_sink.alloc_lifetime lifetime.Placeholder None) (correct_alloc_lifetime lifetime.Placeholder None))
    placeholder_counts (Some l) = lifetime_counts l

    const_counts : (n : Name) (t : TypeRefId) (default : Option Constant)
        → Counts S (a_type t) (λ a. free) (steps.present_constant default >>= behind_default n t)
    const_counts n t default = counts_then S (counts_beside S (a_type t) (default_counts default))
        (λ d. counts_then S (param_counts (param.ConstParamData (record { name = n; ty = t; default = d }))) (λ k. nothing_counts tt))

    one_counts : (def : GenericDefId) (x : Param) → Counts S free (λ a. free) (steps.lower_param def x)
    one_counts def (item.disabled_param at by) = fault_counts _
    one_counts def (item.type_param n default bs) = counts_then S (present_counts default)
        (λ i. typed_counts def n i provenance.TypeParamList bs)
    one_counts def (item.const_param n t default) = counts_then S (type_counts t) (λ i. const_counts n i default)
    one_counts def (item.lifetime_param n l bs) = counts_then S (lifetime_counts l)
        (λ id. counts_then S (lifetime_param_counts (record { name = n; bound_type = EarlyBound }))
        (λ u. lifetime_bounds None l.lifetime id bs))
    one_counts def (item.nameless_param l) = counts_then S (placeholder_counts l) (λ i. nothing_counts tt)

    params_count : (def : GenericDefId) (xs : List Param) → Counts S free (λ a. free) (steps.lower_params def xs)
    params_count def [] = nothing_counts tt
    params_count def (x ∷ xs) = counts_then S (one_counts def x) (λ u. params_count def xs)

    -- predicates

    where_counts : (x : Predicate) → Counts S free (λ a. free) (steps.lower_predicate x)
    where_counts (item.of_type t binder bs) = counts_then S (type_counts (tree.some_type t)) (λ id. all_counts binder id bs)
    where_counts (item.of_lifetime l bs) = counts_then S (lifetime_counts l) (λ id. lifetime_bounds None l.lifetime id bs)
    where_counts item.of_nothing = nothing_counts tt

    wheres_count : (xs : List Predicate) → Counts S free (λ a. free) (steps.lower_predicates xs)
    wheres_count [] = nothing_counts tt
    wheres_count (x ∷ xs) = counts_then S (where_counts x) (λ u. wheres_count xs)

    pub generics_count : (def : GenericDefId) (g : Generics) → Counts S free (λ a. free) (steps.lower_generics def g)
    generics_count def g = counts_then S (params_count def g.params) (λ u. wheres_count g.predicates)

    -- `Self` of a trait, in front of its parameters
    pub self_counts : (def : GenericDefId) (bs : Bounds) → Counts S free (λ a. free) (steps.self_param def bs)
    self_counts def bs = typed_counts def steps.self_text None provenance.TraitSelf bs
