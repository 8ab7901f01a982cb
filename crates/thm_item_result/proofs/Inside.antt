-- The constants and ends of ranges that an item is answered with, and those of its parameters and predicates, reach each expression in one
-- way only.
use Rattle.std.proofs.Common.{◌≡◌, ap, refl, arith, ℕ, ◌+◌, ◌≤◌, Bool, true, false, ◌||◌, if◌then◌else◌, length, List, [], ◌∷◌, ◌++◌}
use Rattle.std.proofs.Common.{Option, Some, None}
use Rattle.hir_store.specs.Pointers.{Pointer}
use Rattle.hir_store.specs.Stored.{SourceMap, Store, Stored, map_of, store_of}
use Rattle.hir_store.specs.declared.generics.TypeOrConstParamData.{TypeOrConstParamData}
use Rattle.hir_store.specs.declared.generics.TypeOrConstParamData.TheVariants as param
use Rattle.hir_store.specs.declared.generics.WherePredicate.{WherePredicate}
use Rattle.hir_store.specs.declared.generics.WherePredicate.TheVariants as predicate
use Rattle.hir_store.specs.declared.hir.CoroutineKind.{CoroutineKind}
use Rattle.hir_store.specs.declared.hir.Mutability.{Mutability}
use Rattle.hir_store.specs.declared.ids.ExprId.{ExprId}
use Rattle.hir_store.specs.declared.ids.TypeRefId.{TypeRefId}
use Rattle.hir_store.specs.declared.path.Path.{Path as HirPath}
use Rattle.hir_store.specs.declared.type_ref.TraitBoundModifier.TheVariants as modifier
use Rattle.hir_store.specs.declared.type_ref.TraitRef.{TraitRef}
use Rattle.hir_store.specs.declared.type_ref.TypeBound.{TypeBound}
use Rattle.hir_store.specs.declared.type_ref.TypeBound.TheVariants as bound
use Rattle.hir_store.specs.declared.type_ref.TypeRef.TheVariants as ty
use Rattle.hir_store.proofs.Extending.{extends_refl}
use Rattle.hir_env.specs.ResolvedTree as tree
use Rattle.hir_env.specs.ResolvedTree.{Constant, Lifetime, OptionRet}
use Rattle.hir_env.specs.TypeLayers.{PathTypeReading}
use Rattle.hir_lower_builder.specs.Builder.{new_builder}
use Rattle.hir_lower_builder.specs.Lowering.{Lowering, ◌>>=◌, alloc_type, param_type}
use Rattle.hir_lower_builder.specs.Lower.{lower_constant}
use Rattle.hir_lower_item.specs.Lower as steps
use Rattle.spec_semantics.specs.Inner.{Inners, Inside, all_of, of_bound, of_constant, of_present}
use Rattle.thm_generics.proofs.Steps.{tracks_report}
use Rattle.thm_generics.proofs.TypeForms.{tracks_lifetime}
use Rattle.thm_logic.proofs.Logic.{longer as no_shorter}
use Rattle.thm_semantics.specs.Reached.{of_each, reached_to}
use Rattle.thm_type_result.specs.Unrun.{all_unruns, exprs_of}
use Rattle.thm_type_result.proofs.Counted.{counted_spread, less, times, times_append}
use Rattle.thm_type_result.proofs.Asked.{Correct, after_lowering}
use Rattle.thm_type_result.proofs.HeldBecoming.{lifetime_adds, lifetime_option_adds}
use Rattle.thm_type_result.proofs.Inside.{bound_adds, part_adds, path_adds, rooted_adds}
use Rattle.thm_type_result.proofs.InsideTypes.{a_bound as bound_weight, maybe_path, maybe_type as maybe_weight, unit_adds}
use Rattle.thm_type_result.proofs.Meaning.{held_deep}
use Rattle.thm_type_result.proofs.Weighed.{Cost as Weight, View, a_constant as constant_weight, a_type as type_weight, free as weightless}
use Rattle.thm_type_result.proofs.Weighed.{sum, sum_append, view}
use Rattle.thm_type_result.proofs.Weighing.{Adds, adds_any, adds_from, adds_owning, adds_pure, adds_then, adds_type, by_predicate}
use Rattle.thm_item_result.specs.Inside.{AliasesHoldOnce, AnswersHoldOnce, FunctionsHoldOnce, GenericsHoldOnce, Holding, ImplsHoldOnce}
use Rattle.thm_item_result.specs.Inside.{TraitsHoldOnce, held_by_alias, held_by_function, held_by_impl, held_by_param}
use Rattle.thm_item_result.specs.Inside.{held_by_params, held_by_predicates, none_held}
use Rattle.thm_item_result.specs.Once.{among, is_of_impl}
use Rattle.thm_item_result.proofs.Costs.{Cost, Meter, a_bound, a_param, a_trait, asked, each, free, maybe_type, params}
use Rattle.thm_item_result.proofs.Costs.{predicates, present, unless}
use Rattle.thm_item_result.proofs.Counting.{Counts, Part, Sort, tracked, to_answer}
use Rattle.thm_item_result.proofs.CountedItems.{alias_counts, by_alias, by_function, by_impl, function_counts, impl_counts, trait_counts}
use Rattle.thm_item_result.proofs.CountedSteps.{Leaves, generics_count}
use Rattle.thm_item_result.proofs.Held.{path_holds_given}
use Rattle.thm_item_result.proofs.Reading.{nothing_paired}

-- what is counted

-- a type costs what the expressions weigh that it holds, and so does a constant, which is itself one of them
abbrev of_view : View → Meter
of_view v = record { types = λ t. sum v.weight (v.held.type t); constants = λ c. sum v.weight (of_constant v.held c) }

-- looked into past all that is stored, for this number
abbrev whole : Stored → ℕ × ℕ → View
whole final v = view final v.0 v.1 v.0 (held_deep final) (length final.pats.entries)

exprs : Sort
exprs = record {
  View = ℕ × ℕ;
  Deep = λ now final v. length final.exprs.entries ≤ v.0;
  meter = λ final v. of_view (whole final v);
  held = λ final v s. 0;
  given = λ v s. less v.1 (length s.exprs.entries);
  deep_before = λ b c final v e deep. deep;
}

module _ (w : ExprId → ℕ) (r : Inners) where
  abbrev pub meter_of : Meter
  meter_of = record { types = λ t. sum w (r.type t); constants = λ c. sum w (of_constant r c) }

  -- a bound costs what it holds
  bound_held : (b : TypeBound) → sum w (of_bound r b) ≡ a_bound b meter_of
  bound_held (bound.Path t m) = refl
  bound_held (bound.ForLifetime ns t) = refl
  bound_held (bound.Lifetime l) = refl
  bound_held (bound.Use us) = refl
  bound_held bound.Error = refl

-- what is asked costs what it holds
asked_held : (v : View) (ps : List WherePredicate) → sum v.weight (all_of (by_predicate v) ps) ≡ asked ps (of_view v)
asked_held v [] = refl
asked_held v (predicate.TypeBound binder t b ∷ ps) =
    let a = sum_append v.weight (of_bound v.held b) (all_of (by_predicate v) ps) in
    let e = bound_held v.weight v.held b in
    let r = asked_held v ps in omega (arith, a, e, r)
asked_held v (predicate.Lifetime l m ∷ ps) = let r = asked_held v ps in omega (arith, r)

part_of : {A : Type 0} {now : A → Weight} {cost : A → Cost} {p : Lowering A} → Correct p (Adds weightless now)
    → ((a : A) (v : View) → cost a (of_view v) ≤ now a v) → Part exprs cost p
unfolding exprs
part_of {now = now} {cost = cost} h le = record {
  counted = λ b c a d is final e v deep.
      let n = no_shorter e.exprs.entries in
      let m = no_shorter e.types.entries in
      let p = no_shorter e.pats.entries in
      let r = after_lowering h b a c d is final e in
      let x = (r.earlier v.0 v.1 v.0 (held_deep final) (length final.pats.entries) (record {
        all_of = omega (arith, deep);
        deep = omega (arith, deep);
        inside = omega (arith, n, m, p);
        placed = p;
      })).counted in
      let w = whole final v in
      part (cost a (of_view w)) (now a w) _ _ _ _ _ _ x (le a w) (asked_held w b.tracks.generics.where_predicates)
      (asked_held w c.tracks.generics.where_predicates);
}
  where
    part : (a n u w p q o r : ℕ) → n + (p + u) ≤ 0 + (q + w) → a ≤ n → q ≡ r → p ≡ o → a + (o + (0 + u)) ≤ r + (0 + w)
    part a n u w p q o r g h i j = omega (arith, g, h, i, j)

-- its parts

constant_adds : (c : Constant) → Correct (lower_constant c) (Adds weightless constant_weight)
constant_adds (tree.constant e) = adds_owning (λ c. c.expr) (rooted_adds (tree.constant e))

abbrev trait_weight : Option TraitRef → Weight
trait_weight t v = sum v.weight (of_present (λ t. v.held.type t.path) t)

stored_adds : (at : Pointer) (p : Option HirPath) → Correct (steps.stored_trait at p) (Adds (maybe_path p) trait_weight)
stored_adds at None = adds_pure None (λ v. omega arith)
stored_adds at (Some p) = adds_then (adds_type (ty.Path p) (Some at) (λ v. omega arith)) (λ id. adds_pure _ (λ v. omega arith))

trait_adds : (x : Option PathTypeReading) → Correct (steps.lower_trait_ref x) (Adds weightless trait_weight)
trait_adds None = adds_pure None (λ v. omega arith)
trait_adds (Some x) = adds_then (path_adds x.path) (λ r. stored_adds x.pointer r)

self_adds : (borrow : Option Mutability) (l : Option Lifetime) → Correct (steps.self_form borrow l) (Adds weightless type_weight)
self_adds None l = adds_then (adds_type _ None (λ v. omega arith)) (λ self. adds_then (lifetime_option_adds l)
    (λ id. adds_pure self (λ v. omega arith)))
self_adds (Some m) l = adds_then (adds_type _ None (λ v. omega arith)) (λ self. adds_then (lifetime_option_adds l)
    (λ id. adds_type _ None (λ v. omega arith)))

ret_adds : (r : OptionRet) → Correct (steps.present_ret r) (Adds weightless maybe_weight)
ret_adds tree.no_ret = adds_pure None (λ v. omega arith)
ret_adds (tree.some_ret t) = adds_then (part_adds None t) (λ i. adds_pure (Some i) (λ v. omega arith))

unit_or : (t : Option TypeRefId) → Correct (steps.or_unit t) (Adds (maybe_weight t) type_weight)
unit_or None = adds_from (λ v. omega arith) unit_adds
unit_or (Some t) = adds_pure t (λ v. omega arith)

coroutine_adds : {was : Weight} {p : Lowering TypeRefId} (k : CoroutineKind) → Correct p (Adds was type_weight)
    → Correct (p >>= (λ given. alloc_type (ty.Path (steps.coroutine_path k given)) None
    >>= (λ i. alloc_type (ty.ImplTrait (bound.Path i modifier.None ∷ [])) None))) (Adds was type_weight)
coroutine_adds k h = adds_then h (λ given. adds_then
    (adds_type _ None (λ v. let e = ap (sum v.weight) (path_holds_given v.held k given) in omega (arith, e)))
    (λ i. adds_type _ None (λ v. let e = sum_append v.weight (v.held.type i) [] in omega (arith, e))))

answer_adds : (k : Option CoroutineKind) (t : Option TypeRefId) → Correct (steps.answer_form k t) (Adds (maybe_weight t) maybe_weight)
answer_adds None t = adds_pure t (λ v. omega arith)
answer_adds (Some k) t = adds_then (coroutine_adds k (unit_or t)) (λ i. adds_pure (Some i) (λ v. omega arith))

output_adds : (k : Option CoroutineKind) (r : OptionRet) → Correct (steps.output_type k r) (Adds weightless maybe_weight)
output_adds k r = adds_then (ret_adds r) (λ t. answer_adds k t)

-- what they cost is what they hold

module _ (w : ExprId → ℕ) (r : Inners) where
  present_held : {A : Type 0} (g : A → List Inside) (o : Option A) → sum w (of_present g o) ≡ present (λ a. sum w (g a)) o
  present_held g None = refl
  present_held g (Some a) = refl

  each_held : {A : Type 0} (g : A → List Inside) (c : A → ℕ) → ((a : A) → sum w (g a) ≡ c a) → (xs : List A)
      → sum w (all_of g xs) ≡ each c xs
  each_held g c h [] = refl
  each_held g c h (x ∷ xs) =
      let a = sum_append w (g x) (all_of g xs) in let e = h x in let s = each_held g c h xs in omega (arith, a, e, s)

  param_held : (x : TypeOrConstParamData) → sum w (held_by_param x r) ≡ a_param x (meter_of w r)
  param_held (param.TypeParamData x) = present_held r.type x.default
  param_held (param.ConstParamData x) =
      let a = sum_append w (r.type x.ty) (of_present (of_constant r) x.default) in
      let e = present_held (of_constant r) x.default in omega (arith, a, e)

  one_held : (i a : Bool) (xs : List Inside) → sum w (if i || a then [] else xs) ≡ unless i (unless a (sum w xs))
  one_held true a xs = refl
  one_held false true xs = refl
  one_held false false xs = refl

  module _ (store : Store) (source_map : SourceMap) where
    predicates_held : (seen : List TypeRefId) (ps : List WherePredicate)
        → sum w (held_by_predicates store source_map seen ps r) ≡ predicates store source_map seen ps (meter_of w r)
    predicates_held seen [] = refl
    predicates_held seen (predicate.TypeBound binder t b ∷ ps) =
        let i = is_of_impl store source_map t in
        let here = if i || among t seen then [] else r.type t in
        let others = held_by_predicates store source_map (t ∷ seen) ps r in
        let a = sum_append w here (of_bound r b ++ others) in
        let x = sum_append w (of_bound r b) others in
        let e = one_held i (among t seen) (r.type t) in
        let y = bound_held w r b in
        let s = predicates_held (t ∷ seen) ps in omega (arith, a, x, e, y, s)
    predicates_held seen (predicate.Lifetime l m ∷ ps) = predicates_held seen ps

    pub params_held : (xs : List TypeOrConstParamData) (ps : List WherePredicate)
        → sum w (held_by_params store source_map xs ps r) ≡ params xs (meter_of w r) + predicates store source_map [] ps (meter_of w r)
    params_held xs ps =
        let a = sum_append w (all_of (λ x. held_by_param x r) xs) (held_by_predicates store source_map [] ps r) in
        let e = each_held (λ x. held_by_param x r) (λ x. a_param x (meter_of w r)) param_held xs in
        let s = predicates_held [] ps in omega (arith, a, e, s)

  impl_held : (self : TypeRefId) (t : Option TraitRef) → sum w (held_by_impl self t r) ≡ by_impl self t (meter_of w r)
  impl_held self t =
      let a = sum_append w (r.type self) (of_present (λ t. r.type t.path) t) in
      let e = present_held (λ t. r.type t.path) t in omega (arith, a, e)

  alias_held : (bs : List TypeBound) (t : Option TypeRefId) → sum w (held_by_alias bs t r) ≡ by_alias bs t (meter_of w r)
  alias_held bs t =
      let a = sum_append w (all_of (of_bound r) bs) (of_present r.type t) in
      let e = each_held (of_bound r) (λ b. a_bound b (meter_of w r)) (bound_held w r) bs in
      let s = present_held r.type t in omega (arith, a, e, s)

  function_held : (args : List TypeRefId) (ret : Option TypeRefId)
      → sum w (held_by_function args ret r) ≡ by_function args ret (meter_of w r)
  function_held args ret =
      let a = sum_append w (all_of r.type args) (of_present r.type ret) in
      let e = each_held r.type (λ t. sum w (r.type t)) (λ t. refl) args in
      let s = present_held r.type ret in omega (arith, a, e, s)

bound_less : (b : TypeBound) (v : View) → a_bound b (of_view v) ≤ bound_weight b v
bound_less b v = let e = bound_held v.weight v.held b in omega (arith, e)

trait_less : (t : Option TraitRef) (v : View) → a_trait t (of_view v) ≤ trait_weight t v
trait_less t v = let e = present_held v.weight v.held (λ t. v.held.type t.path) t in omega (arith, e)

maybe_less : (t : Option TypeRefId) (v : View) → maybe_type t (of_view v) ≤ maybe_weight t v
maybe_less t v = let e = present_held v.weight v.held v.held.type t in omega (arith, e)

leaves : Leaves exprs
leaves = record {
  type_is = λ t. part_of (part_adds None t) (λ a v. omega arith);
  bound_is = λ b. part_of (bound_adds b) bound_less;
  constant_is = λ c. part_of (constant_adds c) (λ a v. omega arith);
  lifetime_is = λ l. part_of (lifetime_adds l) (λ a v. omega arith);
  made_lifetime_is = λ l. part_of (adds_any (tracks_lifetime l None)) (λ a v. omega arith);
  fault_is = λ d. part_of (adds_any (tracks_report d)) (λ a v. omega arith);
  param_type_is = λ def n. part_of (adds_type (param_type def n) None (λ v. omega arith)) (λ a v. omega arith);
  trait_is = λ x. part_of (trait_adds x) trait_less;
  self_is = λ borrow l. part_of (self_adds borrow l) (λ a v. omega arith);
  output_is = λ k r. part_of (output_adds k r) maybe_less;
}

-- where an item is lowered first

-- what is reached, list by list
pub weighed : (f : ExprId → List ℕ) (k : ℕ) (xs : List Inside) → times k (of_each f (exprs_of xs)) ≡ sum (λ i. times k (f i)) xs
weighed f k [] = refl
weighed f k (x ∷ xs) =
    let a = times_append k (f x.expr) (of_each f (exprs_of xs)) in let r = weighed f k xs in omega (arith, a, r)

sums : (a p n : ℕ) {t x b r : ℕ} → a + (p + (0 + 0)) ≤ 0 + (0 + (0 + n)) → b ≡ a → r ≡ p → x ≡ b + r → t ≡ x → t + 0 ≤ n
sums a p n g same also h i = omega (arith, g, same, also, h, i)

hold_once : {A : Type 0} {cost : A → Cost} (held : A → Holding)
    → ((a : A) (w : ExprId → ℕ) (r : Inners) → sum w (held a r) ≡ cost a (meter_of w r)) → {p : Lowering A} → Counts exprs free cost p
    → AnswersHoldOnce held p
unfolding exprs
hold_once {cost = cost} held same h limit new a is depth le =
    let g = to_answer exprs h (new_builder limit) new a (nothing_paired limit) is in
    let final = new.stored in
    let s = store_of final in
    let m = map_of final in
    let r = all_unruns s in
    let lists = new.tracks.generics in
    let params = held_by_params s m lists.type_or_consts lists.where_predicates r in
    counted_spread 0 (length final.exprs.entries) (of_each (reached_to s depth) (exprs_of (held a r ++ params))) (λ k.
    let w : ExprId → ℕ = λ i. times k (reached_to s depth i) in
    sums (cost a (meter_of w r)) (tracked final new.tracks (meter_of w r)) _ (g.counted final (extends_refl final) (depth, k) le)
    (same a w r) (params_held w r s m lists.type_or_consts lists.where_predicates) (sum_append w (held a r) params)
    (weighed (reached_to s depth) k (held a r ++ params)))

pub generics_hold_once : GenericsHoldOnce
generics_hold_once def g = hold_once (λ a. none_held) (λ a w r. refl) (generics_count exprs leaves def g)

pub traits_hold_once : TraitsHoldOnce
traits_hold_once def x = hold_once (λ a. none_held) (λ a w r. refl) (trait_counts exprs leaves def x)

pub impls_hold_once : ImplsHoldOnce
impls_hold_once def x =
    hold_once (λ a. held_by_impl a.0 a.1) (λ a w r. impl_held w r a.0 a.1) (impl_counts exprs leaves def x)

pub aliases_hold_once : AliasesHoldOnce
aliases_hold_once def x =
    hold_once (λ a. held_by_alias a.0 a.1) (λ a w r. alias_held w r a.0 a.1) (alias_counts exprs leaves def x)

pub functions_hold_once : FunctionsHoldOnce
functions_hold_once def x = hold_once (λ a. held_by_function a.args a.ret) (λ a w r. function_held w r a.args a.ret)
    (function_counts exprs leaves def x)
