-- What an item is answered with, and its parameters and predicates, reach each type in one way only.
use Rattle.std.proofs.Common.{◌≡◌, ap, refl, arith, ℕ, ◌+◌, ◌≤◌, Bool, true, false, ◌||◌, if◌then◌else◌, length, List, [], ◌∷◌, ◌++◌}
use Rattle.std.proofs.Common.{Option, Some, None, length-append}
use Rattle.hir_store.specs.Arenas.{Prefix}
use Rattle.hir_store.specs.Generics.{of_binding as binding_of_parts}
use Rattle.hir_store.specs.Pointers.{Pointer}
use Rattle.hir_store.specs.Stored.{SourceMap, Store, map_of, store_of}
use Rattle.hir_store.specs.declared.generics.TypeOrConstParamData.{TypeOrConstParamData}
use Rattle.hir_store.specs.declared.generics.TypeOrConstParamData.TheVariants as param
use Rattle.hir_store.specs.declared.generics.WherePredicate.{WherePredicate}
use Rattle.hir_store.specs.declared.generics.WherePredicate.TheVariants as predicate
use Rattle.hir_store.specs.declared.hir.CoroutineKind.{CoroutineKind}
use Rattle.hir_store.specs.declared.hir.Mutability.{Mutability}
use Rattle.hir_store.specs.declared.ids.TypeRefId.{TypeRefId}
use Rattle.hir_store.specs.declared.path.GenericArgsParentheses.TheVariants as parens
use Rattle.hir_store.specs.declared.path.Path.{Path as HirPath}
use Rattle.hir_store.specs.declared.type_ref.ConstRef.{ConstRef}
use Rattle.hir_store.specs.declared.type_ref.TraitBoundModifier.TheVariants as modifier
use Rattle.hir_store.specs.declared.type_ref.TraitRef.{TraitRef}
use Rattle.hir_store.specs.declared.type_ref.TypeBound.{TypeBound}
use Rattle.hir_store.specs.declared.type_ref.TypeBound.TheVariants as bound
use Rattle.hir_store.specs.declared.type_ref.TypeRef.TheVariants as ty
use Rattle.hir_store.proofs.Extending.{extends_refl}
use Rattle.hir_env.specs.ResolvedTree as tree
use Rattle.hir_env.specs.ResolvedTree.{Lifetime, OptionRet}
use Rattle.hir_env.specs.TypeLayers.{PathTypeReading}
use Rattle.hir_lower_builder.specs.Builder.{new_builder}
use Rattle.hir_lower_builder.specs.Lowering.{Lowering, ◌>>=◌, alloc_type, param_type}
use Rattle.hir_lower_item.specs.Lower as steps
use Rattle.thm_type_result.specs.Named.{of_exprs, of_pats, of_types_alone}
use Rattle.thm_type_result.specs.Reached.{of_args, of_binding, of_bound, of_each, of_path, of_present, types_reached}
use Rattle.thm_type_result.proofs.Adding.{Numbers, named, none, the_types}
use Rattle.thm_type_result.proofs.Asked.{Adds, Correct, adds_from, adds_lifetime, adds_pure, adds_then, adds_type, after_lowering, asked_by}
use Rattle.thm_type_result.proofs.Counted.{counted_spread, less, times, times_append, ◌⊑◌}
use Rattle.thm_type_result.proofs.Naming.{quiet_report}
use Rattle.thm_type_result.proofs.Numbers as numbers
use Rattle.thm_type_result.proofs.Owned.{a_type as type_numbers, lifetime_adds, lifetime_option_adds, maybe_path}
use Rattle.thm_type_result.proofs.Owned.{maybe_type as maybe_numbers, unit_adds}
use Rattle.thm_type_result.proofs.TreeNamed.{bound_adds, constant_quiet, part_adds, path_adds}
use Rattle.thm_item_result.specs.Once.{AliasesOnce, AnswersOnce, FunctionsOnce, GenericsOnce, ImplsOnce, Naming, TraitsOnce, among}
use Rattle.thm_item_result.specs.Once.{is_of_impl, named_by_alias, named_by_function, named_by_impl, named_by_param}
use Rattle.thm_item_result.specs.Once.{named_by_params, named_by_predicates, none_named}
use Rattle.thm_item_result.proofs.Costs.{Cost, Meter, a_bound, a_param, a_trait, asked, each, free, maybe_type, params}
use Rattle.thm_item_result.proofs.Costs.{predicates, present, unless}
use Rattle.thm_item_result.proofs.Counting.{Counts, Part, Sort, tracked, to_answer}
use Rattle.thm_item_result.proofs.CountedItems.{alias_counts, by_alias, by_function, by_impl, function_counts, impl_counts, trait_counts}
use Rattle.thm_item_result.proofs.CountedSteps.{Leaves, generics_count}
use Rattle.thm_item_result.proofs.Reading.{nothing_paired}

-- what is counted

-- each type costs as often as it reaches this number, a constant nothing
abbrev of_look : (TypeRefId → List ℕ) → ℕ → Meter
of_look f k = record { types = λ t. times k (f t); constants = λ c. 0 }

longer : {A : Type 0} {xs ys : List A} → Prefix xs ys → length xs ≤ length ys
longer {xs = xs} p = let l = ap length p.is in let m = length-append xs p.more in omega (arith, l, m)

-- so deep, for this number
types : Sort
types = record {
  View = ℕ × ℕ;
  Deep = λ now final v. length now.types.entries ≤ v.0;
  meter = λ final v. of_look (types_reached final.types.entries v.0) v.1;
  held = λ final v s. named the_types final v.0 s v.1;
  given = λ v s. less v.1 (length s.types.entries);
  deep_before = λ b c final v e deep. let l = longer e.types.entries in omega (arith, l, deep);
}

-- a bound costs what it names
module _ (f : TypeRefId → List ℕ) (k : ℕ) where
  bound_named : (b : TypeBound) → times k (of_bound f b) ≡ a_bound b (of_look f k)
  bound_named (bound.Path t m) = refl
  bound_named (bound.ForLifetime ns t) = refl
  bound_named (bound.Lifetime l) = refl
  bound_named (bound.Use us) = refl
  bound_named bound.Error = refl

-- what is asked costs what it names
asked_named : (f : TypeRefId → List ℕ) (k : ℕ) (ps : List WherePredicate)
    → times k (of_each (asked_by (of_types_alone f)) ps) ≡ asked ps (of_look f k)
asked_named f k [] = refl
asked_named f k (predicate.TypeBound binder t b ∷ ps) =
    let a = times_append k (of_bound f b) (of_each (asked_by (of_types_alone f)) ps) in
    let e = bound_named f k b in
    let r = asked_named f k ps in omega (arith, a, e, r)
asked_named f k (predicate.Lifetime l m ∷ ps) = let r = asked_named f k ps in omega (arith, r)

part_of : {A : Type 0} {now : A → Numbers} {cost : A → Cost} {p : Lowering A} → Correct p (Adds none now)
    → ((a : A) (f : TypeRefId → List ℕ) (k : ℕ) → cost a (of_look f k) ≤ times k (now a (of_types_alone f)))
    → Part types cost p
unfolding types
part_of {now = now} {cost = cost} h le = record {
  counted = λ b c a d is final e v deep.
      let f = types_reached final.types.entries v.0 in
      let row = after_lowering h b a c d is final e in
      let x = (row.earlier the_types v.0 v.0 deep deep).counted v.1 in
      part (cost a (of_look f v.1)) (times v.1 (now a (of_types_alone f))) _ _ _ _ _ _ _ _ x (le a f v.1)
      (asked_named f v.1 b.tracks.generics.where_predicates) (asked_named f v.1 c.tracks.generics.where_predicates);
}
  where
    part : (a n x y u v p q o r : ℕ) → n + ((x + p) + u) ≤ 0 + ((y + q) + v) → a ≤ n → q ≡ r → p ≡ o → a + (o + (x + u)) ≤ r + (y + v)
    part a n x y u v p q o r g h i j = omega (arith, g, h, i, j)

-- its parts

abbrev trait_numbers : Option TraitRef → Numbers
trait_numbers t l = of_present (λ t. l.types t.path) t

stored_adds : (at : Pointer) (p : Option HirPath) → Correct (steps.stored_trait at p) (Adds (maybe_path p) trait_numbers)
stored_adds at None = adds_pure None (λ l k. omega arith)
stored_adds at (Some p) = adds_then (adds_type (ty.Path p) (Some at) (λ l k. omega arith)) (λ id. adds_pure _ (λ l k. omega arith))

trait_adds : (x : Option PathTypeReading) → Correct (steps.lower_trait_ref x) (Adds none trait_numbers)
trait_adds None = adds_pure None (λ l k. omega arith)
trait_adds (Some x) = adds_then (path_adds x.path) (λ r. stored_adds x.pointer r)

self_adds : (borrow : Option Mutability) (l : Option Lifetime) → Correct (steps.self_form borrow l) (Adds none type_numbers)
self_adds None l = adds_then (adds_type _ None (λ l k. omega arith)) (λ self. adds_then (lifetime_option_adds l)
    (λ id. adds_pure self (λ l k. omega arith)))
self_adds (Some m) l = adds_then (adds_type _ None (λ l k. omega arith)) (λ self. adds_then (lifetime_option_adds l)
    (λ id. adds_type _ None (λ l k. omega arith)))

ret_adds : (r : OptionRet) → Correct (steps.present_ret r) (Adds none maybe_numbers)
ret_adds tree.no_ret = adds_pure None (λ l k. omega arith)
ret_adds (tree.some_ret t) = adds_then (part_adds None t) (λ i. adds_pure (Some i) (λ l k. omega arith))

unit_or : (t : Option TypeRefId) → Correct (steps.or_unit t) (Adds (maybe_numbers t) type_numbers)
unit_or None = adds_from (λ l k. omega arith) unit_adds
unit_or (Some t) = adds_pure t (λ l k. omega arith)

-- the path of the trait of a coroutine names what it gives
path_names : (f : TypeRefId → List ℕ) (k : CoroutineKind) (given : TypeRefId) → of_path f (steps.coroutine_path k given) ⊑ f given
path_names f k given n =
    let b = binding_of_parts (steps.given_name k) None (Some given) [] in
    let e = ap (times n) (numbers.args_roll f [] false (b ∷ []) parens.No) in
    let e' = ap (times n) (numbers.binding_roll f (steps.given_name k) None (Some given) []) in
    let x = times_append n (of_args f (steps.given_args k given)) [] in
    let y = times_append n (of_binding f b) [] in
    let z = times_append n (f given) [] in omega arith

coroutine_adds : {was : Numbers} {p : Lowering TypeRefId} (k : CoroutineKind) → Correct p (Adds was type_numbers)
    → Correct (p >>= (λ given. alloc_type (ty.Path (steps.coroutine_path k given)) None
    >>= (λ i. alloc_type (ty.ImplTrait (bound.Path i modifier.None ∷ [])) None))) (Adds was type_numbers)
coroutine_adds k h = adds_then h (λ given. adds_then
    (adds_type _ None (λ l n. let e = path_names l.types k given n in omega arith))
    (λ i. adds_type _ None (λ l n. let e = times_append n (l.types i) [] in omega arith)))

answer_adds : (k : Option CoroutineKind) (t : Option TypeRefId) → Correct (steps.answer_form k t) (Adds (maybe_numbers t) maybe_numbers)
answer_adds None t = adds_pure t (λ l n. omega arith)
answer_adds (Some k) t = adds_then (coroutine_adds k (unit_or t)) (λ i. adds_pure (Some i) (λ l n. omega arith))

output_adds : (k : Option CoroutineKind) (r : OptionRet) → Correct (steps.output_type k r) (Adds none maybe_numbers)
output_adds k r = adds_then (ret_adds r) (λ t. answer_adds k t)

-- what they cost is what they name

module _ (f : TypeRefId → List ℕ) (k : ℕ) where
  present_named : {A : Type 0} (g : A → List ℕ) (o : Option A) → times k (of_present g o) ≡ present (λ a. times k (g a)) o
  present_named g None = refl
  present_named g (Some a) = refl

  each_named : {A : Type 0} (g : A → List ℕ) (c : A → ℕ) → ((a : A) → times k (g a) ≡ c a) → (xs : List A)
      → times k (of_each g xs) ≡ each c xs
  each_named g c h [] = refl
  each_named g c h (x ∷ xs) =
      let a = times_append k (g x) (of_each g xs) in let e = h x in let r = each_named g c h xs in omega (arith, a, e, r)

  constants_free : (o : Option ConstRef) → present (λ c. 0) o ≡ 0
  constants_free None = refl
  constants_free (Some c) = refl

  param_named : (x : TypeOrConstParamData) → times k (named_by_param x f) ≡ a_param x (of_look f k)
  param_named (param.TypeParamData x) = present_named f x.default
  param_named (param.ConstParamData x) = let e = constants_free x.default in omega (arith, e)

  one_named : (i a : Bool) (xs : List ℕ) → times k (if i || a then [] else xs) ≡ unless i (unless a (times k xs))
  one_named true a xs = refl
  one_named false true xs = refl
  one_named false false xs = refl

  module _ (store : Store) (source_map : SourceMap) where
    predicates_named : (seen : List TypeRefId) (ps : List WherePredicate)
        → times k (named_by_predicates store source_map seen ps f) ≡ predicates store source_map seen ps (of_look f k)
    predicates_named seen [] = refl
    predicates_named seen (predicate.TypeBound binder t b ∷ ps) =
        let i = is_of_impl store source_map t in
        let here = if i || among t seen then [] else f t in
        let others = named_by_predicates store source_map (t ∷ seen) ps f in
        let a = times_append k here (of_bound f b ++ others) in
        let x = times_append k (of_bound f b) others in
        let e = one_named i (among t seen) (f t) in
        let y = bound_named f k b in
        let r = predicates_named (t ∷ seen) ps in omega (arith, a, x, e, y, r)
    predicates_named seen (predicate.Lifetime l m ∷ ps) = predicates_named seen ps

    params_named : (xs : List TypeOrConstParamData) (ps : List WherePredicate)
        → times k (named_by_params store source_map xs ps f)
        ≡ params xs (of_look f k) + predicates store source_map [] ps (of_look f k)
    params_named xs ps =
        let a = times_append k (of_each (λ x. named_by_param x f) xs) (named_by_predicates store source_map [] ps f) in
        let e = each_named (λ x. named_by_param x f) (λ x. a_param x (of_look f k)) param_named xs in
        let r = predicates_named [] ps in omega (arith, a, e, r)

  impl_named : (self : TypeRefId) (t : Option TraitRef) → times k (named_by_impl self t f) ≡ by_impl self t (of_look f k)
  impl_named self t =
      let a = times_append k (f self) (of_present (λ t. f t.path) t) in
      let e = present_named (λ t. f t.path) t in omega (arith, a, e)

  alias_named : (bs : List TypeBound) (t : Option TypeRefId) → times k (named_by_alias bs t f) ≡ by_alias bs t (of_look f k)
  alias_named bs t =
      let a = times_append k (of_each (of_bound f) bs) (of_present f t) in
      let e = each_named (of_bound f) (λ b. a_bound b (of_look f k)) (bound_named f k) bs in
      let r = present_named f t in omega (arith, a, e, r)

  function_named : (args : List TypeRefId) (ret : Option TypeRefId)
      → times k (named_by_function args ret f) ≡ by_function args ret (of_look f k)
  function_named args ret =
      let a = times_append k (of_each f args) (of_present f ret) in
      let e = each_named f (λ t. times k (f t)) (λ t. refl) args in
      let r = present_named f ret in omega (arith, a, e, r)

bound_less : (b : TypeBound) (f : TypeRefId → List ℕ) (k : ℕ) → a_bound b (of_look f k) ≤ times k (of_bound f b)
bound_less b f k = let e = bound_named f k b in omega (arith, e)

trait_less : (t : Option TraitRef) (f : TypeRefId → List ℕ) (k : ℕ) → a_trait t (of_look f k) ≤ times k (of_present (λ t. f t.path) t)
trait_less t f k = let e = present_named f k (λ t. f t.path) t in omega (arith, e)

maybe_less : (t : Option TypeRefId) (f : TypeRefId → List ℕ) (k : ℕ) → maybe_type t (of_look f k) ≤ times k (of_present f t)
maybe_less t f k = let e = present_named f k f t in omega (arith, e)

leaves : Leaves types
leaves = record {
  type_is = λ t. part_of (part_adds None t) (λ a f k. omega arith);
  bound_is = λ b. part_of (bound_adds b) bound_less;
  constant_is = λ c. part_of (constant_quiet c) (λ a f k. omega arith);
  lifetime_is = λ l. part_of (lifetime_adds l) (λ a f k. omega arith);
  made_lifetime_is = λ l. part_of (adds_lifetime l None) (λ a f k. omega arith);
  fault_is = λ d. part_of (quiet_report d) (λ a f k. omega arith);
  param_type_is = λ def n. part_of (adds_type (param_type def n) None (λ l n. omega arith)) (λ a f k. omega arith);
  trait_is = λ x. part_of (trait_adds x) trait_less;
  self_is = λ borrow l. part_of (self_adds borrow l) (λ a f k. omega arith);
  output_is = λ k r. part_of (output_adds k r) maybe_less;
}

-- where an item is lowered first

sums : (a p e q z n : ℕ) {w x y b r : ℕ} → a + (p + ((e + (q + z)) + 0)) ≤ 0 + (0 + (0 + n)) → b ≡ a → r ≡ p → w ≡ x + y → x ≡ b + r
    → y ≡ e + q → w + 0 ≤ n
sums a p e q z n g same also h i j = omega (arith, g, same, also, h, i, j)

once : {A : Type 0} {cost : A → Cost} (now : A → Naming)
    → ((a : A) (f : TypeRefId → List ℕ) (k : ℕ) → times k (now a f) ≡ cost a (of_look f k)) → {p : Lowering A} → Counts types free cost p
    → AnswersOnce now p
unfolding types
once {cost = cost} now same h limit new a is depth le =
    let g = to_answer types h (new_builder limit) new a (nothing_paired limit) is in
    let f = types_reached new.stored.types.entries depth in
    let l = of_types_alone f in
    let s = store_of new.stored in
    let m = map_of new.stored in
    let lists = new.tracks.generics in
    let params = named_by_params s m lists.type_or_consts lists.where_predicates f in
    let exprs = of_exprs l new.stored.exprs.entries in
    let pats = of_pats l new.stored.pats.entries in
    counted_spread 0 (length new.stored.types.entries) ((now a f ++ params) ++ (exprs ++ pats)) (λ k.
    sums (cost a (of_look f k)) (tracked new.stored new.tracks (of_look f k)) (times k exprs) (times k pats) _ _
    (g.counted new.stored (extends_refl new.stored) (depth, k) le) (same a f k)
    (params_named f k s m lists.type_or_consts lists.where_predicates) (times_append k (now a f ++ params) (exprs ++ pats))
    (times_append k (now a f) params) (times_append k exprs pats))

pub generics_once : GenericsOnce
generics_once def g = once (λ a. none_named) (λ a f k. refl) (generics_count types leaves def g)

pub traits_once : TraitsOnce
traits_once def x = once (λ a. none_named) (λ a f k. refl) (trait_counts types leaves def x)

pub impls_once : ImplsOnce
impls_once def x = once (λ a. named_by_impl a.0 a.1) (λ a f k. impl_named f k a.0 a.1) (impl_counts types leaves def x)

pub aliases_once : AliasesOnce
aliases_once def x = once (λ a. named_by_alias a.0 a.1) (λ a f k. alias_named f k a.0 a.1) (alias_counts types leaves def x)

pub functions_once : FunctionsOnce
functions_once def x = once (λ a. named_by_function a.args a.ret) (λ a f k. function_named f k a.args a.ret)
    (function_counts types leaves def x)
