-- What lowering an item stores of types and lifetimes reads back as its parts say: a walk.
use Rattle.std.proofs.Common.{◌≡◌, ◌∙◌, refl, sym, subst, List, [], ◌∷◌, ◌++◌, append-nil, append_assoc, Option, Some, None}
use Rattle.std.specs.Prelude.{option_map}
use Rattle.hir_store.specs.Stored.{Stored}
use Rattle.hir_store.specs.declared.generics.WherePredicate.{WherePredicate}
use Rattle.hir_store.specs.declared.hir.CoroutineKind.{CoroutineKind}
use Rattle.hir_store.specs.declared.hir.Mutability.{Mutability}
use Rattle.hir_store.specs.declared.ids.TypeRefId.{TypeRefId}
use Rattle.hir_store.specs.declared.type_ref.TraitBoundModifier.TheVariants as modifier
use Rattle.hir_store.specs.declared.type_ref.TypeBound.TheVariants as bound
use Rattle.hir_store.specs.declared.type_ref.TypeRef.{TypeRef}
use Rattle.hir_store.specs.declared.type_ref.TypeRef.TheVariants as type
use Rattle.hir_store.proofs.Extending.{extends_refl}
use Rattle.hir_env.specs.declared.ctx.LifetimeScope.TheVariants as scope
use Rattle.hir_env.specs.ResolvedTree as tree
use Rattle.hir_env.specs.ResolvedTree.{Lifetime, OptionType}
use Rattle.spec_data.specs.Data.{Shape, TypeData, no_types, path_shape, tuple_shape, typed}
use Rattle.spec_data.specs.Reading.{Readers}
use Rattle.spec_data.specs.Written.{lifetime_data, unit_data, written_type}
use Rattle.hir_lower_builder.specs.Builder.{new_builder}
use Rattle.hir_lower_builder.specs.Generics.{naming, with_predicate}
use Rattle.hir_lower_builder.specs.declared.generics.SideOutput.{SideOutput}
use Rattle.hir_lower_builder.specs.Lowering.{Lowering, ◌>>=◌, add_predicate, alloc_type, track_down}
use Rattle.hir_lower_builder.specs.Lower.{type_part}
use Rattle.hir_lower_builder.specs.Types.{unit_type}
use Rattle.hir_lower_item.specs.Lower as steps
use Rattle.thm_logic.proofs.Tracked.{correct_tracked}
use Rattle.thm_logic.proofs.Steps.{Correct}
use Rattle.thm_round_trip.proofs.Layers.{Reads, a_shape, a_type, type0}
use Rattle.thm_round_trip.proofs.Tree.{part_reads}
use Rattle.thm_round_trip.proofs.Types.{unit_type_reads}
use Rattle.thm_logic.specs.Grades.{grade_part}
use Rattle.thm_logic.specs.Grading.{grade_lifetime}
use Rattle.thm_body_result.specs.StoredData.{StoredData, and_then, no_data, stored_data}
use Rattle.thm_body_result.proofs.AsStoredData.{added, data_graded}
use Rattle.thm_body_result.proofs.ReadingBack.{type_in_store}
use Rattle.thm_body_result.proofs.StoreSink.{Stores, pure_stores, stores_then}
use Rattle.thm_logic.proofs.GradedTree.{bound_graded, part_graded, type_graded}
use Rattle.thm_logic.proofs.GradedTypes as forms
use Rattle.thm_item_result.specs.Answers.{borrowed_data, coroutine_path_data, coroutine_shape, self_data}
use Rattle.thm_item_result.specs.Parts as part
use Rattle.thm_item_result.specs.Parts.{Part, alias_parts, coroutine_parts, function_parts, generics_parts, impl_parts}
use Rattle.thm_item_result.specs.Parts.{self_parts, trait_parts, type_parts}
use Rattle.thm_item_result.specs.Stored.{AddsData, FirstItemsStore, ItemsStore, StoresFirst, data_of_item}
use Rattle.thm_item_result.specs.Emitted.{grade_item_part}
use Rattle.thm_item_result.proofs.Items.{items_walked}
use Rattle.thm_item_result.proofs.Reading.{bind_assoc, nothing_paired}
use Rattle.thm_item_result.proofs.ReadsBack.{coroutine_reads, given_path_reads, self_reads}
use Rattle.thm_item_result.proofs.Steps.{correct_lifetime_param, correct_param}
use Rattle.thm_item_result.proofs.Emitted.{constant_graded, trait_graded}
use Rattle.thm_item_result.proofs.Walk.{Walk, coroutine_of}

-- lists

then_nothing : (d : StoredData) → and_then d no_data ≡ d
then_nothing d = λ j. record { types = append-nil d.types j; lifetimes = append-nil d.lifetimes j }

then_all : (d e f : StoredData) → and_then (and_then d e) f ≡ and_then d (and_then e f)
then_all d e f = λ j. record {
  types = append_assoc d.types e.types f.types j;
  lifetimes = append_assoc d.lifetimes e.lifetimes f.lifetimes j;
}

data_append : (xs ys : List Part) → data_of_item (xs ++ ys) ≡ and_then (data_of_item xs) (data_of_item ys)
data_append [] ys = refl
data_append (x ∷ xs) ys = let d = grade_item_part stored_data x in
    (λ j. and_then d (data_append xs ys j)) ∙ sym (then_all d (data_of_item xs) (data_of_item ys))

type_parts_are : (t : OptionType) → data_of_item (type_parts t) ≡ grade_part stored_data t
type_parts_are tree.no_type = refl
type_parts_are (tree.some_type t) = then_nothing (grade_part stored_data (tree.some_type t))

-- steps

record StoresParts {A : Type 0} (xs : List Part) (p : Lowering A) : Type 1 where
  claim : Correct p (Stores (data_of_item xs))

stores_as : {A : Type 0} {p : Lowering A} {d e : StoredData} → d ≡ e → Correct p (Stores d) → Correct p (Stores e)
stores_as {p = p} e h = subst (λ d. Correct p (Stores d)) e h

one : {A : Type 0} {x : Part} {p : Lowering A} → Correct p (Stores (grade_item_part stored_data x)) → StoresParts (x ∷ []) p
one {x = x} h = record { claim = stores_as (sym (then_nothing (grade_item_part stored_data x))) h }

next : {A B : Type 0} {xs ys : List Part} {p : Lowering A} {f : A → Lowering B} → StoresParts xs p → ((a : A) → StoresParts ys (f a))
    → StoresParts (xs ++ ys) (p >>= f)
next {xs = xs} {ys = ys} h k =
    record { claim = stores_as (sym (data_append xs ys)) (stores_then h.claim (λ a. (k a).claim)) }

tracked : (f : SideOutput → SideOutput) → StoresParts [] (track_down f)
unfolding track_down
tracked f = record { claim = correct_tracked f (pure_stores tt) }

predicate : (x : WherePredicate) → StoresParts [] (add_predicate x)
unfolding add_predicate
predicate x = tracked (with_predicate x)

-- what one type reads back as
abbrev of_type : TypeData → StoredData
of_type x = record { types = x ∷ []; lifetimes = [] }

-- what reads back so by itself
made : (t : TypeRef) (shape : Shape) → ((final : Stored) (r : Readers) → a_shape final r t ≡ shape)
    → Correct (alloc_type t None) (Stores (of_type (typed None shape)))
made t shape e = data_graded.type_made_is (type_in_store (type0 t None e)) (data_graded.type_is t None shape)

-- `self`

bare_self : (l : Option Lifetime)
    → and_then (of_type self_data) (and_then (grade_lifetime stored_data l) no_data) ≡ data_of_item (self_parts None l)
bare_self None = refl
bare_self (Some l) = refl

borrowed_self : (m : Mutability) (l : Option Lifetime)
    → and_then (of_type self_data) (and_then (grade_lifetime stored_data l) (of_type (borrowed_data (Some m) (option_map lifetime_data l))))
    ≡ data_of_item (self_parts (Some m) l)
borrowed_self m None = refl
borrowed_self m (Some l) = refl

self_stores : (borrow : Option Mutability) (l : Option Lifetime) → StoresParts (self_parts borrow l) (steps.self_form borrow l)
self_stores None l = record {
  claim = stores_as (bare_self l) (stores_then (made steps.self_path _ (λ final r. refl)) (λ self.
      stores_then (forms.lifetime_option_graded data_graded l) (λ id. pure_stores self)));
}
self_stores (Some m) l = record {
  claim = stores_as (borrowed_self m l) (data_graded.type_made_is (type_in_store (self_reads (Some m) l))
      (data_graded.makes_type_is (made steps.self_path _ (λ final r. refl)) (λ self.
      data_graded.makes_type_is (forms.lifetime_option_graded data_graded l) (λ id. data_graded.type_is _ None _))));
}

-- coroutines

module _ (k : CoroutineKind) where
  abbrev the_path : TypeData → StoredData
  the_path x = of_type (typed None (path_shape (coroutine_path_data k x)))

  abbrev the_impl : TypeData → StoredData
  the_impl x = of_type (typed None (coroutine_shape k x))

  coroutine_stores : {x : TypeData} {d : StoredData} {p : Lowering TypeRefId} → Correct p (Reads a_type x) → Correct p (Stores d)
      → Correct (p >>= coroutine_of k) (Stores (and_then d (data_of_item (coroutine_parts k x))))
  coroutine_stores {x = x} {d = d} {p = p} h is =
      let path : TypeRefId → Lowering TypeRefId = λ given. alloc_type (type.Path (steps.coroutine_path k given)) None in
      let made_of : TypeRefId → Lowering TypeRefId = λ i. alloc_type (type.ImplTrait (bound.Path i modifier.None ∷ [])) None in
      let first : Correct (p >>= path) (Stores (and_then d (the_path x))) =
      data_graded.type_made_is (type_in_store (given_path_reads k h))
      (data_graded.makes_type_is is (λ given. data_graded.type_is _ None _)) in
      let reads = subst (λ q. Correct q (Reads a_type (typed None (coroutine_shape k x)))) (sym (bind_assoc p path made_of))
      (coroutine_reads k h) in
      let all : Correct ((p >>= path) >>= made_of) (Stores (and_then (and_then d (the_path x)) (the_impl x))) =
      data_graded.type_made_is (type_in_store reads) (data_graded.makes_type_is first (λ i. data_graded.type_is _ None _)) in
      stores_as (then_all d (the_path x) (the_impl x))
      (subst (λ q. Correct q (Stores (and_then (and_then d (the_path x)) (the_impl x)))) (bind_assoc p path made_of) all)

  given_stores : (t : OptionType) → StoresParts (type_parts t ++ coroutine_parts k (written_type t)) (type_part None t >>= coroutine_of k)
  given_stores t = record {
    claim = stores_as (sym (data_append (type_parts t) (coroutine_parts k (written_type t))))
        (coroutine_stores (part_reads None t) (stores_as (sym (type_parts_are t)) (part_graded data_graded None t)));
  }

  unit_stores : StoresParts (part.type_made (tuple_shape no_types) ∷ coroutine_parts k unit_data) (unit_type >>= coroutine_of k)
  unfolding unit_type
  unit_stores = record { claim = coroutine_stores unit_type_reads (made (type.Tuple []) _ (λ final r. refl)) }

-- the walk

store_sink : Walk
store_sink = record {
  Reads = λ xs p. StoresParts xs p;
  Claim = λ xs p. Correct p (Stores (data_of_item xs));
  whole = λ h. h.claim;
  none = λ a. record { claim = pure_stores a };
  next = λ h k. next h k;
  predicate = predicate;
  named_in_bound = λ l. tracked (naming scope.Bound l);
  type_is = λ t. one (type_graded data_graded None t);
  made_is = λ t shape h e. one (made t shape e);
  bound_is = λ b. one (bound_graded data_graded b);
  trait_is = λ at p. one (trait_graded data_graded at p);
  constant_is = λ c. one (constant_graded data_graded c);
  lifetime_is = λ l. one (forms.lifetime_graded data_graded l);
  made_lifetime_is = λ l. one (data_graded.lifetime_is l None);
  fault_is = λ d. one (data_graded.fault_is d);
  param_is = λ x. one (correct_param x (λ k. pure_stores k));
  lifetime_param_is = λ x. one (correct_lifetime_param x (pure_stores tt));
  self_is = self_stores;
  coroutine_is = λ k t. given_stores k t;
  unit_coroutine_is = λ k. unit_stores k;
}

-- theorems

pub items_store : ItemsStore
unfolding store_sink
items_store def = let h = items_walked store_sink def in (
  λ g b c a paired is. added (h.0 g) b c a paired is,
  λ x b c a paired is. added (h.1 x) b c a paired is,
  λ x b c a paired is. added (h.2 x) b c a paired is,
  λ x b c a paired is. added (h.3 x) b c a paired is,
  λ x b c a paired is. added (h.4 x) b c a paired is,
)

first : {A : Type 0} (xs : List Part) {p : Lowering A} → AddsData xs p → StoresFirst xs p
first xs h limit new a is = let d = h (new_builder limit) new a (nothing_paired limit) is in let same = extends_refl new.stored in
    record { types = d.types new.stored same; lifetimes = d.lifetimes new.stored same }

pub first_items_store : FirstItemsStore
first_items_store def = let h = items_store def in (
  λ g. first (generics_parts def g) (h.0 g),
  λ x. first (trait_parts def x) (h.1 x),
  λ x. first (impl_parts def x) (h.2 x),
  λ x. first (alias_parts def x) (h.3 x),
  λ x. first (function_parts def x) (h.4 x),
)
