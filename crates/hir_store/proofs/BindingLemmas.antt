-- What bindings keep as they grow.
use Rattle.std.proofs.Common.{arith, ℕ, zero, suc, ◌≤◌, ◌<◌, ◌≡◌, ◌∙◌, ap, refl, sym}
use Rattle.std.proofs.Common.{List, [], ◌∷◌, ◌++◌, length, length-append, append-nil, Option, Some, None}
use Rattle.std.specs.Prelude.{map, slice_get, slice_set, Result, Ok, Err, OnOk, OnErr}
use Rattle.std.proofs.lemmas.Option.{same_Some}
use Rattle.hir_store.specs.declared.error.StoreError.TheVariants.{Full}
use Rattle.hir_store.specs.declared.ids.BindingId.{BindingId}
use Rattle.hir_store.specs.declared.ids.ExprId.{ExprId}
use Rattle.hir_store.specs.declared.ids.PatId.{PatId}
use Rattle.hir_store.specs.declared.pat.Binding.{Binding}
use Rattle.hir_binding.specs.declared.binding.BindingProblems.{BindingProblems}
use Rattle.hir_store.specs.Arenas.{past}
use Rattle.hir_store.specs.Bindings.{Bindings, BindingsContinue, EachGoesOn, AddsBinding, KeptBindings}
use Rattle.hir_store.specs.Bindings.{at_place, pattern_added, problem_set, without_problem}
use Rattle.hir_store.specs.Bindings.{binding_id, with_binding, with_definition, with_owner, with_problem}
use Rattle.hir_store.proofs.Arenas.{prefix_refl, prefix_push, prefix_trans, room, no_room}
use Rattle.hir_store.proofs.OwnerLemmas.{length_owned, stay_more, stay_owned, stay_refl, stay_trans}

pub length_at : {A : Type 0} (n : ℕ) (f : A → A) (xs : List A) → length (at_place n f xs) ≡ length xs
length_at n f [] = refl
length_at zero f (x ∷ xs) = refl
length_at (suc n) f (x ∷ xs) = ap suc (length_at n f xs)

-- what is forgotten of an entry doesn't change where nothing else of it does
pub map_at : {A B : Type 0} (g : A → B) (n : ℕ) (f : A → A) (xs : List A) → ((x : A) → g (f x) ≡ g x)
    → map g (at_place n f xs) ≡ map g xs
map_at g n f [] h = refl
map_at g zero f (x ∷ xs) h = ap (λ y. y ∷ map g xs) (h x)
map_at g (suc n) f (x ∷ xs) h = ap (λ ys. g x ∷ ys) (map_at g n f xs h)

pub past_at : {A : Type 0} (g : A → ℕ) (n : ℕ) (f : A → A) (xs : List A) (m : ℕ)
    → ((x : A) → g x ≤ m → g (f x) ≤ m) → past g xs ≤ m → past g (at_place n f xs) ≤ m
past_at g n f [] m h k = k
past_at g zero f (x ∷ xs) m h k = let first = h x (omega (arith, k)) in omega (arith, first, k)
past_at g (suc n) f (x ∷ xs) m h k = let others = past_at g n f xs m h (omega (arith, k)) in omega (arith, others, k)

-- what is written at a place, where it comes from what stood there
pub set_read : {A : Type 0} (n : ℕ) (f : A → A) (xs : List A) (x : A) → slice_get xs n ≡ Some x
    → slice_set xs n (f x) ≡ at_place n f xs
set_read n f [] x h = refl
set_read zero f (y ∷ xs) x h = ap (λ z. f z ∷ xs) (sym (same_Some y x h))
set_read (suc n) f (y ∷ xs) x h = ap (λ zs. y ∷ zs) (set_read n f xs x h)

set_same : {A : Type 0} (n : ℕ) (xs : List A) (x : A) → slice_get xs n ≡ Some x → slice_set xs n x ≡ xs
set_same n [] x h = refl
set_same zero (y ∷ xs) x h = ap (λ z. z ∷ xs) (sym (same_Some y x h))
set_same (suc n) (y ∷ xs) x h = ap (λ zs. y ∷ zs) (set_same n xs x h)

-- the list at this place, once a pattern was added to it, or nothing where memory was refused
module _ {E : Type 0} (n : ℕ) (p : PatId) (xss : List (List PatId)) (was now : List PatId) (read : slice_get xss n ≡ Some was) where
  pub added_at : (r : Result (Unit {0}) E) → OnOk r (now ≡ was ++ p ∷ []) → OnOk r (slice_set xss n now ≡ at_place n (pattern_added p) xss)
  added_at (Ok u) h = ap (slice_set xss n) h ∙ set_read n (pattern_added p) xss was read
  added_at (Err e) h = tt

  pub same_at : (r : Result (Unit {0}) E) → OnErr r (now ≡ was) → OnErr r (slice_set xss n now ≡ xss)
  same_at (Ok u) h = tt
  same_at (Err e) h = ap (slice_set xss n) h ∙ set_same n xss was read

map_append : {A B : Type 0} (g : A → B) (xs ys : List A) → map g (xs ++ ys) ≡ map g xs ++ map g ys
map_append g [] ys = refl
map_append g (x ∷ xs) ys = ap (λ zs. g x ∷ zs) (map_append g xs ys)

-- what stays

each_refl : {A : Type 0} (xss : List (List A)) → EachGoesOn xss xss
each_refl [] = tt
each_refl (xs ∷ xss) = (prefix_refl xs, each_refl xss)

each_trans : {A : Type 0} (xss yss zss : List (List A)) → EachGoesOn xss yss → EachGoesOn yss zss → EachGoesOn xss zss
each_trans [] yss zss g h = tt
each_trans (xs ∷ xss) [] zss g h = absurd g
each_trans (xs ∷ xss) (ys ∷ yss) [] g h = absurd h
each_trans (xs ∷ xss) (ys ∷ yss) (zs ∷ zss) g h = (prefix_trans g.0 h.0, each_trans xss yss zss g.1 h.1)

each_more : {A : Type 0} (xss : List (List A)) (xs : List A) → EachGoesOn xss (xss ++ xs ∷ [])
each_more [] xs = tt
each_more (ys ∷ xss) xs = (prefix_refl ys, each_more xss xs)

each_at : (n : ℕ) (x : PatId) (xss : List (List PatId)) → EachGoesOn xss (at_place n (pattern_added x) xss)
each_at n x [] = tt
each_at zero x (xs ∷ xss) = (prefix_push xs x, each_refl xss)
each_at (suc n) x (xs ∷ xss) = (prefix_refl xs, each_at n x xss)

pub bindings_refl : (a : Bindings) → BindingsContinue a a
bindings_refl a =
    record { entries = prefix_refl _; definitions = each_refl a.definitions; owners = stay_refl a.owners; limit = refl }

pub bindings_trans : {a b c : Bindings} → BindingsContinue a b → BindingsContinue b c → BindingsContinue a c
bindings_trans {a} {b} {c} g h = record {
  entries = prefix_trans g.entries h.entries;
  definitions = each_trans a.definitions b.definitions c.definitions g.definitions h.definitions;
  owners = stay_trans a.owners b.owners c.owners g.owners h.owners;
  limit = h.limit ∙ g.limit;
}

bindings_more : (a : Bindings) (x : Binding) → BindingsContinue a (with_binding a x)
bindings_more a x = record {
  entries = record { more = without_problem x ∷ []; is = map_append without_problem a.entries (x ∷ []) };
  definitions = each_more a.definitions [];
  owners = stay_more a.owners None;
  limit = refl;
}

pub bindings_definition : (a : Bindings) (id : BindingId) (p : PatId) → BindingsContinue a (with_definition a id p)
bindings_definition a id p =
    record { entries = prefix_refl _; definitions = each_at id.0 p a.definitions; owners = stay_refl a.owners; limit = refl }

pub bindings_problem : (a : Bindings) (id : BindingId) (problem : Option BindingProblems) → BindingsContinue a (with_problem a id problem)
bindings_problem a id problem = record {
  entries = record {
    more = [];
    is = map_at without_problem id.0 (problem_set problem) a.entries (λ b. refl) ∙ sym (append-nil _);
  };
  definitions = each_refl a.definitions;
  owners = stay_refl a.owners;
  limit = refl;
}

pub bindings_owner : (a : Bindings) (start : BindingId) (id : ExprId) → BindingsContinue a (with_owner a start id)
bindings_owner a start id = record {
  entries = prefix_refl _;
  definitions = each_refl a.definitions;
  owners = stay_owned start.0 id a.owners;
  limit = refl;
}

-- what is kept

pub kept_binding : (a : Bindings) (x : Binding) → KeptBindings a → length a.entries < a.limit → KeptBindings (with_binding a x)
kept_binding a x h room =
    let l = length-append a.entries (x ∷ []) in
    let d = length-append a.definitions ([] ∷ []) in
    let o = length-append a.owners (None ∷ []) in
    let m = h.as_many in
    let n = h.as_many_owners in
    record { as_many = omega (arith, l, d, m); as_many_owners = omega (arith, l, o, n); fits = omega (arith, l, room) }

pub kept_definition : (a : Bindings) (id : BindingId) (p : PatId) → KeptBindings a → KeptBindings (with_definition a id p)
kept_definition a id p h =
    record {
      as_many = length_at id.0 (pattern_added p) a.definitions ∙ h.as_many;
      as_many_owners = h.as_many_owners;
      fits = h.fits;
    }

pub kept_problem : (a : Bindings) (id : BindingId) (problem : Option BindingProblems) → KeptBindings a
    → KeptBindings (with_problem a id problem)
kept_problem a id problem h =
    let l = length_at id.0 (problem_set problem) a.entries in
    let m = h.as_many in
    let n = h.as_many_owners in
    let f = h.fits in
    record { as_many = omega (arith, l, m); as_many_owners = omega (arith, l, n); fits = omega (arith, l, f) }

pub kept_owner : (a : Bindings) (start : BindingId) (id : ExprId) → KeptBindings a → KeptBindings (with_owner a start id)
kept_owner a start id h =
    record { as_many = h.as_many; as_many_owners = length_owned start.0 id a.owners ∙ h.as_many_owners; fits = h.fits }

-- outcomes

pub adds : (a : Bindings) (x : Binding) → length a.entries < a.limit
    → AddsBinding x a (Ok (binding_id (length a.entries))) (with_binding a x)
adds a x h = (room (length a.entries) a.limit _ _ h, bindings_more a x, refl, refl)
