-- Each binding has the patterns that make it, while patterns and bindings come.
use Rattle.std.proofs.Common.{arith, ◌≡◌, ◌∙◌, refl, sym, ap, subst, ℕ, zero, suc, ◌+◌, ◌<◌, nat_eq, Bool, true, false, if◌then◌else◌}
use Rattle.std.proofs.Common.{List, [], ◌∷◌, ◌++◌, append_assoc, append-nil, length, length-append, Option, Some, is_some, true≢false}
use Rattle.std.proofs.Common.{◌⊎◌, inl, inr, ⊎_elim, slice_get}
use Rattle.std.proofs.lemmas.Bool.{eqb-true, eq-eqb}
use Rattle.std.proofs.lemmas.Option.{same_Some}
use Rattle.hir_store.specs.Pointers.{Pointer}
use Rattle.hir_store.specs.Bindings.{at_place, pattern_added}
use Rattle.hir_store.specs.Stored.{Stored}
use Rattle.hir_store.specs.StoreSink.{pat_id}
use Rattle.hir_store.specs.declared.ids.BindingId.{BindingId}
use Rattle.hir_store.specs.declared.ids.PatId.{PatId}
use Rattle.hir_store.specs.declared.pat.Binding.{Binding}
use Rattle.hir_store.specs.declared.pat.Pat.{Pat}
use Rattle.hir_store.specs.declared.pat.Pat.TheVariants as pat
use Rattle.hir_store.proofs.BindingLemmas.{length_at}
use Rattle.thm_logic.proofs.PatSteps.{defining, with_new_binding, with_pat}
use Rattle.thm_body_result.specs.Definitions.{made_here, makers}
use Rattle.thm_body_result.specs.Theorems.{Defined}

-- a pattern that makes no binding
abbrev pub MakesNone : Pat → Type 0
MakesNone (pat.Bind b sub) = ⊥
MakesNone p = Unit {0}

makes_none : (p : Pat) → MakesNone p → (b : BindingId) (n : ℕ) → made_here b n p ≡ []
makes_none (pat.Bind c sub) h b n = absurd h
makes_none p h b n = refl

-- what is found in a list with one more at its end
found_push : {A : Type 0} (xs : List A) (x : A) (n : ℕ) (y : A) → slice_get (xs ++ x ∷ []) n ≡ Some y
    → (slice_get xs n ≡ Some y) ⊎ ((n ≡ length xs) × (x ≡ y))
found_push [] x zero y h = inr (refl, same_Some x y h)
found_push [] x (suc n) y h = absurd (true≢false (sym (ap is_some h)))
found_push (z ∷ xs) x zero y h = inl h
found_push (z ∷ xs) x (suc n) y h = ⊎_elim (λ a. inl a) (λ b. inr (ap suc b.0, b.1)) (found_push xs x n y h)

further : (n : ℕ) (k : ℕ) → suc n + k ≡ n + suc k
further n k = omega arith

makers_push : (b : BindingId) (n : ℕ) (xs : List Pat) (p : Pat) → makers b n (xs ++ p ∷ []) ≡ makers b n xs ++ made_here b (n + length xs) p
makers_push b n [] p = append-nil _ ∙ ap (λ k. made_here b k p) (let e : n ≡ n + 0 = omega arith in e)
makers_push b n (x ∷ xs) p =
    ap (λ ys. made_here b n x ++ ys) (makers_push b (suc n) xs p ∙ ap (λ k. makers b (suc n) xs ++ made_here b k p) (further n (length xs)))
    ∙ sym (append_assoc (made_here b n x) (makers b (suc n) xs) (made_here b (n + suc (length xs)) p))

-- those of all, with one more
makers_end : (b : BindingId) (xs : List Pat) (p : Pat) → makers b 0 (xs ++ p ∷ []) ≡ makers b 0 xs ++ made_here b (length xs) p
makers_end b xs p =
    makers_push b 0 xs p ∙ ap (λ k. makers b 0 xs ++ made_here b k p) (let e : 0 + length xs ≡ length xs = omega arith in e)

-- where no pattern makes the binding
none_make : (b : BindingId) (n : ℕ) (xs : List Pat)
    → ((k : ℕ) (c : BindingId) (sub : Option PatId) → slice_get xs k ≡ Some (pat.Bind c sub) → c.0 < b.0) → makers b n xs ≡ []
none_make b n [] h = refl
none_make b n (x ∷ xs) h =
    ap (λ ys. ys ++ makers b (suc n) xs) (by x (λ c sub e. h 0 c sub (ap Some e))) ∙ none_make b (suc n) xs (λ k. h (suc k))
  where
    other : (c : BindingId) (t : Bool) → nat_eq c.0 b.0 ≡ t → c.0 < b.0 → (if t then pat_id n ∷ [] else []) ≡ []
    other c true e lt = let same = eqb-true c.0 b.0 e in absurd (omega (arith, same, lt))
    other c false e lt = refl

    by : (p : Pat) → ((c : BindingId) (sub : Option PatId) → p ≡ pat.Bind c sub → c.0 < b.0) → made_here b n p ≡ []
    by (pat.Bind c sub) f = other c (nat_eq c.0 b.0) refl (f c sub refl)
    by p f = makes_none p tt b n

module _ (s : Stored) (d : Defined s) where
  -- a pattern more that makes none
  pub defined_pat : (p : Pat) (source : Option Pointer) → MakesNone p → Defined (with_pat p source s)
  defined_pat p source none = record {
    as_many = d.as_many;
    each = λ b ps e. d.each b ps e ∙ sym (makers_end b s.pats.entries p
        ∙ (ap (λ ys. makers b 0 s.pats.entries ++ ys) (makes_none p none b (length s.pats.entries)) ∙ append-nil _));
    known = λ n b sub e. ⊎_elim (λ old. d.known n b sub old) (λ new. absurd (subst MakesNone new.1 none))
        (found_push s.pats.entries p n (pat.Bind b sub) e);
  }

  -- a binding more, which no pattern makes
  pub defined_binding : (x : Binding) → Defined (with_new_binding x s)
  defined_binding x =
      let ds = length-append s.bindings.definitions ([] ∷ []) in
      let bs = length-append s.bindings.entries (x ∷ []) in
      let many = d.as_many in
      record {
        as_many = omega (arith, ds, bs, many);
        each = λ b ps e. ⊎_elim (λ old. d.each b ps old)
            (λ new. sym new.1 ∙ sym (none_make b 0 s.pats.entries (λ k c sub f.
            let below = d.known k c sub f in let at = new.0 in omega (arith, below, at, many))))
            (found_push s.bindings.definitions [] b.0 ps e);
        known = λ n b sub e. let below = d.known n b sub e in omega (arith, below, bs);
      }

-- what stands at a place where something was written
at_same : {A : Type 0} (n : ℕ) (f : A → A) (xs : List A) (y : A) → slice_get (at_place n f xs) n ≡ Some y
    → (x : A) × (slice_get xs n ≡ Some x) × (y ≡ f x)
at_same n f [] y h = absurd (true≢false (sym (ap is_some h)))
at_same zero f (x ∷ xs) y h = (x, refl, sym (same_Some (f x) y h))
at_same (suc n) f (x ∷ xs) y h = at_same n f xs y h

smaller : (n m : ℕ) → nat_eq (suc n) (suc m) ≡ false → nat_eq n m ≡ false
smaller n m e = by (nat_eq n m) refl
  where
    by : (t : Bool) → nat_eq n m ≡ t → nat_eq n m ≡ false
    by true h = absurd (true≢false (sym (eq-eqb (suc n) (suc m) (ap suc (eqb-true n m h))) ∙ e))
    by false h = h

pub at_other : {A : Type 0} (n m : ℕ) (f : A → A) (xs : List A) → nat_eq n m ≡ false → slice_get (at_place n f xs) m ≡ slice_get xs m
at_other n m f [] e = refl
at_other zero zero f (x ∷ xs) e = absurd (true≢false e)
at_other zero (suc m) f (x ∷ xs) e = refl
at_other (suc n) zero f (x ∷ xs) e = refl
at_other (suc n) (suc m) f (x ∷ xs) e = at_other n m f xs (smaller n m e)

-- a pattern more, which makes this binding
pub defined_bind : (s : Stored) → Defined s → (b : BindingId) (sub : Option PatId) (source : Option Pointer) (i : PatId)
    → i.0 ≡ length s.pats.entries → b.0 < length s.bindings.entries → Defined (defining b i (with_pat (pat.Bind b sub) source s))
defined_bind s d b sub source i number below = record {
  as_many = length_at b.0 (pattern_added i) s.bindings.definitions ∙ d.as_many;
  each = λ c ps e. by c ps (nat_eq b.0 c.0) refl e
      ∙ sym (makers_end c s.pats.entries (pat.Bind b sub));
  known = λ n c other e. ⊎_elim (λ old. d.known n c other old) (λ new. let at : b ≡ c = same_bind new.1 in
      subst (λ k. k.0 < length s.bindings.entries) at below) (found_push s.pats.entries (pat.Bind b sub) n (pat.Bind c other) e);
}
  where
    same_bind : {b c : BindingId} {p q : Option PatId} → pat.Bind b p ≡ pat.Bind c q → b ≡ c
    same_bind {b = b} e = ap (λ p. of p) e
      where
        of : Pat → BindingId
        of (pat.Bind c q) = c
        of p = b

    same_number : i ≡ pat_id (length s.pats.entries)
    same_number = λ k. record { 0 = number k }

    by : (c : BindingId) (ps : List PatId) (t : Bool) → nat_eq b.0 c.0 ≡ t
        → slice_get (at_place b.0 (pattern_added i) s.bindings.definitions) c.0 ≡ Some ps
        → ps ≡ makers c 0 s.pats.entries ++ (if t then pat_id (length s.pats.entries) ∷ [] else [])
    by c ps true e h =
        let at = eqb-true b.0 c.0 e in
        let was = at_same c.0 (pattern_added i) s.bindings.definitions ps
        (subst (λ n. slice_get (at_place n (pattern_added i) s.bindings.definitions) c.0 ≡ Some ps) at h) in
        was.2 ∙ (ap (λ ys. ys ++ i ∷ []) (d.each c was.0 was.1) ∙ ap (λ j. makers c 0 s.pats.entries ++ j ∷ []) same_number)
    by c ps false e h =
        d.each c ps (sym (at_other b.0 c.0 (pattern_added i) s.bindings.definitions e) ∙ h) ∙ sym (append-nil _)
