-- The sums decide the rule.
use Rattle.std.proofs.Common.{◌≡◌, ℕ, Bool, true, false, not, refl, sym, ◌∙◌, ap, ◌||◌, ◌&&◌, List, [], ◌∷◌, ◌++◌, Some, None, nat_eq}
use Rattle.std.proofs.Common.{if◌then◌else◌, ◌⊎◌, inl, inr, MatchBool}
use Rattle.hir_binding.specs.declared.binding.BindingAnnotation.{BindingAnnotation}
use Rattle.hir_binding.specs.declared.binding.BindingAnnotation.TheVariants.{Unannotated, Mutable, Ref, RefMut}
use Rattle.hir_binding.specs.Uses.{Uses, name_use, product, alternatives, Parts, no_parts, more_parts}
use Rattle.hir_binding.specs.Steps.{same_mode}
use Rattle.hir_binding.specs.Rule.{Binds, BindsInSome, BindsInEach, BindsAs, BindsAsInSome, HasOneMode, BindsInOneAtMost, BindsOnce}
use Rattle.hir_binding.specs.Rule.{BindsOnceInEach, BindsAcrossAll, BindsAcrossAllInEach}
use Rattle.hir_binding.proofs.Summary.{binds, binds_some, modes, modes_of, twice, twice_in, twice_each, differ, partly, partly_in}
use Rattle.hir_binding.proofs.Summary.{partly_first, partly_later, clash}
use Rattle.std.proofs.lemmas.Bool.Decides.{eqb_tells}

-- a fault: where it is true the fact fails
abbrev pub Denies : Bool → Type 0 → Type 0
Denies b P = MatchBool b (¬ P) P

-- a test: where it is true the fact holds
abbrev pub Emits : Bool → Type 0 → Type 0
Emits b P = MatchBool b P (¬ P)

emits_or : (P Q : Type 0) (x y : Bool) → Emits x P → Emits y Q → Emits (x || y) (P ⊎ Q)
emits_or P Q true y p q = inl p
emits_or P Q false true p q = inr q
emits_or P Q false false p q = elim [ inl h ↦ p h | inr h ↦ q h ]

denies_or : (P Q : Type 0) (x y : Bool) → Denies x P → Denies y Q → Denies (x || y) (P × Q)
denies_or P Q true y p q = λ h. p h.0
denies_or P Q false true p q = λ h. q h.1
denies_or P Q false false p q = (p, q)

denies_both : (P Q : Type 0) (x y : Bool) → Emits x P → Emits y Q → Denies (x && y) (P → ¬ Q)
denies_both P Q true true p q = λ h. h p q
denies_both P Q true false p q = λ h. q
denies_both P Q false y p q = λ h. absurd (p h)

denies_like : (P Q : Type 0) (x : Bool) → (P → Q) → (Q → P) → Denies x P → Denies x Q
denies_like P Q true f g h = λ q. h (g q)
denies_like P Q false f g h = f h

emits_same : (n k : ℕ) → Emits (nat_eq n k) (n ≡ k)
emits_same n k = elim (eqb_tells n k) [ inl h ↦ rw h.0 h.1 | inr h ↦ rw h.0 h.1 ]

mutual
  pub emits_binds : (k : ℕ) (t : Uses) → Emits (binds k t) (Binds k t)
  emits_binds k (name_use n m) = emits_same n k
  emits_binds k (product ps) = emits_some k ps
  emits_binds k (alternatives ps) = emits_some k ps

  pub emits_some : (k : ℕ) (ps : Parts) → Emits (binds_some k ps) (BindsInSome k ps)
  emits_some k no_parts = λ h. h
  emits_some k (more_parts p ps) = emits_or (Binds k p) (BindsInSome k ps) (binds k p) (binds_some k ps) (emits_binds k p) (emits_some k ps)

-- of a product: each part is right, and the first shares the name with none of the rest
once_in : (A B C N : Type 0) (x y z : Bool) → Denies x A → Denies y (N × B) → Denies z C → Denies ((x || y) || z) ((C × N) × (A × B))
once_in A B C N x y z a b c = denies_like ((A × (N × B)) × C) ((C × N) × (A × B)) ((x || y) || z)
    (λ h. ((h.1, h.0.1.0), (h.0.0, h.0.1.1))) (λ h. ((h.1.0, (h.0.1, h.1.1)), h.0.0))
    (denies_or (A × (N × B)) C (x || y) z (denies_or A (N × B) x y a b) c)

mutual
  pub denies_once : (k : ℕ) (t : Uses) → Denies (twice k t) (BindsOnce k t)
  denies_once k (name_use n m) = tt
  denies_once k (product ps) = denies_once_in k ps
  denies_once k (alternatives ps) = denies_once_each k ps

  denies_once_in : (k : ℕ) (ps : Parts) → Denies (twice_in k ps) (BindsInOneAtMost k ps × BindsOnceInEach k ps)
  denies_once_in k no_parts = (tt, tt)
  denies_once_in k (more_parts p ps) = once_in (BindsOnce k p) (BindsOnceInEach k ps) (Binds k p → ¬ BindsInSome k ps)
      (BindsInOneAtMost k ps) (twice k p) (twice_in k ps) (binds k p && binds_some k ps) (denies_once k p) (denies_once_in k ps)
      (denies_both (Binds k p) (BindsInSome k ps) (binds k p) (binds_some k ps) (emits_binds k p) (emits_some k ps))

  denies_once_each : (k : ℕ) (ps : Parts) → Denies (twice_each k ps) (BindsOnceInEach k ps)
  denies_once_each k no_parts = tt
  denies_once_each k (more_parts p ps) = denies_or (BindsOnce k p) (BindsOnceInEach k ps) (twice k p) (twice_each k ps) (denies_once k p)
      (denies_once_each k ps)

-- each of these alternatives binds the name, or none of them does
abbrev Alike : Bool → ℕ → Parts → Type 0
Alike true k ps = BindsInEach k ps
Alike false k ps = ¬ BindsInSome k ps

denies_alike : (P : Type 0) (some b : Bool) → Emits b P → Denies (differ some b) (Emits some P)
denies_alike P true true p = p
denies_alike P true false p = p
denies_alike P false true p = λ h. h p
denies_alike P false false p = p

alike_more : (some : Bool) (k : ℕ) (p : Uses) (ps : Parts) → Emits some (Binds k p) → Alike some k ps → Alike some k (more_parts p ps)
alike_more true k p ps h hs = (h, hs)
alike_more false k p ps h hs = elim [ inl x ↦ h x | inr x ↦ hs x ]

alike_first : (some : Bool) (k : ℕ) (p : Uses) (ps : Parts) → Alike some k (more_parts p ps) → Emits some (Binds k p)
alike_first true k p ps h = h.0
alike_first false k p ps h = λ x. h (inl x)

alike_rest : (some : Bool) (k : ℕ) (p : Uses) (ps : Parts) → Alike some k (more_parts p ps) → Alike some k ps
alike_rest true k p ps h = h.1
alike_rest false k p ps h = λ x. h (inr x)

alike_none : (some : Bool) (k : ℕ) → Alike some k no_parts
alike_none true k = tt
alike_none false k = λ h. h

-- the first of the later alternatives, and those after it, of which as many bind as before or it differs
later_more : (A B C D : Type 0) (x y z z' : Bool) → Denies x A → Denies y D → (y ≡ false → z' ≡ z) → Denies z (C × B) →
    Denies ((x || y) || z') ((D × C) × (A × B))
later_more A B C D true y z z' a d e c = λ h. a h.1.0
later_more A B C D false true z z' a d e c = λ h. d h.0.0
later_more A B C D false false true z' a d e c = rw (e refl) (λ h. c (h.0.1, h.1.1))
later_more A B C D false false false z' a d e c = rw (e refl) ((d, c.0), (a, c.1))

some_as_before : (some b : Bool) → differ some b ≡ false → (some || b) ≡ some
some_as_before true b e = refl
some_as_before false b e = e

across_first : (x b : Bool) (k : ℕ) (p : Uses) (ps : Parts) (y : Bool) → Denies x (BindsAcrossAll k p) → Emits b (Binds k p) →
    Denies y (Alike b k ps × BindsAcrossAllInEach k ps) →
    Denies (x || y) ((BindsInEach k (more_parts p ps) ⊎ (¬ BindsInSome k (more_parts p ps))) × BindsAcrossAllInEach k (more_parts p ps))
across_first true b k p ps y h g f = λ r. h r.1.0
across_first false true k p ps true h g f = λ r. elim r.0 [ inl e ↦ f (e.1, r.1.1) | inr n ↦ n (inl g) ]
across_first false false k p ps true h g f = λ r. elim r.0 [ inl e ↦ g e.0 | inr n ↦ f ((λ x. n (inr x)), r.1.1) ]
across_first false true k p ps false h g f = (inl (g, f.0), (h, f.1))
across_first false false k p ps false h g f = (inr (elim [ inl x ↦ g x | inr x ↦ f.0 x ]), (h, f.1))

across_later : (some b : Bool) (k : ℕ) (p : Uses) (ps : Parts) (x : Bool) → Denies x (BindsAcrossAll k p) → Emits b (Binds k p) →
    Denies (partly_later k some ps) (Alike some k ps × BindsAcrossAllInEach k ps) →
    Denies ((x || differ some b) || partly_later k (some || b) ps)
    (Alike some k (more_parts p ps) × BindsAcrossAllInEach k (more_parts p ps))
across_later some b k p ps x h g f = denies_like ((Emits some (Binds k p) × Alike some k ps) ×
    (BindsAcrossAll k p × BindsAcrossAllInEach k ps)) (Alike some k (more_parts p ps) × BindsAcrossAllInEach k (more_parts p ps))
    ((x || differ some b) || partly_later k (some || b) ps)
    (λ r. (alike_more some k p ps r.0.0 r.0.1, (r.1.0, r.1.1)))
    (λ r. ((alike_first some k p ps r.0, alike_rest some k p ps r.0), (r.1.0, r.1.1)))
    (later_more (BindsAcrossAll k p) (BindsAcrossAllInEach k ps) (Alike some k ps) (Emits some (Binds k p)) x (differ some b)
    (partly_later k some ps) (partly_later k (some || b) ps) h (denies_alike (Binds k p) some b g)
    (λ e. ap (λ c. partly_later k c ps) (some_as_before some b e)) f)

mutual
  pub denies_across : (k : ℕ) (t : Uses) → Denies (partly k t) (BindsAcrossAll k t)
  denies_across k (name_use n m) = tt
  denies_across k (product ps) = denies_across_in k ps
  denies_across k (alternatives ps) = denies_across_first k ps

  denies_across_in : (k : ℕ) (ps : Parts) → Denies (partly_in k ps) (BindsAcrossAllInEach k ps)
  denies_across_in k no_parts = tt
  denies_across_in k (more_parts p ps) = denies_or (BindsAcrossAll k p) (BindsAcrossAllInEach k ps) (partly k p) (partly_in k ps)
      (denies_across k p) (denies_across_in k ps)

  denies_across_first : (k : ℕ) (ps : Parts) → Denies (partly_first k ps)
      ((BindsInEach k ps ⊎ (¬ BindsInSome k ps)) × BindsAcrossAllInEach k ps)
  denies_across_first k no_parts = (inl tt, tt)
  denies_across_first k (more_parts p ps) = across_first (partly k p) (binds k p) k p ps (partly_later k (binds k p) ps)
      (denies_across k p) (emits_binds k p) (denies_across_later k (binds k p) ps)

  denies_across_later : (k : ℕ) (some : Bool) (ps : Parts) → Denies (partly_later k some ps) (Alike some k ps × BindsAcrossAllInEach k ps)
  denies_across_later k some no_parts = (alike_none some k, tt)
  denies_across_later k some (more_parts p ps) = across_later some (binds k p) k p ps (partly k p) (denies_across k p) (emits_binds k p)
      (denies_across_later k some ps)

-- the modes are those of the uses
abbrev IsIn : BindingAnnotation → List BindingAnnotation → Type 0
IsIn m [] = ⊥
IsIn m (l ∷ ls) = (l ≡ m) ⊎ IsIn m ls

in_left : (m : BindingAnnotation) (ms ls : List BindingAnnotation) → IsIn m ms → IsIn m (ms ++ ls)
in_left m [] ls h = absurd h
in_left m (x ∷ ms) ls h = elim h [ inl e ↦ inl e | inr r ↦ inr (in_left m ms ls r) ]

in_right : (m : BindingAnnotation) (ms ls : List BindingAnnotation) → IsIn m ls → IsIn m (ms ++ ls)
in_right m [] ls h = h
in_right m (x ∷ ms) ls h = inr (in_right m ms ls h)

in_either : (m : BindingAnnotation) (ms ls : List BindingAnnotation) → IsIn m (ms ++ ls) → IsIn m ms ⊎ IsIn m ls
in_either m [] ls h = inr h
in_either m (x ∷ ms) ls h = elim h [ inl e ↦ inl (inl e) | inr r ↦ elim (in_either m ms ls r) [ inl a ↦ inl (inr a) | inr b ↦ inr b ] ]

in_use : (same : Bool) (P : Type 0) (l m : BindingAnnotation) → Emits same P → P × (l ≡ m) → IsIn m (if same then l ∷ [] else [])
in_use true P l m t h = inl h.1
in_use false P l m t h = t h.0

of_use : (same : Bool) (P : Type 0) (l m : BindingAnnotation) → Emits same P → IsIn m (if same then l ∷ [] else []) → P × (l ≡ m)
of_use true P l m t h = elim h [ inl e ↦ (t, e) | inr r ↦ absurd r ]
of_use false P l m t h = absurd h

mutual
  in_modes : (k : ℕ) (m : BindingAnnotation) (t : Uses) → BindsAs k m t → IsIn m (modes k t)
  in_modes k m (name_use n l) h = in_use (nat_eq n k) (n ≡ k) l m (emits_same n k) h
  in_modes k m (product ps) h = in_modes_of k m ps h
  in_modes k m (alternatives ps) h = in_modes_of k m ps h

  in_modes_of : (k : ℕ) (m : BindingAnnotation) (ps : Parts) → BindsAsInSome k m ps → IsIn m (modes_of k ps)
  in_modes_of k m no_parts h = h
  in_modes_of k m (more_parts p ps) h = elim h [
    | inl x ↦ in_left m (modes k p) (modes_of k ps) (in_modes k m p x)
    | inr x ↦ in_right m (modes k p) (modes_of k ps) (in_modes_of k m ps x)
  ]

mutual
  of_modes : (k : ℕ) (m : BindingAnnotation) (t : Uses) → IsIn m (modes k t) → BindsAs k m t
  of_modes k m (name_use n l) h = of_use (nat_eq n k) (n ≡ k) l m (emits_same n k) h
  of_modes k m (product ps) h = of_modes_of k m ps h
  of_modes k m (alternatives ps) h = of_modes_of k m ps h

  of_modes_of : (k : ℕ) (m : BindingAnnotation) (ps : Parts) → IsIn m (modes_of k ps) → BindsAsInSome k m ps
  of_modes_of k m no_parts h = h
  of_modes_of k m (more_parts p ps) h = elim (in_either m (modes k p) (modes_of k ps) h)
      [ inl x ↦ inl (of_modes k m p x) | inr x ↦ inr (of_modes_of k m ps x) ]

emits_mode : (m l : BindingAnnotation) → Emits (same_mode m l) (m ≡ l)
emits_mode Unannotated Unannotated = refl
emits_mode Mutable Mutable = refl
emits_mode Ref Ref = refl
emits_mode RefMut RefMut = refl
emits_mode _ _ = λ e. cc

-- all of the modes are the first
abbrev AreAll : BindingAnnotation → List BindingAnnotation → Type 0
AreAll f [] = Unit {0}
AreAll f (m ∷ ms) = (f ≡ m) × AreAll f ms

denies_not : (P : Type 0) (b : Bool) → Emits b P → Denies (not b) P
denies_not P true h = h
denies_not P false h = h

denies_all : (f : BindingAnnotation) (ms : List BindingAnnotation) → Denies (clash (Some f) ms) (AreAll f ms)
denies_all f [] = tt
denies_all f (m ∷ ms) = denies_or (f ≡ m) (AreAll f ms) (not (same_mode f m)) (clash (Some f) ms)
    (denies_not (f ≡ m) (same_mode f m) (emits_mode f m)) (denies_all f ms)

all_are : (f m : BindingAnnotation) (ms : List BindingAnnotation) → AreAll f ms → IsIn m ms → f ≡ m
all_are f m [] h i = absurd i
all_are f m (l ∷ ms) h i = elim i [ inl e ↦ h.0 ∙ e | inr r ↦ all_are f m ms h.1 r ]

are_all : (f : BindingAnnotation) (ms : List BindingAnnotation) → ((m : BindingAnnotation) → IsIn m ms → f ≡ m) → AreAll f ms
are_all f [] h = tt
are_all f (m ∷ ms) h = (h m (inl refl), are_all f ms (λ l i. h l (inr i)))

abbrev OneMode : List BindingAnnotation → Type 0
OneMode ms = (m l : BindingAnnotation) → IsIn m ms → IsIn l ms → m ≡ l

denies_modes : (ms : List BindingAnnotation) → Denies (clash None ms) (OneMode ms)
denies_modes [] = λ m l h. absurd h
denies_modes (f ∷ ms) = denies_like (AreAll f (f ∷ ms)) (OneMode (f ∷ ms)) (clash None (f ∷ ms))
    (λ h m l i j. sym (all_are f m (f ∷ ms) h i) ∙ all_are f l (f ∷ ms) h j)
    (λ h. are_all f (f ∷ ms) (λ m i. h f m (inl refl) i))
    (denies_all f (f ∷ ms))

pub denies_one_mode : (k : ℕ) (t : Uses) → Denies (clash None (modes k t)) (HasOneMode k t)
denies_one_mode k t = denies_like (OneMode (modes k t)) (HasOneMode k t) (clash None (modes k t))
    (λ h m l i j. h m l (in_modes k m t i) (in_modes k l t j))
    (λ h m l i j. h m l (of_modes k m t i) (of_modes k l t j))
    (denies_modes (modes k t))
