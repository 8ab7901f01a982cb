-- What is found among entries once one more was said.
use Rattle.std.proofs.Common.{◌≡◌, Bool, true, false, ◌&&◌, if◌then◌else◌, cond, List, [], ◌∷◌, Option, Some, None, is_some}
use Rattle.std.proofs.Common.{refl, sym, ap, ◌∙◌, true≢false, Ordering, Less, Equal, Greater}
use Rattle.std.specs.Prelude.{option_and_then}
use Rattle.std.specs.BTreeMap.{insert_entry, is_at}
use Rattle.std.specs.Cmp.{IsTotalOrder, Equal-is, alike_right, eq_by_cmp_equiv}
use Rattle.std.specs.Map.{lookup, set_value}
use Rattle.std.specs.Ordering.{is_eq, eq_by_cmp, match_ordering}
use Rattle.std.proofs.lemmas.Map.{lookup-set_value}
use Rattle.hir_tables.specs.FirstOf.{found_by, with_first_by, found_below, with_below, with_first_below}
use Rattle.hir_tables.specs.Theorems.{said}

unsaid : {T : Type 0} (before : Option T) (t : T) → said before false t ≡ before
unsaid None t = refl
unsaid (Some x) t = refl

twice : {X : Type 0} (b : Bool) (x y z : X) → cond b x z ≡ cond b x (cond b y z)
twice true x y z = refl
twice false x y z = refl

swap : {X : Type 0} (b c : Bool) (x y z : X) → (b ≡ true → c ≡ true → ⊥) → cond c y (cond b x z) ≡ cond b x (cond c y z)
swap true true x y z never = absurd (never refl refl)
swap true false x y z never = refl
swap false c x y z never = refl

module _ {K : Type 0} (cmp : K → K → Ordering) (o : IsTotalOrder cmp) where
  apart : (q k x : K) → cmp k x ≡ Greater → is_eq (cmp q k) ≡ true → is_eq (cmp q x) ≡ true → ⊥
  apart q k x greater b c =
      true≢false (sym c ∙ (ap is_eq (o.congr q k x ((Equal-is (cmp q k)).0 b)) ∙ ap is_eq greater))

module _ {K T : Type 0} (cmp : K → K → Ordering) (o : IsTotalOrder cmp) where
  -- what is said of a key is said of each that is the same
  pub found_alike : (es : List (K × T)) (q k : K) → eq_by_cmp cmp q k ≡ true → found_by cmp es q ≡ found_by cmp es k
  found_alike es q k e = λ i. lookup (λ x. is_eq (o.congr q k x ((Equal-is (cmp q k)).0 e) i)) es

  pub found_inserted : (es : List (K × T)) (k : K) (t : T) (q : K)
      → found_by cmp (insert_entry cmp es k t) q ≡ cond (eq_by_cmp cmp q k) (Some t) (found_by cmp es q)
  found_inserted [] k t q = refl
  found_inserted (e ∷ es) k t q = by (found_inserted es k t q) (cmp k e.0) refl
    where
      by : found_by cmp (insert_entry cmp es k t) q ≡ cond (eq_by_cmp cmp q k) (Some t) (found_by cmp es q) → (r : Ordering) → cmp k e.0 ≡ r
          → found_by cmp (match_ordering r ((k, t) ∷ e ∷ es) ((e.0, t) ∷ es) (e ∷ insert_entry cmp es k t)) q
          ≡ cond (eq_by_cmp cmp q k) (Some t) (found_by cmp (e ∷ es) q)
      by behind Less is = refl
      by behind Equal is =
          twice (is_eq (cmp q e.0)) (Some t) (Some e.1) (found_by cmp es q)
          ∙ ap (λ r. cond (is_eq r) (Some t) (found_by cmp (e ∷ es) q)) (sym (alike_right o k e.0 q is))
      by behind Greater is =
          ap (cond (is_eq (cmp q e.0)) (Some e.1)) behind
          ∙ swap (is_eq (cmp q k)) (is_eq (cmp q e.0)) (Some t) (Some e.1) (found_by cmp es q) (apart cmp o q k e.0 is)

  -- what was said first stays
  first_by : (es : List (K × T)) (k : K) (t : T) (q : K) (before : Option T) (b : Bool) → found_by cmp es k ≡ before → eq_by_cmp cmp q k ≡ b
      → found_by cmp (if is_some before then es else insert_entry cmp es k t) q ≡ said (found_by cmp es q) b t
  first_by es k t q (Some x) true found same =
      let is = found_alike es q k same ∙ found in is ∙ sym (ap (λ m. said m true t) is)
  first_by es k t q (Some x) false found same = sym (unsaid (found_by cmp es q) t)
  first_by es k t q None true found same =
      found_inserted es k t q ∙ (ap (λ b. cond b (Some t) (found_by cmp es q)) same
      ∙ sym (ap (λ m. said m true t) (found_alike es q k same ∙ found)))
  first_by es k t q None false found same =
      found_inserted es k t q ∙ (ap (λ b. cond b (Some t) (found_by cmp es q)) same ∙ sym (unsaid (found_by cmp es q) t))

  pub found_first : (es : List (K × T)) (k : K) (t : T) (q : K)
      → found_by cmp (with_first_by cmp es k t) q ≡ said (found_by cmp es q) (eq_by_cmp cmp q k) t
  found_first es k t q = first_by es k t q (found_by cmp es k) (eq_by_cmp cmp q k) refl refl

-- by two keys
module _ {K L T : Type 0} (cmp : K → K → Ordering) (o : IsTotalOrder cmp) (order : L → L → Ordering) (p : IsTotalOrder order) where
  abbrev below : L → Option (List (L × T)) → Option T
  below m answers = option_and_then (λ ls. found_by order ls m) answers

  alone : (c : Bool) (t : T) → cond c (Some t) None ≡ said None c t
  alone true t = refl
  alone false t = refl

  written : (es : List (K × List (L × T))) (k q : K) (w v : List (L × T)) → found_by cmp es k ≡ Some v
      → found_by cmp (set_value (is_at (cmp k)) es w) q ≡ cond (is_eq (cmp k q)) (Some w) (found_by cmp es q)
  written es k q w v found =
      lookup-set_value (eq_by_cmp_equiv o) (is_at (cmp k)) (λ x y e. ap is_eq (o.congr k x y ((Equal-is (cmp k x)).0 e))) q w es
      (rw found refl)

  below_by : (es : List (K × List (L × T))) (k : K) (l : L) (t : T) (q : K) (m : L) (before : Option (List (L × T))) (b : Bool)
      → found_by cmp es k ≡ before → eq_by_cmp cmp q k ≡ b
      → below m (found_by cmp (with_below cmp order es k l t before) q) ≡ said (below m (found_by cmp es q)) (b && eq_by_cmp order m l) t
  below_by es k l t q m None true found same =
      ap (below m) (found_inserted cmp o es k ((l, t) ∷ []) q ∙ ap (λ b. cond b (Some ((l, t) ∷ [])) (found_by cmp es q)) same)
      ∙ (alone (eq_by_cmp order m l) t
      ∙ sym (ap (λ s. said (below m s) (eq_by_cmp order m l) t) (found_alike cmp o es q k same ∙ found)))
  below_by es k l t q m None false found same =
      ap (below m) (found_inserted cmp o es k ((l, t) ∷ []) q ∙ ap (λ b. cond b (Some ((l, t) ∷ [])) (found_by cmp es q)) same)
      ∙ sym (unsaid (below m (found_by cmp es q)) t)
  below_by es k l t q m (Some ls) true found same =
      ap (below m) (written es k q (with_first_by order ls l t) ls found
      ∙ ap (λ b. cond b (Some (with_first_by order ls l t)) (found_by cmp es q)) ((eq_by_cmp_equiv o).symm k q ∙ same))
      ∙ (found_first order p ls l t m
      ∙ sym (ap (λ s. said (below m s) (eq_by_cmp order m l) t) (found_alike cmp o es q k same ∙ found)))
  below_by es k l t q m (Some ls) false found same =
      ap (below m) (written es k q (with_first_by order ls l t) ls found
      ∙ ap (λ b. cond b (Some (with_first_by order ls l t)) (found_by cmp es q)) ((eq_by_cmp_equiv o).symm k q ∙ same))
      ∙ sym (unsaid (below m (found_by cmp es q)) t)

  pub found_first_below : (es : List (K × List (L × T))) (k : K) (l : L) (t : T) (q : K) (m : L)
      → found_below cmp order (with_first_below cmp order es k l t) q m
      ≡ said (found_below cmp order es q m) (eq_by_cmp cmp q k && eq_by_cmp order m l) t
  found_first_below es k l t q m = below_by es k l t q m (found_by cmp es k) (eq_by_cmp cmp q k) refl refl
