-- What is known of entries by key, and of where they stand.
use Rattle.std.proofs.Common.{arith, ◌≡◌, ◌∙◌, refl, sym, ap, ℕ, zero, suc, ◌+◌, ◌<◌, Bool, true, false, not, true≢false}
use Rattle.std.proofs.Common.{cond, List, [], ◌∷◌, ◌++◌, length, get_or, set, Option, None, Some, if◌then◌else◌, is_some}
use Rattle.std.specs.Prelude.{slice_get, option_map}
use Rattle.std.specs.List.{position_or_len}
use Rattle.std.specs.BTreeMap.{is_at}
use Rattle.std.proofs.lemmas.Option.{same_Some}
use Rattle.std.specs.Cmp.{IsTotalOrder, Equal-is, eq_by_cmp_equiv}
use Rattle.std.specs.Map.{keys_of, lookup}
use Rattle.std.specs.Ordering.{is_eq, eq_by_cmp}
use Rattle.std.specs.declared.cmp.Ordering.{Ordering}
use Rattle.indexmap.specs.IndexMap.{insert_entry}
use Rattle.hir_store.specs.Keyed.{written, place_from, Placed}

-- what was found, or else where the last one stands if it is meant
abbrev or_last : Option ℕ → Bool → ℕ → Option ℕ
or_last None b k = cond b (Some k) None
or_last (Some j) b k = Some j

module _ {K T : Type 0} (cmp : K → K → Ordering) where
  -- where the value at a place changes, each key stays where it is
  pub places_stay : (es : List (K × T)) (k : ℕ) (t : T) (n : ℕ) (q : K) → place_from cmp n (written es k t) q ≡ place_from cmp n es q
  places_stay [] k t n q = refl
  places_stay (e ∷ es) zero t n q = refl
  places_stay (e ∷ es) (suc k) t n q = ap (cond (is_eq (cmp q e.0)) (Some n)) (places_stay es k t (n + 1) q)

  -- with an entry more a key is found where it was, or it is that entry's
  place_more : (es : List (K × T)) (x : K × T) (n : ℕ) (q : K)
      → place_from cmp n (es ++ x ∷ []) q ≡ or_last (place_from cmp n es q) (is_eq (cmp q x.0)) (n + length es)
  place_more [] x n q = ap (λ k. cond (is_eq (cmp q x.0)) (Some k) None) (omega arith)
  place_more (e ∷ es) x n q = by (is_eq (cmp q e.0)) (place_more es x (n + 1) q)
    where
      by : (b : Bool)
          → place_from cmp (n + 1) (es ++ x ∷ []) q ≡ or_last (place_from cmp (n + 1) es q) (is_eq (cmp q x.0)) (n + 1 + length es)
          → cond b (Some n) (place_from cmp (n + 1) (es ++ x ∷ []) q)
          ≡ or_last (cond b (Some n) (place_from cmp (n + 1) es q)) (is_eq (cmp q x.0)) (n + suc (length es))
      by true more = refl
      by false more = more
          ∙ ap (or_last (place_from cmp (n + 1) es q) (is_eq (cmp q x.0))) (omega arith)

-- where an entry stands

module _ {K : Type 0} (cmp : K → K → Ordering) (o : IsTotalOrder cmp) where
  -- one key leads where another leads that is no other by the order
  alike : (ps : List (K × ℕ)) (key q : K) → is_eq (cmp key q) ≡ true → lookup (is_at (cmp q)) ps ≡ lookup (is_at (cmp key)) ps
  alike ps key q alike_to = λ i. lookup (λ x. is_eq (o.congr q key x ((Equal-is (cmp q key)).0 (turned ∙ alike_to)) i)) ps
    where
      turned : is_eq (cmp q key) ≡ is_eq (cmp key q)
      turned = (eq_by_cmp_equiv o).symm q key

-- What is known of an entry that stands at a place: its value is what is found, and one more value of its key is put there.
record At {K T : Type 0} (eq : K → K → Bool) (es : List (K × T)) (q : K) (n k : ℕ) : Type 0 where
  pub place : ℕ
  pub is : k ≡ n + place
  pub within : place < length es
  pub found : lookup (eq q) es ≡ option_map (λ e. e.1) (slice_get es place)
  pub becomes : (t : T) → insert_entry eq es q t ≡ written es place t

module _ {K T : Type 0} (cmp : K → K → Ordering) (o : IsTotalOrder cmp) (eq : K → K → Bool)
    (agree : (a b : K) → eq a b ≡ eq_by_cmp cmp a b) where
  at : (es : List (K × T)) (q : K) (n k : ℕ) → place_from cmp n es q ≡ Some k → At eq es q n k
  at [] q n k h = absurd (true≢false (sym (ap is_some h)))
  at (e ∷ es) q n k h = by (at es q (n + 1) k) (is_eq (cmp q e.0)) (agree q e.0) h
    where
      by : (place_from cmp (n + 1) es q ≡ Some k → At eq es q (n + 1) k) → (b : Bool) → eq q e.0 ≡ b
          → cond b (Some n) (place_from cmp (n + 1) es q) ≡ Some k → At eq (e ∷ es) q n k
      by behind true same g = record {
        place = 0;
        is = omega (arith, same_Some n k g);
        within = omega arith;
        found = ap (λ c. cond c (Some e.1) (lookup (eq q) es)) same;
        becomes = λ t. ap (λ c. if c then (e.0, t) ∷ es else e ∷ insert_entry eq es q t) same;
      }
      by behind false other g =
          let more = behind g in
          record {
            place = suc more.place;
            is = omega (arith, more.is);
            within = omega (arith, more.within);
            found = ap (λ c. cond c (Some e.1) (lookup (eq q) es)) other ∙ more.found;
            becomes = λ t. ap (λ c. if c then (e.0, t) ∷ es else e ∷ insert_entry eq es q t) other
                ∙ ap (λ z. e ∷ z) (more.becomes t);
          }

  absent : (es : List (K × T)) (q : K) (n : ℕ) → place_from cmp n es q ≡ None
      → (lookup (eq q) es ≡ None) × ((t : T) → insert_entry eq es q t ≡ es ++ (q, t) ∷ [])
  absent [] q n h = (refl, λ t. refl)
  absent (e ∷ es) q n h = by (absent es q (n + 1)) (is_eq (cmp q e.0)) (agree q e.0) h
    where
      by : (place_from cmp (n + 1) es q ≡ None → (lookup (eq q) es ≡ None) × ((t : T) → insert_entry eq es q t ≡ es ++ (q, t) ∷ []))
          → (b : Bool) → eq q e.0 ≡ b → cond b (Some n) (place_from cmp (n + 1) es q) ≡ None
          → (lookup (eq q) (e ∷ es) ≡ None) × ((t : T) → insert_entry eq (e ∷ es) q t ≡ e ∷ (es ++ (q, t) ∷ []))
      by behind true same g = absurd (true≢false (ap is_some g))
      by behind false other g =
          let more = behind g in (
            ap (λ c. cond c (Some e.1) (lookup (eq q) es)) other ∙ more.0,
            λ t. ap (λ c. if c then (e.0, t) ∷ es else e ∷ insert_entry eq es q t) other ∙ ap (λ z. e ∷ z) (more.1 t),
          )

  module _ (es : List (K × T)) (ps : List (K × ℕ)) (placed : Placed cmp es ps) (q : K) where
    pub nothing_found : lookup (is_at (cmp q)) ps ≡ None → lookup (eq q) es ≡ None
    nothing_found h = (absent es q 0 (sym (placed q) ∙ h)).0

    pub comes_last : lookup (is_at (cmp q)) ps ≡ None → (t : T) → insert_entry eq es q t ≡ es ++ (q, t) ∷ []
    comes_last h = (absent es q 0 (sym (placed q) ∙ h)).1

    module _ (k : ℕ) (h : lookup (is_at (cmp q)) ps ≡ Some k) where
      there : At eq es q 0 k
      there = at es q 0 k (sym (placed q) ∙ h)

      same : there.place ≡ k
      same = omega (arith, there.is)

      pub corresponds : k < length es
      corresponds = omega (arith, there.is, there.within)

      pub is_found : lookup (eq q) es ≡ option_map (λ e. e.1) (slice_get es k)
      is_found = there.found ∙ ap (λ j. option_map (λ (e : K × T). e.1) (slice_get es j)) same

      pub is_written : (t : T) → insert_entry eq es q t ≡ written es k t
      is_written t = there.becomes t ∙ ap (λ j. written es j t) same

  -- where an entry takes another value, each key leads to its entry
  pub placed_still : (es : List (K × T)) (ps : List (K × ℕ)) → Placed cmp es ps → (k : ℕ) (t : T) → Placed cmp (written es k t) ps
  placed_still es ps placed k t q = placed q ∙ sym (places_stay cmp es k t 0 q)

  -- where a key is led elsewhere and then back, each key leads to its entry
  pub placed_back : (es : List (K × T)) (ps : List (K × ℕ)) → Placed cmp es ps → (key : K) (k : ℕ)
      → lookup (is_at (cmp key)) ps ≡ Some k → (mid now : List (K × ℕ)) (n : ℕ)
      → ((q : K) → lookup (is_at (cmp q)) mid ≡ cond (is_at (cmp key) q) (Some n) (lookup (is_at (cmp q)) ps))
      → ((q : K) → lookup (is_at (cmp q)) now ≡ cond (is_at (cmp key) q) (Some k) (lookup (is_at (cmp q)) mid))
      → Placed cmp es now
  placed_back es ps placed key k is mid now n first second q = second q ∙ (by (is_eq (cmp key q)) refl ∙ placed q)
    where
      by : (b : Bool) → is_eq (cmp key q) ≡ b → cond b (Some k) (lookup (is_at (cmp q)) mid) ≡ lookup (is_at (cmp q)) ps
      by true alike_to = sym (alike cmp o ps key q alike_to ∙ is)
      by false other = first q ∙ ap (λ c. cond c (Some n) (lookup (is_at (cmp q)) ps)) other

  -- where the key of a new entry leads to it, each key leads to its entry
  pub placed_more : (es : List (K × T)) (ps : List (K × ℕ)) → Placed cmp es ps → (key : K) (t : T)
      → lookup (is_at (cmp key)) ps ≡ None → (now : List (K × ℕ))
      → ((q : K) → lookup (is_at (cmp q)) now ≡ cond (is_at (cmp key) q) (Some (length es)) (lookup (is_at (cmp q)) ps))
      → Placed cmp (es ++ (key, t) ∷ []) now
  placed_more es ps placed key t new now updated q =
      updated q ∙ (by (is_eq (cmp key q)) refl (place_from cmp 0 es q) (placed q)
      ∙ ap (or_last (place_from cmp 0 es q) (is_eq (cmp q key))) from_zero ∙ sym (place_more cmp es (key, t) 0 q))
    where
      from_zero : length es ≡ 0 + length es
      from_zero = omega arith

      turned : is_eq (cmp q key) ≡ is_eq (cmp key q)
      turned = (eq_by_cmp_equiv o).symm q key

      by : (b : Bool) → is_eq (cmp key q) ≡ b → (p : Option ℕ) → lookup (is_at (cmp q)) ps ≡ p
          → cond b (Some (length es)) (lookup (is_at (cmp q)) ps) ≡ or_last p (is_eq (cmp q key)) (length es)
      by true alike_to None is = ap (λ c. cond c (Some (length es)) None) (sym (turned ∙ alike_to))
      by true alike_to (Some j) is = absurd (true≢false (sym (ap is_some (sym new ∙ (sym (alike cmp o ps key q alike_to) ∙ is)))))
      by false other None is = is ∙ ap (λ c. cond c (Some (length es)) None) (sym (turned ∙ other))
      by false other (Some j) is = is

-- numbers and places

module _ {K T : Type 0} (cmp : K → K → Ordering) (eq : K → K → Bool) (agree : (a b : K) → eq a b ≡ eq_by_cmp cmp a b) where
  -- where the entry of a key stands is the number of the key
  pub numbered : (es : List (K × T)) (q : K) (n k : ℕ) → place_from cmp n es q ≡ Some k
      → n + position_or_len (eq q) (keys_of es) ≡ k
  numbered [] q n k h = cc
  numbered (e ∷ es) q n k h = by (numbered es q (n + 1) k) (is_eq (cmp q e.0)) (agree q e.0) h
    where
      counted : (b : Bool) → eq q e.0 ≡ b
          → position_or_len (eq q) (keys_of (e ∷ es)) ≡ cond (not b) (1 + position_or_len (eq q) (keys_of es)) 0
      counted b h = ap (λ c. cond (not c) (1 + position_or_len (eq q) (keys_of es)) 0) h

      by : (place_from cmp (n + 1) es q ≡ Some k → n + 1 + position_or_len (eq q) (keys_of es) ≡ k)
          → (b : Bool) → eq q e.0 ≡ b → cond b (Some n) (place_from cmp (n + 1) es q) ≡ Some k
          → n + position_or_len (eq q) (keys_of (e ∷ es)) ≡ k
      by behind true same g = let z = counted true same in omega (arith, z, same_Some n k g)
      by behind false other g = let z = counted false other in omega (arith, z, behind g)

-- an entry whose value is another one, at a place that there is
pub written_at : {K T : Type 0} (es : List (K × T)) (k : ℕ) (e : K × T) (t : T)
    → e ≡ get_or es k e → set es k (e.0, t) ≡ written es k t
written_at [] k e t h = refl
written_at {K = K} {T = T} (x ∷ es) zero e t h = ap (λ (y : K × T). (y.0, t) ∷ es) h
written_at (x ∷ es) (suc k) e t h = ap (λ z. x ∷ z) (written_at es k e t h)

-- what is found at a place that there is
pub found_at : {K T : Type 0} (es : List (K × T)) (k : ℕ) (e : K × T) → k < length es → e ≡ get_or es k e
    → option_map (λ (x : K × T). x.1) (slice_get es k) ≡ Some e.1
found_at [] k e within h = absurd (omega arith)
found_at {K = K} {T = T} (x ∷ es) zero e within h = ap (λ (y : K × T). Some y.1) (sym h)
found_at (x ∷ es) (suc k) e within h = found_at es k e (omega arith) h
