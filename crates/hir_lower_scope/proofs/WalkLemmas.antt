-- A search over what is open goes on at the innermost rib that it meets, among those that are less deep than the last.
use Rattle.std.proofs.Common.{arith, ◌≡◌, ◌∙◌, refl, sym, ap, ℕ, suc, ◌+◌, ◌<◌, ◌≤◌, Bool, true, false, true≢false, ◌&&◌, ◌||◌}
use Rattle.std.proofs.Common.{nat_eq, nat_lt, if◌then◌else◌, List, [], ◌∷◌, length, Option, Some, None}
use Rattle.std.proofs.lemmas.Option.{same_Some}
use Rattle.std.proofs.lemmas.Bool.Decides.{nat_tests}
use Rattle.hir_store.specs.Names.{same_name}
use Rattle.hir_store.specs.declared.name.Name.{Name}
use Rattle.hir_store.specs.declared.ids.CtxId.{CtxId}
use Rattle.hir_store.specs.declared.ids.HygieneId.{HygieneId}
use Rattle.hir_store.specs.declared.ids.LabelId.{LabelId}
use Rattle.hir_store.specs.declared.ids.MacroDefId.{MacroDefId}
use Rattle.hir_env.specs.Answers.{Contexts}
use Rattle.hir_lower_scope.specs.ScopeRibs.{Rib, label_rib, try_rib, macro_rib, barrier_rib, Sought, Target, reachable, unreachable}
use Rattle.hir_lower_scope.specs.ScopeRibs.{undeclared}
use Rattle.hir_lower_scope.specs.ScopeRibs.{behind, is_for, is_the, climbed, past_macro, search, innermost_try_rib}
use Rattle.hir_lower_scope.specs.Depths.{IsDeepest}
use Rattle.hir_lower_scope.specs.Ribs.{labels_of, macros_of, tries_of, past_barrier, last_try, rib_at, is_met, label_in}

pub none≢some : {A : Type 0} (x : A) → None ≡ Some x → ⊥
none≢some x e = true≢false (ap (λ (o : Option _). is_none o) e)
  where
    is_none : {A : Type 0} → Option A → Bool
    is_none None = true
    is_none (Some y) = false

-- the innermost border lies inside
pub barrier_inside : (rs : List (Rib LabelId)) → past_barrier rs ≤ length rs
barrier_inside [] = omega arith
barrier_inside (label_rib n h a ∷ rs) = let e = barrier_inside rs in omega (arith, e)
barrier_inside (try_rib a typed ∷ rs) = let e = barrier_inside rs in omega (arith, e)
barrier_inside (macro_rib d ∷ rs) = let e = barrier_inside rs in omega (arith, e)
barrier_inside (barrier_rib ∷ rs) = omega arith

less : (n m : ℕ) → n < m → nat_lt n m ≡ true
less n m h = grind (arith, nat_tests)

not_less : (n m : ℕ) → m ≤ n → nat_lt n m ≡ false
not_less n m h = grind (arith, nat_tests)

-- by depth

-- the ribs that are less deep
abbrev pub low : ℕ → List (Rib LabelId) → List (Rib LabelId)
low p [] = []
low p (r ∷ rs) = if nat_lt (length rs) p then r ∷ rs else low p rs

pub low_all : (p : ℕ) (rs : List (Rib LabelId)) → length rs ≤ p → low p rs ≡ rs
low_all p [] h = refl
low_all p (r ∷ rs) h = rw (less (length rs) p (omega (arith, h))) refl

low_none : (rs : List (Rib LabelId)) → low 0 rs ≡ []
low_none [] = refl
low_none (r ∷ rs) = rw (not_less (length rs) 0 (omega arith)) (low_none rs)

-- nothing is as deep as all of them
pub nothing_there : (q : ℕ) (rs : List (Rib LabelId)) → length rs ≤ q → rib_at q rs ≡ None
nothing_there q [] h = refl
nothing_there q (r ∷ rs) h =
    let deep : nat_eq q (length rs) ≡ false = grind (arith, nat_tests) in rw deep (nothing_there q rs (omega (arith, h)))

pub inside : (q : ℕ) (rs : List (Rib LabelId)) (r : Rib LabelId) → rib_at q rs ≡ Some r → q < length rs
inside q rs r is = by (nat_lt q (length rs)) refl
  where
    by : (t : Bool) → nat_lt q (length rs) ≡ t → q < length rs
    by true e = grind (arith, nat_tests)
    by false e =
        let out : length rs ≤ q = grind (arith, nat_tests) in absurd (none≢some r (sym (nothing_there q rs out) ∙ is))

-- what is told of a rib of which nothing is told where there is none
pub passed : (emitted : Option (Rib LabelId) → Bool) → emitted None ≡ false → (q : ℕ) (r : Rib LabelId) (rs : List (Rib LabelId))
    → emitted (Some r) ≡ false → emitted (rib_at q (r ∷ rs)) ≡ emitted (rib_at q rs)
passed emitted none q r rs other = by (nat_eq q (length rs)) refl
  where
    by : (t : Bool) → nat_eq q (length rs) ≡ t → emitted (if t then Some r else rib_at q rs) ≡ emitted (rib_at q rs)
    by true e =
        let out : length rs ≤ q = grind (arith, nat_tests) in other ∙ sym (ap emitted (nothing_there q rs out) ∙ none)
    by false e = refl

-- the rib at a depth, and what is less deep
pub record Cut (q : ℕ) (rs : List (Rib LabelId)) (r : Rib LabelId) : Type 0 where
  pub here : low (suc q) rs ≡ r ∷ low q rs
  pub deep : length (low q rs) ≡ q

pub cut : (q : ℕ) (rs : List (Rib LabelId)) (r : Rib LabelId) → rib_at q rs ≡ Some r → Cut q rs r
cut q [] r is = absurd (none≢some r is)
cut q (x ∷ rs) r is = by (nat_eq q (length rs)) refl (cut q rs r) is
  where
    by : (t : Bool) → nat_eq q (length rs) ≡ t → (rib_at q rs ≡ Some r → Cut q rs r)
        → (if t then Some x else rib_at q rs) ≡ Some r → Cut q (x ∷ rs) r
    by true e rest g =
        let at : q ≡ length rs = grind (arith, nat_tests) in
        let all = low_all q rs (omega (arith, at)) in record {
          here = rw (less (length rs) (suc q) (omega (arith, at)), not_less (length rs) q (omega (arith, at)), all, same_Some x r g) refl;
          deep = rw (not_less (length rs) q (omega (arith, at)), all) (sym at);
        }
    by false e rest g =
        let in_rest = inside q rs r g in
        let c = rest g in record {
          here = rw (not_less (length rs) (suc q) (omega (arith, in_rest)), not_less (length rs) q (omega (arith, in_rest))) c.here;
          deep = rw (not_less (length rs) q (omega (arith, in_rest))) c.deep;
        }

-- the same search, where a label is out of reach if the innermost border is deeper

abbrev pub assignee : ℕ → ℕ → LabelId → Target LabelId
assignee b q a = if nat_lt q b then unreachable else reachable a

-- the macro that the context came from
abbrev pub outer_in : Contexts → Option CtxId → Option MacroDefId
outer_in contexts None = None
outer_in contexts (Some c) = contexts.outer_macro c

module _ (contexts : Contexts) (name : Name) where
  abbrev pub walk : ℕ → Sought → List (Rib LabelId) → Target LabelId
  walk b s [] = undeclared
  walk b s (label_rib n h a ∷ rs) = if is_for name s n h then assignee b (length rs) a else walk b s rs
  walk b s (try_rib a typed ∷ rs) = walk b s rs
  walk b s (macro_rib d ∷ rs) = walk b (past_macro contexts d s s.context) rs
  walk b s (barrier_rib ∷ rs) = walk b s rs

  -- behind a border that is deeper than all labels nothing is in reach
  hidden : (b n : ℕ) (s : Sought) (rs : List (Rib LabelId)) → length rs ≤ n → behind (walk b s rs) ≡ walk n s rs
  hidden b n s [] h = refl
  hidden b n s (label_rib m y a ∷ rs) h =
      rw (less (length rs) n (omega (arith, h)))
      (by (is_for name s m y) (nat_lt (length rs) b) (walk b s rs) (walk n s rs) (hidden b n s rs (omega (arith, h))))
    where
      by : (t u : Bool) (x y : Target LabelId) → behind x ≡ y
          → behind (if t then (if u then unreachable else reachable a) else x) ≡ (if t then unreachable else y)
      by true true x y e = refl
      by true false x y e = refl
      by false u x y e = e
  hidden b n s (try_rib a typed ∷ rs) h = hidden b n s rs (omega (arith, h))
  hidden b n s (macro_rib d ∷ rs) h = hidden b n (past_macro contexts d s s.context) rs (omega (arith, h))
  hidden b n s (barrier_rib ∷ rs) h = hidden b n s rs (omega (arith, h))

  pub search_walks : (s : Sought) (rs : List (Rib LabelId)) → search contexts name s rs ≡ walk (past_barrier rs) s rs
  search_walks s [] = refl
  search_walks s (label_rib n h a ∷ rs) = rw (not_less (length rs) (past_barrier rs) (barrier_inside rs), search_walks s rs) refl
  search_walks s (try_rib a typed ∷ rs) = search_walks s rs
  search_walks s (macro_rib d ∷ rs) = search_walks (past_macro contexts d s s.context) rs
  search_walks s (barrier_rib ∷ rs) =
      ap behind (search_walks s rs) ∙ hidden (past_barrier rs) (suc (length rs)) s rs (omega arith)

  -- a rib that isn't met changes nothing
  unmet : (b : ℕ) (s : Sought) (r : Rib LabelId) (rs : List (Rib LabelId))
      → is_met name s.hygiene (outer_in contexts s.context) (Some r) ≡ false → walk b s (r ∷ rs) ≡ walk b s rs
  unmet b s (label_rib n h a) rs e = by (is_for name s n h) e
    where
      by : (t : Bool) → (t || false) ≡ false → (if t then assignee b (length rs) a else walk b s rs) ≡ walk b s rs
      by true e = absurd (true≢false e)
      by false e = refl
  unmet b s (try_rib a typed) rs e = refl
  unmet b s (macro_rib d) rs e = ap (λ z. walk b z rs) (by s.context e)
    where
      kept : (t : Bool) (c : CtxId) → t ≡ false → (if t then climbed contexts c else s) ≡ s
      kept true c e = absurd (true≢false e)
      kept false c e = refl

      by : (o : Option CtxId) → is_the (outer_in contexts o) d ≡ false → past_macro contexts d s o ≡ s
      by None e = refl
      by (Some c) e = kept (is_the (contexts.outer_macro c) d) c e
  unmet b s barrier_rib rs e = refl

  -- nor do all those between two depths
  skip : (b : ℕ) (s : Sought) (p q : ℕ) (rs : List (Rib LabelId)) → q ≤ p
      → ((r : ℕ) → q ≤ r → r < p → is_met name s.hygiene (outer_in contexts s.context) (rib_at r rs) ≡ false)
      → walk b s (low p rs) ≡ walk b s (low q rs)
  skip b s p q [] le none = refl
  skip b s p q (x ∷ rs) le none =
      by (nat_lt (length rs) q) (nat_lt (length rs) p) refl refl (λ o from. skip b s o q rs from)
    where
      emitted : Option (Rib LabelId) → Bool
      emitted r = is_met name s.hygiene (outer_in contexts s.context) r

      here : q ≤ length rs → length rs < p → emitted (Some x) ≡ false
      here from below =
          let same : nat_eq (length rs) (length rs) ≡ true = grind (arith, nat_tests) in
          let is : rib_at (length rs) (x ∷ rs) ≡ Some x = rw same refl in
          sym (ap emitted is) ∙ none (length rs) from below

      aside : (r : ℕ) → r < length rs → rib_at r (x ∷ rs) ≡ rib_at r rs
      aside r h = let other : nat_eq r (length rs) ≡ false = grind (arith, nat_tests) in rw other refl

      by : (t u : Bool) → nat_lt (length rs) q ≡ t → nat_lt (length rs) p ≡ u
          → ((o : ℕ) → q ≤ o → ((r : ℕ) → q ≤ r → r < o → emitted (rib_at r rs) ≡ false) → walk b s (low o rs) ≡ walk b s (low q rs))
          → walk b s (if u then x ∷ rs else low p rs) ≡ walk b s (if t then x ∷ rs else low q rs)
      by true true e f more = refl
      by true false e f more = absurd (let a : length rs < q = grind (arith, nat_tests) in
          let c : p ≤ length rs = grind (arith, nat_tests) in omega (arith, a, c, le))
      by false true e f more =
          let from : q ≤ length rs = grind (arith, nat_tests) in
          let below : length rs < p = grind (arith, nat_tests) in
          unmet b s x rs (here from below)
          ∙ (ap (walk b s) (sym (low_all (length rs) rs (omega arith)))
          ∙ more (length rs) from
          (λ r at under. sym (ap emitted (aside r under)) ∙ none r at (omega (arith, under, below))))
      by false false e f more =
          let out : p ≤ length rs = grind (arith, nat_tests) in
          more p le (λ r at under. sym (ap emitted (aside r (omega (arith, under, out)))) ∙ none r at under)

  module _ (b : ℕ) (s : Sought) (below : ℕ) (rs : List (Rib LabelId)) where
    abbrev met : ℕ → Bool
    met q = is_met name s.hygiene (outer_in contexts s.context) (rib_at q rs)

    -- where nothing is met
    pub walk_none : IsDeepest met below None → walk b s (low below rs) ≡ undeclared
    walk_none none =
        skip b s below 0 rs (omega arith) (λ r at under. none r under) ∙ ap (walk b s) (low_none rs)

    -- to what is met first
    to_first : (q : ℕ) → IsDeepest met below (Some q) → walk b s (low below rs) ≡ walk b s (low (suc q) rs)
    to_first q h = skip b s below (suc q) rs (let e = h.0 in omega (arith, e)) (λ r at under. h.2 r (omega (arith, at)) under)

    -- where that is a label
    pub walk_label : (q : ℕ) (a : LabelId) → IsDeepest met below (Some q) → label_in (rib_at q rs) ≡ Some a
        → walk b s (low below rs) ≡ assignee b q a
    walk_label q a h is = to_first q h ∙ by (rib_at q rs) refl h.1 is
      where
        found : (n : Name) (y : HygieneId) (x : LabelId) → Cut q rs (label_rib n y x) → (t : Bool) → is_for name s n y ≡ t
            → (t || false) ≡ true → Some x ≡ Some a → walk b s (low (suc q) rs) ≡ assignee b q a
        found n y x c true e f g = rw (c.here, e, c.deep) (ap (assignee b q) (ap (λ o. or_a o) g))
          where
            or_a : Option LabelId → LabelId
            or_a None = a
            or_a (Some z) = z
        found n y x c false e f g = absurd (true≢false (sym f))

        by : (o : Option (Rib LabelId)) → rib_at q rs ≡ o → is_met name s.hygiene (outer_in contexts s.context) o ≡ true
            → label_in o ≡ Some a → walk b s (low (suc q) rs) ≡ assignee b q a
        by None e f g = absurd (none≢some a g)
        by (Some (label_rib n y x)) e f g = found n y x (cut q rs (label_rib n y x) e) (is_for name s n y) refl f g
        by (Some (try_rib x typed)) e f g = absurd (none≢some a g)
        by (Some (macro_rib d)) e f g = absurd (none≢some a g)
        by (Some barrier_rib) e f g = absurd (none≢some a g)

    -- where that is no label, it is the definition of the macro that the context came from
    pub record Climbs (q : ℕ) : Type 0 where
      pub from : CtxId
      pub is : s.context ≡ Some from
      pub came : (contexts.outer_macro from ≡ None) → ⊥
      pub walks : walk b s (low below rs) ≡ walk b (climbed contexts from) (low q rs)

    pub walk_macro : (q : ℕ) → IsDeepest met below (Some q) → label_in (rib_at q rs) ≡ None → Climbs q
    walk_macro q h is = by (rib_at q rs) refl h.1 is
      where
        not_none : (o : Option MacroDefId) (d : MacroDefId) → is_the o d ≡ true → o ≡ None → ⊥
        not_none None d e n = true≢false (sym e)
        not_none (Some m) d e n = none≢some m (sym n)

        climbing : (d : MacroDefId) → Cut q rs (macro_rib d) → (o : Option CtxId) → s.context ≡ o → is_the (outer_in contexts o) d ≡ true
            → Climbs q
        climbing d c None e f = absurd (true≢false (sym f))
        climbing d k (Some c) e f = record {
          from = c;
          is = e;
          came = not_none (contexts.outer_macro c) d f;
          walks = to_first q h
              ∙ (ap (walk b s) k.here ∙ ap (λ z. walk b z (low q rs)) (ap (past_macro contexts d s) e ∙ rw f refl));
        }

        by : (o : Option (Rib LabelId)) → rib_at q rs ≡ o → is_met name s.hygiene (outer_in contexts s.context) o ≡ true
            → label_in o ≡ None → Climbs q
        by None e f g = absurd (true≢false (sym f))
        by (Some (label_rib n y x)) e f g = absurd (none≢some x (sym g))
        by (Some (try_rib x typed)) e f g = absurd (true≢false (sym f))
        by (Some (macro_rib d)) e f g = climbing d (cut q rs (macro_rib d) e) s.context refl f
        by (Some barrier_rib) e f g = absurd (true≢false (sym f))

-- how many labels of a name and definitions are less deep

module _ (name : Name) where
  abbrev pub count : List (Rib LabelId) → ℕ
  count rs = length (labels_of name rs) + length (macros_of rs)

  one_more : (r : Rib LabelId) (rs : List (Rib LabelId)) → count rs ≤ count (r ∷ rs)
  one_more (label_rib n h a) rs = by (same_name n name)
    where
      by : (t : Bool) → length (labels_of name rs) + length (macros_of rs)
          ≤ length (if t then a ∷ labels_of name rs else labels_of name rs) + length (macros_of rs)
      by true = omega arith
      by false = omega arith
  one_more (try_rib a typed) rs = omega arith
  one_more (macro_rib d) rs = omega arith
  one_more barrier_rib rs = omega arith

  pub few : (rs : List (Rib LabelId)) → count rs ≤ length rs
  few [] = omega arith
  few (label_rib n h a ∷ rs) = by (same_name n name) (few rs)
    where
      by : (t : Bool) → count rs ≤ length rs
          → length (if t then a ∷ labels_of name rs else labels_of name rs) + length (macros_of rs) ≤ suc (length rs)
      by true e = omega (arith, e)
      by false e = omega (arith, e)
  few (try_rib a typed ∷ rs) = let e = few rs in omega (arith, e)
  few (macro_rib d ∷ rs) = let e = few rs in omega (arith, e)
  few (barrier_rib ∷ rs) = let e = few rs in omega (arith, e)

  fewer : (q p : ℕ) (rs : List (Rib LabelId)) → q ≤ p → count (low q rs) ≤ count (low p rs)
  fewer q p [] le = omega arith
  fewer q p (x ∷ rs) le =
      by (nat_lt (length rs) q) (nat_lt (length rs) p) refl refl (λ o from. fewer q o rs from)
    where
      by : (t u : Bool) → nat_lt (length rs) q ≡ t → nat_lt (length rs) p ≡ u
          → ((o : ℕ) → q ≤ o → count (low q rs) ≤ count (low o rs))
          → count (if t then x ∷ rs else low q rs) ≤ count (if u then x ∷ rs else low p rs)
      by true true e f less = omega arith
      by true false e f less = absurd (let a : length rs < q = grind (arith, nat_tests) in
          let c : p ≤ length rs = grind (arith, nat_tests) in omega (arith, a, c, le))
      by false true e f less =
          let from : q ≤ length rs = grind (arith, nat_tests) in
          let more = less (length rs) from in
          let all = ap count (low_all (length rs) rs (omega arith)) in
          let one = one_more x rs in omega (arith, more, all, one)
      by false false e f less = less p le

  -- what is met is one of them
  pub counted : (h : HygieneId) (outer : Option MacroDefId) (q below : ℕ) (rs : List (Rib LabelId)) → q < below
      → is_met name h outer (rib_at q rs) ≡ true → suc (count (low q rs)) ≤ count (low below rs)
  counted h outer q below rs le is =
      let rest = fewer (suc q) below rs (omega (arith, le)) in
      let one = by (rib_at q rs) refl is in omega (arith, rest, one)
    where
      named : (a : LabelId) (t u : Bool) → ((t && u) || false) ≡ true
          → suc (count (low q rs))
          ≤ length (if t then a ∷ labels_of name (low q rs) else labels_of name (low q rs)) + length (macros_of (low q rs))
      named a true u e = omega arith
      named a false u e = absurd (true≢false (sym e))

      by : (o : Option (Rib LabelId)) → rib_at q rs ≡ o → is_met name h outer o ≡ true
          → suc (count (low q rs)) ≤ count (low (suc q) rs)
      by None e f = absurd (true≢false (sym f))
      by (Some (label_rib n y a)) e f =
          let c = cut q rs (label_rib n y a) e in rw c.here (named a (same_name n name) (nat_eq y.0 h.0) f)
      by (Some (try_rib a typed)) e f = absurd (true≢false (sym f))
      by (Some (macro_rib d)) e f = let c = cut q rs (macro_rib d) e in rw c.here (omega arith)
      by (Some barrier_rib) e f = absurd (true≢false (sym f))

-- the innermost `try`, where no border is deeper
tries_behind : (b : ℕ) (rs : List (Rib LabelId)) → length rs ≤ b → last_try b (tries_of rs) ≡ None
tries_behind b [] h = refl
tries_behind b (label_rib n y a ∷ rs) h = tries_behind b rs (omega (arith, h))
tries_behind b (try_rib a typed ∷ rs) h = rw (less (length rs) b (omega (arith, h))) refl
tries_behind b (macro_rib d ∷ rs) h = tries_behind b rs (omega (arith, h))
tries_behind b (barrier_rib ∷ rs) h = tries_behind b rs (omega (arith, h))

pub try_found : (rs : List (Rib LabelId)) → innermost_try_rib rs ≡ last_try (past_barrier rs) (tries_of rs)
try_found [] = refl
try_found (label_rib n h a ∷ rs) = try_found rs
try_found (try_rib a typed ∷ rs) = rw (not_less (length rs) (past_barrier rs) (barrier_inside rs)) refl
try_found (macro_rib d ∷ rs) = try_found rs
try_found (barrier_rib ∷ rs) = sym (tries_behind (suc (length rs)) rs (omega arith))

pub hidden_there : (q b : ℕ) (a : LabelId) → q < b → assignee b q a ≡ unreachable
hidden_there q b a h = rw (less q b h) refl

pub seen_there : (q b : ℕ) (a : LabelId) → b ≤ q → assignee b q a ≡ reachable a
seen_there q b a h = rw (not_less q b h) refl
