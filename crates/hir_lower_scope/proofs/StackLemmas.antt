-- The sets and stacks stay what is open.
use Rattle.std.proofs.Common.{arith, ◌≡◌, ◌∙◌, refl, sym, ap, ℕ, zero, suc, ◌+◌, ◌<◌, ◌≤◌, Bool, true, false, true≢false, ◌&&◌, ◌||◌}
use Rattle.std.proofs.Common.{if◌then◌else◌, cond, List, [], ◌∷◌, ◌++◌, length, length-append, reverse, Option, None, Some}
use Rattle.std.specs.Prelude.{nat_eq, nat_lt, slice_get, unwrap_or, Result, Ok, Err, OnErr, MatchOption, option_to_list}
use Rattle.std.specs.BTreeMap.{is_at, insert_entry}
use Rattle.std.specs.BTreeSet.{BTreeSet, contains}
use Rattle.std.specs.List.{list_any}
use Rattle.std.specs.Ordering.{is_eq, match_ordering, nat_cmp, ordering_then}
use Rattle.std.specs.declared.cmp.Ordering.{Ordering}
use Rattle.std.specs.declared.cmp.Ordering.TheVariants.{Less, Equal, Greater}
use Rattle.std.proofs.lemmas.List.{reverse-append, length-reverse}
use Rattle.std.proofs.lemmas.Option.{same_Some}
use Rattle.std.proofs.lemmas.Bool.Decides.{nat_tests}
use Rattle.hir_store.specs.NameOrder.{name_cmp}
use Rattle.hir_store.specs.Names.{same_name}
use Rattle.hir_store.specs.declared.name.Name.{Name}
use Rattle.hir_store.specs.declared.name.Name.TheVariants.{Missing}
use Rattle.hir_store.specs.declared.ids.LabelId.{LabelId}
use Rattle.hir_store.specs.declared.ids.HygieneId.{HygieneId}
use Rattle.hir_store.specs.declared.ids.MacroDefId.{MacroDefId}
use Rattle.hir_lower_scope.specs.ScopeRibs.{Rib, label_rib, try_rib, macro_rib, barrier_rib}
use Rattle.hir_lower_scope.specs.declared.stacks.Opened.{Opened}
use Rattle.hir_lower_scope.specs.declared.stacks.Opened.TheVariants as opened
use Rattle.hir_lower_scope.specs.declared.stacks.OpenTry.{OpenTry}
use Rattle.hir_lower_scope.specs.Depths.{IsDeepest, by_key, deeper}
use Rattle.hir_lower_scope.specs.Ribs.{tries_of, barriers_of, rib_at, is_label, is_outer, label_in}
use Rattle.hir_lower_scope.specs.Stacks.{name_in, name_at, rib_of, ribs_of, number_of, Known, Numbered, label_cmp, macro_cmp, is_marked}
use Rattle.hir_lower_scope.specs.Stacks.{Sorted, Grown}
use Rattle.hir_lower_scope.proofs.NameLemmas.{same_is, same_from, same_names}
use Rattle.hir_lower_scope.proofs.WalkLemmas.{nothing_there, passed}

none≢some : {A : Type 0} (x : A) → None ≡ Some x → ⊥
none≢some x e = true≢false (ap (λ (o : Option _). is_none o) e)
  where
    is_none : {A : Type 0} → Option A → Bool
    is_none None = true
    is_none (Some y) = false

-- names

module _ (es : List (Name × ℕ)) (known : Known es) where
  -- the name at the number of a name is that name
  pub name_there : (n : Name) (k : ℕ) → number_of n es ≡ Some k → name_at es k ≡ n
  name_there n k h = ap (λ o. unwrap_or o Missing) (known.named n k h)

  -- names are one where their numbers are
  same_number : (n m : Name) (k j : ℕ) → number_of n es ≡ Some k → number_of m es ≡ Some j → same_name n m ≡ nat_eq k j
  same_number n m k j h i = by (same_name n m) (nat_eq k j) refl refl
    where
      by : (t u : Bool) → same_name n m ≡ t → nat_eq k j ≡ u → t ≡ u
      by true true e f = refl
      by true false e f =
          let one = same_Some k j (sym h ∙ (ap (λ z. number_of z es) (same_is n m e) ∙ i)) in
          let hit : nat_eq k j ≡ true = grind (arith, nat_tests) in sym hit ∙ f
      by false true e f =
          let one : k ≡ j = grind (arith, nat_tests) in
          let names = same_Some n m (sym (known.named n k h) ∙ (ap (name_in es) one ∙ known.named m j i)) in
          sym e ∙ same_from n m names
      by false false e f = refl

-- with a name more

name_in_more : (n : Name) (v : ℕ) (es : List (Name × ℕ)) → number_of n es ≡ None → name_in es v ≡ None → (k : ℕ)
    → name_in (insert_entry name_cmp es n v) k ≡ (if nat_eq v k then Some n else name_in es k)
name_in_more n v [] h f k = refl
name_in_more n v (e ∷ es) h f k = by (name_cmp n e.0) h (λ new. name_in_more n v es new (split (nat_eq e.1 v) f).1 k)
  where
    split : (t : Bool) → (if t then Some e.0 else name_in es v) ≡ None → (t ≡ false) × (name_in es v ≡ None)
    split true g = absurd (none≢some e.0 (sym g))
    split false g = (refl, g)

    apart : nat_eq e.1 k ≡ true → nat_eq v k ≡ true → ⊥
    apart a b = let same : nat_eq e.1 v ≡ true = grind (arith, nat_tests) in true≢false (sym same ∙ (split (nat_eq e.1 v) f).0)

    swap : (t u : Bool) → (t ≡ true → u ≡ true → ⊥) → (x y : Option Name) → x ≡ (if u then Some n else y)
        → (if t then Some e.0 else x) ≡ (if u then Some n else (if t then Some e.0 else y))
    swap true true diff x y r = absurd (diff refl refl)
    swap true false diff x y r = refl
    swap false u diff x y r = r

    by : (o : Ordering) → cond (is_eq o) (Some e.1) (number_of n es) ≡ None
        → (number_of n es ≡ None → name_in (insert_entry name_cmp es n v) k ≡ (if nat_eq v k then Some n else name_in es k))
        → name_in (match_ordering o ((n, v) ∷ e ∷ es) ((e.0, v) ∷ es) (e ∷ insert_entry name_cmp es n v)) k
        ≡ (if nat_eq v k then Some n else name_in (e ∷ es) k)
    by Less g more = refl
    by Equal g more = absurd (none≢some e.1 (sym g))
    by Greater g more =
        swap (nat_eq e.1 k) (nat_eq v k) apart (name_in (insert_entry name_cmp es n v) k) (name_in es k) (more g)

length_more : (n : Name) (v : ℕ) (es : List (Name × ℕ)) → number_of n es ≡ None → length (insert_entry name_cmp es n v) ≡ suc (length es)
length_more n v [] h = refl
length_more n v (e ∷ es) h = by (name_cmp n e.0) h (length_more n v es)
  where
    by : (o : Ordering) → cond (is_eq o) (Some e.1) (number_of n es) ≡ None
        → (number_of n es ≡ None → length (insert_entry name_cmp es n v) ≡ suc (length es))
        → length (match_ordering o ((n, v) ∷ e ∷ es) ((e.0, v) ∷ es) (e ∷ insert_entry name_cmp es n v)) ≡ suc (suc (length es))
    by Less g more = refl
    by Equal g more = absurd (none≢some e.1 (sym g))
    by Greater g more = ap suc (more g)

module _ (n : Name) (es fs : List (Name × ℕ)) (known : Known es) (new : number_of n es ≡ None)
    (inserted : fs ≡ insert_entry name_cmp es n (length es))
    (updated : (q : Name) → number_of q fs ≡ cond (is_at (name_cmp n) q) (Some (length es)) (number_of q es)) where
  in_more : (k : ℕ) → name_in fs k ≡ (if nat_eq (length es) k then Some n else name_in es k)
  in_more k = ap (λ z. name_in z k) inserted
      ∙ name_in_more n (length es) es new (known.free (length es) (omega arith)) k

  same_at : (m : Name) → is_at (name_cmp n) m ≡ true → n ≡ m
  same_at m h = same_is n m (same_names n m ∙ h)

  numbers_more : (m : Name) (k : ℕ) → number_of m es ≡ Some k → number_of m fs ≡ Some k
  numbers_more m k h = updated m ∙ by (is_at (name_cmp n) m) refl
    where
      by : (t : Bool) → is_at (name_cmp n) m ≡ t → cond t (Some (length es)) (number_of m es) ≡ Some k
      by true same = absurd (none≢some k (sym (ap (λ z. number_of z es) (sym (same_at m same)) ∙ new) ∙ h))
      by false other = h

  others_more : (m : Name) (k : ℕ) → number_of m es ≡ None → number_of m fs ≡ Some k → name_in es k ≡ None
  others_more m k h i = by (is_at (name_cmp n) m) (sym (updated m) ∙ i)
    where
      by : (t : Bool) → cond t (Some (length es)) (number_of m es) ≡ Some k → name_in es k ≡ None
      by true e = let last = same_Some (length es) k e in known.free k (omega (arith, last))
      by false e = absurd (none≢some k (sym h ∙ e))

  unnamed_more : (k : ℕ) → name_in fs k ≡ None → name_in es k ≡ None
  unnamed_more k h = by (nat_eq (length es) k) (sym (in_more k) ∙ h)
    where
      by : (t : Bool) → (if t then Some n else name_in es k) ≡ None → name_in es k ≡ None
      by true e = absurd (none≢some n (sym e))
      by false e = e

  known_more : Known fs
  known_more = record { named = λ m k h. named m k (is_at (name_cmp n) m) refl (sym (updated m) ∙ h); free = free }
    where
      named : (m : Name) (k : ℕ) (t : Bool) → is_at (name_cmp n) m ≡ t → cond t (Some (length es)) (number_of m es) ≡ Some k
          → name_in fs k ≡ Some m
      named m k true same e =
          let last : length es ≡ k = same_Some (length es) k e in
          let hit : nat_eq (length es) k ≡ true = grind (arith, nat_tests) in
          in_more k ∙ rw hit (ap (λ z. Some z) (same_at m same))
      named m k false other e = by (nat_eq (length es) k) refl
        where
          by : (t : Bool) → nat_eq (length es) k ≡ t → name_in fs k ≡ Some m
          by true f =
              let out : length es ≤ k = grind (arith, nat_tests) in
              absurd (none≢some m (sym (known.free k out) ∙ known.named m k e))
          by false f = in_more k ∙ rw f (known.named m k e)

      free : (k : ℕ) → length fs ≤ k → name_in fs k ≡ None
      free k h =
          let more = ap length inserted ∙ length_more n (length es) es new in
          let out : suc (length es) ≤ k = omega (arith, h, more) in
          let miss : nat_eq (length es) k ≡ false = grind (arith, nat_tests) in
          in_more k ∙ rw miss (known.free k (omega (arith, out)))

  pub grown_by : Grown es fs
  grown_by = record { numbers = numbers_more; others = others_more; unnamed = unnamed_more; known = known_more }

module _ (es fs : List (Name × ℕ)) (g : Grown es fs) where
  pub ribs_grown : (os : List Opened) → Numbered es os → ribs_of fs os ≡ ribs_of es os
  ribs_grown [] p = refl
  ribs_grown (opened.Label k h a ∷ os) p =
      ap (λ n. label_rib n h a ∷ ribs_of fs os) (name_there fs g.known (name_at es k) k (g.numbers (name_at es k) k p.0))
      ∙ ap (λ rs. label_rib (name_at es k) h a ∷ rs) (ribs_grown os p.1)
  ribs_grown (opened.Try a typed ∷ os) p = ap (λ rs. try_rib a typed ∷ rs) (ribs_grown os p)
  ribs_grown (opened.MacroDef d ∷ os) p = ap (λ rs. macro_rib d ∷ rs) (ribs_grown os p)
  ribs_grown (opened.Barrier ∷ os) p = ap (λ rs. barrier_rib ∷ rs) (ribs_grown os p)

  numbered_grown : (os : List Opened) → Numbered es os → Numbered fs os
  numbered_grown [] p = tt
  numbered_grown (opened.Label k h a ∷ os) p =
      let number = g.numbers (name_at es k) k p.0 in
      (ap (λ n. number_of n fs) (name_there fs g.known (name_at es k) k number) ∙ number, numbered_grown os p.1)
  numbered_grown (opened.Try a typed ∷ os) p = numbered_grown os p
  numbered_grown (opened.MacroDef d ∷ os) p = numbered_grown os p
  numbered_grown (opened.Barrier ∷ os) p = numbered_grown os p

  pub sorted_grown : (ls : BTreeSet ((ℕ × HygieneId) × ℕ)) (ms : BTreeSet (MacroDefId × ℕ)) (os : List Opened) (ts : List OpenTry)
      (bs : List ℕ) → Sorted es ls ms os ts bs → Sorted fs ls ms os ts bs
  sorted_grown ls ms os ts bs s = let e = sym (ribs_grown os s.numbered) in record {
    labels = λ n h q. marked n h q (number_of n es) (number_of n fs) refl refl (s.labels n h q)
        ∙ ap (λ rs. is_label n h (rib_at q rs)) e;
    macros = λ d q. s.macros d q ∙ ap (λ rs. is_outer (Some d) (rib_at q rs)) e;
    unnamed = λ k h q none. s.unnamed k h q (g.unnamed k none);
    tries = s.tries ∙ ap tries_of e;
    barriers = s.barriers ∙ ap barriers_of e;
    numbered = numbered_grown os s.numbered;
    known = g.known;
  }
    where
      marked : (n : Name) (h : HygieneId) (q : ℕ) (o i : Option ℕ) → number_of n es ≡ o → number_of n fs ≡ i
          → is_marked ls o h q ≡ is_label n h (rib_at q (ribs_of es os)) → is_marked ls i h q ≡ is_label n h (rib_at q (ribs_of es os))
      marked n h q None None e f is = is
      marked n h q None (Some k) e f is = s.unnamed k h q (g.others n k e f) ∙ is
      marked n h q (Some k) None e f is = absurd (none≢some k (sym f ∙ g.numbers n k e))
      marked n h q (Some k) (Some j) e f is =
          ap (λ z. contains (by_key label_cmp) ls ((z, h), q)) (same_Some j k (sym f ∙ g.numbers n k e)) ∙ is

-- depths

length_ribs : (es : List (Name × ℕ)) (os : List Opened) → length (ribs_of es os) ≡ length os
length_ribs es [] = refl
length_ribs es (o ∷ os) = ap suc (length_ribs es os)

tied : (o i : Ordering) → is_eq (ordering_then o i) ≡ (is_eq o && is_eq i)
tied Less i = refl
tied Equal i = refl
tied Greater i = refl

tied_numbers : (k j : ℕ) → is_eq (nat_cmp k j) ≡ nat_eq k j
tied_numbers k j = grind (arith, nat_tests)

-- the key that stands at a label's name, hygiene and depth
label_at : (k j : ℕ) (h i : HygieneId) (d q : ℕ)
    → is_at (by_key label_cmp ((k, h), d)) ((j, i), q) ≡ ((nat_eq k j && nat_eq h.0 i.0) && nat_eq d q)
label_at k j h i d q = tied (ordering_then (nat_cmp k j) (nat_cmp h.0 i.0)) (nat_cmp d q)
    ∙ rw (tied (nat_cmp k j) (nat_cmp h.0 i.0), tied_numbers k j, tied_numbers h.0 i.0, tied_numbers d q) refl

macro_at : (m n : MacroDefId) (d q : ℕ) → is_at (by_key macro_cmp (m, d)) (n, q) ≡ (nat_eq m.0 n.0 && nat_eq d q)
macro_at m n d q = tied (nat_cmp m.0 n.0) (nat_cmp d q) ∙ rw (tied_numbers m.0 n.0, tied_numbers d q) refl

turned : (k j : ℕ) → nat_eq k j ≡ nat_eq j k
turned k j = grind (arith, nat_tests)

module _ (emitted : Option (Rib LabelId) → Bool) (none : emitted None ≡ false) (r : Rib LabelId) (rs : List (Rib LabelId)) (same : Bool)
    (is : emitted (Some r) ≡ same) (q : ℕ) where
  -- told of a rib more at its depth, where `was` is told of the others
  opens : (was now : Bool) → was ≡ emitted (rib_at q rs) → now ≡ cond (same && nat_eq (length rs) q) true was
      → now ≡ emitted (rib_at q (r ∷ rs))
  opens was now old e = by (nat_eq q (length rs)) (nat_eq (length rs) q) refl (turned (length rs) q)
    where
      by : (t u : Bool) → nat_eq q (length rs) ≡ t → u ≡ nat_eq q (length rs) → now ≡ emitted (if t then Some r else rib_at q rs)
      by true u f g =
          let out : length rs ≤ q = grind (arith, nat_tests) in
          e ∙ (rw (turned (length rs) q, f, old, nothing_there q rs out, none) (kept same) ∙ sym is)
        where
          kept : (t : Bool) → cond (t && true) true false ≡ t
          kept true = refl
          kept false = refl
      by false u f g = e ∙ (rw (turned (length rs) q, f) (kept same) ∙ old)
        where
          kept : (t : Bool) → cond (t && false) true was ≡ was
          kept true = refl
          kept false = refl

  -- told of the others, where `was` is told of all
  closes : (was now : Bool) → was ≡ emitted (rib_at q (r ∷ rs)) → now ≡ cond (same && nat_eq (length rs) q) false was
      → now ≡ emitted (rib_at q rs)
  closes was now old e = by (nat_eq q (length rs)) refl old
    where
      by : (t : Bool) → nat_eq q (length rs) ≡ t → was ≡ emitted (if t then Some r else rib_at q rs) → now ≡ emitted (rib_at q rs)
      by true f o =
          let out : length rs ≤ q = grind (arith, nat_tests) in
          e ∙ (rw (turned (length rs) q, f, o, is, nothing_there q rs out, none) (kept same))
        where
          kept : (t : Bool) → cond (t && true) false t ≡ false
          kept true = refl
          kept false = refl
      by false f o = e ∙ (rw (turned (length rs) q, f) (kept same) ∙ o)
        where
          kept : (t : Bool) → cond (t && false) false was ≡ was
          kept true = refl
          kept false = refl

-- what is opened

module _ (es : List (Name × ℕ)) (ls : BTreeSet ((ℕ × HygieneId) × ℕ)) (ms : BTreeSet (MacroDefId × ℕ)) (os : List Opened)
    (ts : List OpenTry) (bs : List ℕ) (s : Sorted es ls ms os ts bs) where
  pub sorted_label : (n : Name) (k : ℕ) (h : HygieneId) (a : LabelId) → number_of n es ≡ Some k → (new : BTreeSet ((ℕ × HygieneId) × ℕ))
      → ((x : (ℕ × HygieneId) × ℕ) → contains (by_key label_cmp) new x
      ≡ cond (is_at (by_key label_cmp ((k, h), length os)) x) true (contains (by_key label_cmp) ls x))
      → Sorted es new ms (opened.Label k h a ∷ os) ts bs
  sorted_label n k h a is new updates = record {
    labels = λ m i q. marked m i q (number_of m es) refl (s.labels m i q);
    macros = λ d q. s.macros d q
        ∙ sym (passed (is_outer (Some d)) refl q (label_rib (name_at es k) h a) (ribs_of es os) refl);
    unnamed = λ j i q none. unnamed j i q none;
    tries = s.tries;
    barriers = s.barriers;
    numbered = (ap (λ z. number_of z es) named ∙ is, s.numbered);
    known = s.known;
  }
    where
      named : name_at es k ≡ n
      named = name_there es s.known n k is

      there : (j : ℕ) (i : HygieneId) (q : ℕ) → contains (by_key label_cmp) new ((j, i), q)
          ≡ cond ((nat_eq k j && nat_eq h.0 i.0) && nat_eq (length os) q) true (contains (by_key label_cmp) ls ((j, i), q))
      there j i q = updates ((j, i), q)
          ∙ ap (λ t. cond t true (contains (by_key label_cmp) ls ((j, i), q))) (label_at k j h i (length os) q)

      marked : (m : Name) (i : HygieneId) (q : ℕ) (o : Option ℕ) → number_of m es ≡ o
          → is_marked ls o i q ≡ is_label m i (rib_at q (ribs_of es os))
          → is_marked new o i q ≡ is_label m i (rib_at q (label_rib (name_at es k) h a ∷ ribs_of es os))
      marked m i q None e was = was ∙ sym (passed (is_label m i) refl q (label_rib (name_at es k) h a) (ribs_of es os) other)
        where
          no : (t : Bool) → same_name n m ≡ t → (t && nat_eq h.0 i.0) ≡ false
          no true f = absurd (none≢some k (sym e ∙ (ap (λ z. number_of z es) (sym (same_is n m f)) ∙ is)))
          no false f = refl

          other : (same_name (name_at es k) m && nat_eq h.0 i.0) ≡ false
          other = rw named (no (same_name n m) refl)
      marked m i q (Some j) e was = opens (is_label m i) refl (label_rib (name_at es k) h a) (ribs_of es os)
          (nat_eq k j && nat_eq h.0 i.0) (rw (named, same_number es s.known n m k j is e) refl) q
          (contains (by_key label_cmp) ls ((j, i), q)) (contains (by_key label_cmp) new ((j, i), q)) was
          (there j i q ∙ ap (λ l. cond ((nat_eq k j && nat_eq h.0 i.0) && nat_eq l q) true (contains (by_key label_cmp) ls ((j, i), q)))
          (sym (length_ribs es os)))

      unnamed : (j : ℕ) (i : HygieneId) (q : ℕ) → name_in es j ≡ None → contains (by_key label_cmp) new ((j, i), q) ≡ false
      unnamed j i q none = there j i q ∙ by (nat_eq k j) refl
        where
          by : (t : Bool) → nat_eq k j ≡ t
              → cond ((t && nat_eq h.0 i.0) && nat_eq (length os) q) true (contains (by_key label_cmp) ls ((j, i), q)) ≡ false
          by true e =
              let one : k ≡ j = grind (arith, nat_tests) in
              absurd (none≢some n (sym (ap (name_in es) one ∙ none) ∙ s.known.named n k is))
          by false e = s.unnamed j i q none

  pub sorted_macro : (d : MacroDefId) (new : BTreeSet (MacroDefId × ℕ))
      → ((x : MacroDefId × ℕ) → contains (by_key macro_cmp) new x
      ≡ cond (is_at (by_key macro_cmp (d, length os)) x) true (contains (by_key macro_cmp) ms x))
      → Sorted es ls new (opened.MacroDef d ∷ os) ts bs
  sorted_macro d new updates = record {
    labels = λ n h q. s.labels n h q ∙ sym (passed (is_label n h) refl q (macro_rib d) (ribs_of es os) refl);
    macros = λ m q. opens (is_outer (Some m)) refl (macro_rib d) (ribs_of es os) (nat_eq d.0 m.0) (turned m.0 d.0) q
        (contains (by_key macro_cmp) ms (m, q)) (contains (by_key macro_cmp) new (m, q)) (s.macros m q)
        (updates (m, q) ∙ (ap (λ t. cond t true (contains (by_key macro_cmp) ms (m, q))) (macro_at d m (length os) q)
        ∙ ap (λ l. cond (nat_eq d.0 m.0 && nat_eq l q) true (contains (by_key macro_cmp) ms (m, q))) (sym (length_ribs es os))));
    unnamed = s.unnamed;
    tries = s.tries;
    barriers = s.barriers;
    numbered = s.numbered;
    known = s.known;
  }

  pub sorted_try : (t : OpenTry) → t.depth ≡ length os → Sorted es ls ms (opened.Try t.label t.typed ∷ os) (t ∷ ts) bs
  sorted_try t deep = record {
    labels = λ n h q. s.labels n h q ∙ sym (passed (is_label n h) refl q (try_rib t.label t.typed) (ribs_of es os) refl);
    macros = λ d q. s.macros d q ∙ sym (passed (is_outer (Some d)) refl q (try_rib t.label t.typed) (ribs_of es os) refl);
    unnamed = s.unnamed;
    tries = ap (λ d. record { depth = d; label = t.label; typed = t.typed } ∷ ts) (deep ∙ sym (length_ribs es os))
        ∙ ap (λ z. record { depth = length (ribs_of es os); label = t.label; typed = t.typed } ∷ z) s.tries;
    barriers = s.barriers;
    numbered = s.numbered;
    known = s.known;
  }

  pub sorted_barrier : (d : ℕ) → d ≡ suc (length os) → Sorted es ls ms (opened.Barrier ∷ os) ts (d ∷ bs)
  sorted_barrier d deep = record {
    labels = λ n h q. s.labels n h q ∙ sym (passed (is_label n h) refl q barrier_rib (ribs_of es os) refl);
    macros = λ m q. s.macros m q ∙ sym (passed (is_outer (Some m)) refl q barrier_rib (ribs_of es os) refl);
    unnamed = s.unnamed;
    tries = s.tries;
    barriers = ap (λ z. z ∷ bs) (deep ∙ ap suc (sym (length_ribs es os))) ∙ ap (λ z. suc (length (ribs_of es os)) ∷ z) s.barriers;
    numbered = s.numbered;
    known = s.known;
  }

-- what is closed

abbrev pub tail_of : {A : Type 0} → List A → List A
tail_of [] = []
tail_of (x ∷ xs) = xs

module _ (es : List (Name × ℕ)) (ls : BTreeSet ((ℕ × HygieneId) × ℕ)) (ms : BTreeSet (MacroDefId × ℕ)) (os : List Opened)
    (ts : List OpenTry) (bs : List ℕ) where
  pub sorted_unlabel : (k : ℕ) (h : HygieneId) (a : LabelId) → Sorted es ls ms (opened.Label k h a ∷ os) ts bs
      → (new : BTreeSet ((ℕ × HygieneId) × ℕ))
      → ((x : (ℕ × HygieneId) × ℕ) → contains (by_key label_cmp) new x
      ≡ cond (is_at (by_key label_cmp ((k, h), length os)) x) false (contains (by_key label_cmp) ls x))
      → Sorted es new ms os ts bs
  sorted_unlabel k h a s new updates = record {
    labels = λ m i q. marked m i q (number_of m es) refl (s.labels m i q);
    macros = λ d q. s.macros d q ∙ passed (is_outer (Some d)) refl q (label_rib n h a) (ribs_of es os) refl;
    unnamed = λ j i q none. there j i q ∙ rw (s.unnamed j i q none) (never ((nat_eq k j && nat_eq h.0 i.0) && nat_eq (length os) q));
    tries = s.tries;
    barriers = s.barriers;
    numbered = s.numbered.1;
    known = s.known;
  }
    where
      n : Name
      n = name_at es k

      never : (t : Bool) → cond t false false ≡ false
      never true = refl
      never false = refl

      there : (j : ℕ) (i : HygieneId) (q : ℕ) → contains (by_key label_cmp) new ((j, i), q)
          ≡ cond ((nat_eq k j && nat_eq h.0 i.0) && nat_eq (length os) q) false (contains (by_key label_cmp) ls ((j, i), q))
      there j i q = updates ((j, i), q)
          ∙ ap (λ t. cond t false (contains (by_key label_cmp) ls ((j, i), q))) (label_at k j h i (length os) q)

      marked : (m : Name) (i : HygieneId) (q : ℕ) (o : Option ℕ) → number_of m es ≡ o
          → is_marked ls o i q ≡ is_label m i (rib_at q (label_rib n h a ∷ ribs_of es os))
          → is_marked new o i q ≡ is_label m i (rib_at q (ribs_of es os))
      marked m i q None e was = was ∙ passed (is_label m i) refl q (label_rib n h a) (ribs_of es os) (no (same_name n m) refl)
        where
          no : (t : Bool) → same_name n m ≡ t → (t && nat_eq h.0 i.0) ≡ false
          no true f = absurd (none≢some k (sym e ∙ (ap (λ z. number_of z es) (sym (same_is n m f)) ∙ s.numbered.0)))
          no false f = refl
      marked m i q (Some j) e was = closes (is_label m i) refl (label_rib n h a) (ribs_of es os)
          (nat_eq k j && nat_eq h.0 i.0) (rw (same_number es s.known n m k j s.numbered.0 e) refl) q
          (contains (by_key label_cmp) ls ((j, i), q)) (contains (by_key label_cmp) new ((j, i), q)) was
          (there j i q ∙ ap (λ l. cond ((nat_eq k j && nat_eq h.0 i.0) && nat_eq l q) false (contains (by_key label_cmp) ls ((j, i), q)))
          (sym (length_ribs es os)))

  pub sorted_unmacro : (d : MacroDefId) → Sorted es ls ms (opened.MacroDef d ∷ os) ts bs → (new : BTreeSet (MacroDefId × ℕ))
      → ((x : MacroDefId × ℕ) → contains (by_key macro_cmp) new x
      ≡ cond (is_at (by_key macro_cmp (d, length os)) x) false (contains (by_key macro_cmp) ms x))
      → Sorted es ls new os ts bs
  sorted_unmacro d s new updates = record {
    labels = λ n h q. s.labels n h q ∙ passed (is_label n h) refl q (macro_rib d) (ribs_of es os) refl;
    macros = λ m q. closes (is_outer (Some m)) refl (macro_rib d) (ribs_of es os) (nat_eq d.0 m.0) (turned m.0 d.0) q
        (contains (by_key macro_cmp) ms (m, q)) (contains (by_key macro_cmp) new (m, q)) (s.macros m q)
        (updates (m, q) ∙ (ap (λ t. cond t false (contains (by_key macro_cmp) ms (m, q))) (macro_at d m (length os) q)
        ∙ ap (λ l. cond (nat_eq d.0 m.0 && nat_eq l q) false (contains (by_key macro_cmp) ms (m, q))) (sym (length_ribs es os))));
    unnamed = s.unnamed;
    tries = s.tries;
    barriers = s.barriers;
    numbered = s.numbered;
    known = s.known;
  }

  pub sorted_untry : (a : LabelId) (typed : Bool) → Sorted es ls ms (opened.Try a typed ∷ os) ts bs → Sorted es ls ms os (tail_of ts) bs
  sorted_untry a typed s = record {
    labels = λ n h q. s.labels n h q ∙ passed (is_label n h) refl q (try_rib a typed) (ribs_of es os) refl;
    macros = λ d q. s.macros d q ∙ passed (is_outer (Some d)) refl q (try_rib a typed) (ribs_of es os) refl;
    unnamed = s.unnamed;
    tries = ap tail_of s.tries;
    barriers = s.barriers;
    numbered = s.numbered;
    known = s.known;
  }

  pub sorted_unborder : Sorted es ls ms (opened.Barrier ∷ os) ts bs → Sorted es ls ms os ts (tail_of bs)
  sorted_unborder s = record {
    labels = λ n h q. s.labels n h q ∙ passed (is_label n h) refl q barrier_rib (ribs_of es os) refl;
    macros = λ d q. s.macros d q ∙ passed (is_outer (Some d)) refl q barrier_rib (ribs_of es os) refl;
    unnamed = s.unnamed;
    tries = s.tries;
    barriers = ap tail_of s.barriers;
    numbered = s.numbered;
    known = s.known;
  }

pub without_last : {A : Type 0} (r : Option A) (old new : List A) (n m : ℕ) → length old ≡ n
    → MatchOption r ((n ≡ 0) × (m ≡ 0)) (λ last. m + 1 ≡ n) → old ≡ new ++ option_to_list r → reverse new ≡ tail_of (reverse old)
without_last None [] [] n m l h e = refl
without_last None [] (y ∷ new) n m l h e = let f = ap length e in absurd (omega (arith, f))
without_last None (x ∷ old) new n m l h e = let f = h.0 in absurd (omega (arith, f, l))
without_last (Some last) old new n m l h e = rw (e, reverse-append new (last ∷ [])) refl

-- where a set has the keys that it had
pub same_labels : (es : List (Name × ℕ)) (ls new : BTreeSet ((ℕ × HygieneId) × ℕ)) (ms : BTreeSet (MacroDefId × ℕ)) (os : List Opened)
    (ts : List OpenTry) (bs : List ℕ) → new.keys ≡ ls.keys → Sorted es ls ms os ts bs → Sorted es new ms os ts bs
same_labels es ls new ms os ts bs e s = record {
  labels = λ n h q. marked (number_of n es) h q ∙ s.labels n h q;
  macros = s.macros;
  unnamed = λ k h q none. there ((k, h), q) ∙ s.unnamed k h q none;
  tries = s.tries;
  barriers = s.barriers;
  numbered = s.numbered;
  known = s.known;
}
  where
    there : (x : (ℕ × HygieneId) × ℕ) → contains (by_key label_cmp) new x ≡ contains (by_key label_cmp) ls x
    there x = ap (list_any (is_at (by_key label_cmp x))) e

    marked : (o : Option ℕ) (h : HygieneId) (q : ℕ) → is_marked new o h q ≡ is_marked ls o h q
    marked None h q = refl
    marked (Some k) h q = there ((k, h), q)

-- what is looked up

pub deepest_as : (p q : ℕ → Bool) → ((r : ℕ) → p r ≡ q r) → (below : ℕ) (o : Option ℕ) → IsDeepest p below o → IsDeepest q below o
deepest_as p q same below None h = λ r under. sym (same r) ∙ h r under
deepest_as p q same below (Some d) h = (h.0, sym (same d) ∙ h.1, λ r over under. sym (same r) ∙ h.2 r over under)

deeper_both : (p q : ℕ → Bool) (below l r : ℕ) → IsDeepest p below (Some l) → IsDeepest q below (Some r)
    → IsDeepest (λ d. p d || q d) below (Some (if nat_lt l r then r else l))
deeper_both p q below l r h k = by (nat_lt l r) refl
  where
    neither : (t u : Bool) → t ≡ false → u ≡ false → (t || u) ≡ false
    neither true u e f = e
    neither false u e f = f

    right : (t u : Bool) → u ≡ true → (t || u) ≡ true
    right true u e = refl
    right false u e = e

    left : (t u : Bool) → t ≡ true → (t || u) ≡ true
    left true u e = refl
    left false u e = absurd (true≢false (sym e))

    outside : (d : ℕ) → l ≤ d → d < below → (l ≡ d → ⊥) → p d ≡ false
    outside d over under other = h.2 d (omega (arith, over, other)) under

    by : (t : Bool) → nat_lt l r ≡ t → IsDeepest (λ d. p d || q d) below (Some (if t then r else l))
    by true e =
        let nearer : l < r = grind (arith, nat_tests) in
        (k.0, right (p r) (q r) k.1, λ d over under. neither (p d) (q d) (h.2 d (omega (arith, over, nearer)) under) (k.2 d over under))
    by false e =
        let nearer : r ≤ l = grind (arith, nat_tests) in
        (h.0, left (p l) (q l) h.1, λ d over under. neither (p d) (q d) (h.2 d over under) (k.2 d (omega (arith, over, nearer)) under))

pub deeper_of : (p q : ℕ → Bool) (below : ℕ) (l r : Option ℕ) → IsDeepest p below l → IsDeepest q below r
    → IsDeepest (λ d. p d || q d) below (deeper l r)
deeper_of p q below None None h k = λ d under. rw (h d under) (k d under)
deeper_of p q below None (Some r) h k =
    (k.0, rw (h r k.0) k.1, λ d over under. rw (h d under) (k.2 d over under))
deeper_of p q below (Some l) None h k = (h.0, rw h.1 refl, λ d over under. rw (h.2 d over under) (k d under))
deeper_of p q below (Some l) (Some r) h k = deeper_both p q below l r h k

-- The log has what is open by depth.

at_end : (d : ℕ) (rs : List (Rib LabelId)) (r : Rib LabelId)
    → (rib_at 0 (rs ++ r ∷ []) ≡ Some r) × (rib_at (suc d) (rs ++ r ∷ []) ≡ rib_at d rs)
at_end d [] r = let past : nat_eq (suc d) 0 ≡ false = grind (arith, nat_tests) in (refl, rw past refl)
at_end d (x ∷ rs) r =
    let more = length-append rs (r ∷ []) in
    let first : nat_eq 0 (length (rs ++ r ∷ [])) ≡ false = grind (arith, nat_tests) in
    let rest : nat_eq (suc d) (length (rs ++ r ∷ [])) ≡ nat_eq d (length rs) = grind (arith, nat_tests) in
    let more = at_end d rs r in
    (rw first more.0, rw (rest, more.1) refl)

ribs_append : (es : List (Name × ℕ)) (os : List Opened) (o : Opened) → ribs_of es (os ++ o ∷ []) ≡ ribs_of es os ++ rib_of es o ∷ []
ribs_append es [] o = refl
ribs_append es (x ∷ os) o = ap (λ rs. rib_of es x ∷ rs) (ribs_append es os o)

pub rib_there : (es : List (Name × ℕ)) (os : List Opened) (d : ℕ) (o : Opened) → slice_get os d ≡ Some o
    → rib_at d (ribs_of es (reverse os)) ≡ Some (rib_of es o)
rib_there es [] d o h = absurd (none≢some o h)
rib_there es (x ∷ os) zero o h =
    ap (λ z. rib_at 0 (ribs_of es z)) (reverse-append (x ∷ []) os)
    ∙ (ap (rib_at 0) (ribs_append es (reverse os) x)
    ∙ ((at_end 0 (ribs_of es (reverse os)) (rib_of es x)).0 ∙ ap (λ z. Some (rib_of es z)) (same_Some x o h)))
rib_there es (x ∷ os) (suc d) o h =
    ap (λ z. rib_at (suc d) (ribs_of es z)) (reverse-append (x ∷ []) os)
    ∙ (ap (rib_at (suc d)) (ribs_append es (reverse os) x)
    ∙ ((at_end d (ribs_of es (reverse os)) (rib_of es x)).1 ∙ rib_there es os d o h))

pub no_label : (es : List (Name × ℕ)) (o : Opened) → ((k : ℕ) (h : HygieneId) (a : LabelId) → o ≡ opened.Label k h a → ⊥)
    → label_in (Some (rib_of es o)) ≡ None
no_label es (opened.Label k h a) other = absurd (other k h a refl)
no_label es (opened.Try a typed) other = refl
no_label es (opened.MacroDef d) other = refl
no_label es opened.Barrier other = refl

pub length_open : (es : List (Name × ℕ)) (os : List Opened) → length (ribs_of es (reverse os)) ≡ length os
length_open es os = length_ribs es (reverse os) ∙ length-reverse os

pub reverse_push : {A : Type 0} (xs : List A) (x : A) → reverse (xs ++ x ∷ []) ≡ x ∷ reverse xs
reverse_push xs x = reverse-append xs (x ∷ [])

pub if_err : {A E P : Type 0} (r : Result A E) → P → OnErr r P
if_err (Ok a) p = tt
if_err (Err e) p = p
