-- The names of a top pattern while it is lowered: their numbers and their bindings.
use Rattle.std.proofs.Common.{arith, ◌≡◌, ◌∙◌, refl, sym, ap, subst, ℕ, zero, suc, ◌+◌, ◌<◌, ◌≤◌, nat_eq, Bool, true, false, not, cond}
use Rattle.std.proofs.Common.{if◌then◌else◌, List, [], ◌∷◌, ◌++◌, append-nil, append_assoc, length, map, slice_get, Option, Some, None}
use Rattle.std.proofs.Common.{is_some, true≢false}
use Rattle.std.specs.List.{position_or_len}
use Rattle.std.specs.Map.{keys_of, lookup}
use Rattle.std.proofs.lemmas.Bool.{eqb-true}
use Rattle.std.proofs.lemmas.List.{map-append}
use Rattle.std.proofs.lemmas.Option.{slice_get_within, same_Some}
use Rattle.hir_store.specs.Arenas.{Prefix}
use Rattle.hir_store.specs.Stored.{Stored}
use Rattle.hir_store.specs.declared.ids.BindingId.{BindingId}
use Rattle.hir_store.specs.declared.pat.Binding.{Binding}
use Rattle.hir_store.proofs.Arenas.{prefix_trans}
use Rattle.hir_env.specs.ResolvedTree.{Use}
use Rattle.spec_data.specs.Uses.{FirstUses, is_of, number_of, with_use}
use Rattle.thm_round_trip.proofs.Names.{AreFor}
use Rattle.hir_lower_builder.specs.Pats.{Key, same_key, key_of}
use Rattle.thm_logic.proofs.Logic.{longer}
use Rattle.thm_body_result.specs.Theorems.{Settled}
use Rattle.thm_logic.specs.PatNames.{is_known}
use Rattle.thm_body_result.proofs.Lasting.{bound, in_prefix, Unchanged}

abbrev pub Entries : Type 0
Entries = List (Key × BindingId)

-- the bindings of the names
abbrev pub ids : Entries → List BindingId
ids es = map (λ e. e.1) es

-- What is known of a name, where w are the names with this one, and n is its number: it has a binding, or it is the next one.
abbrev pub KnownBy : FirstUses → Entries → Use → Option BindingId → FirstUses → Bool → ℕ → ℕ → Type 0
KnownBy us es u (Some b) w k n p = (w ≡ us) × (k ≡ true) × (slice_get (ids es) n ≡ Some b) × (p ≡ n)
KnownBy us es u None w k n p = (w ≡ us ++ u ∷ []) × (k ≡ false) × (n ≡ length es)

known_later : (f u : Use) (us : FirstUses) (e : Key × BindingId) (es : Entries) (o : Option BindingId) (w : FirstUses) (k : Bool) (n p : ℕ)
    → KnownBy us es u o w k n p → KnownBy (f ∷ us) (e ∷ es) u o (f ∷ w) k (suc n) (1 + p)
known_later f u us e es (Some b) w k n p h =
    let q = h.3 in
    let next : 1 + p ≡ suc n = omega (arith, q) in
    (ap (λ v. f ∷ v) h.0, h.1, h.2, next)
known_later f u us e es None w k n p h = (ap (λ v. f ∷ v) h.0, h.1, ap suc h.2)

pub known : (final : Stored) (u : Use) (us : FirstUses) (es : Entries) → AreFor final us es
    → KnownBy us es u (lookup (same_key (key_of u)) es) (with_use us u) (is_known us u) (number_of us u)
    (position_or_len (same_key (key_of u)) (keys_of es))
known final u [] [] h = (refl, refl, refl)
known final u [] (e ∷ es) h = absurd h
known final u (f ∷ us) [] h = absurd h
known final u (f ∷ us) (e ∷ es) h = rw h.0 (by (is_of u.name u.hygiene f) (known final u us es h.2))
  where
    by : (t : Bool)
        → KnownBy us es u (lookup (same_key (key_of u)) es) (with_use us u) (is_known us u) (number_of us u)
        (position_or_len (same_key (key_of u)) (keys_of es))
        → KnownBy (f ∷ us) (e ∷ es) u (cond t (Some e.1) (lookup (same_key (key_of u)) es))
        (if t then f ∷ us else f ∷ with_use us u) (if t then true else is_known us u) (if t then 0 else suc (number_of us u))
        (cond (not t) (1 + position_or_len (same_key (key_of u)) (keys_of es)) 0)
    by true k = (refl, refl, refl, refl)
    by false k = known_later f u us e es (lookup (same_key (key_of u)) es) (with_use us u) (is_known us u) (number_of us u)
        (position_or_len (same_key (key_of u)) (keys_of es)) k

-- numbers of bindings

-- the numbers of these bindings rise from one on, and end below another
abbrev pub Rising : ℕ → ℕ → Entries → Type 0
Rising lo hi [] = lo ≤ hi
Rising lo hi (e ∷ es) = (lo ≤ e.1.0) × Rising (suc e.1.0) hi es

-- this number is none of theirs
abbrev pub Free : ℕ → Entries → Type 0
Free n [] = Unit {0}
Free n (e ∷ es) = (nat_eq e.1.0 n ≡ false) × Free n es

pub rising_ends : (lo hi : ℕ) (es : Entries) → Rising lo hi es → lo ≤ hi
rising_ends lo hi [] h = h
rising_ends lo hi (e ∷ es) h =
    let first : lo ≤ e.1.0 = h.0 in
    let more = rising_ends (suc e.1.0) hi es h.1 in
    omega (arith, first, more)

pub rising_from : (lo low hi : ℕ) (es : Entries) → low ≤ lo → Rising lo hi es → Rising low hi es
rising_from lo low hi [] le h = omega (arith, le, h)
rising_from lo low hi (e ∷ es) le h = let first : lo ≤ e.1.0 = h.0 in (omega (arith, le, first), h.1)

pub rising_append : (lo middle hi : ℕ) (es fs : Entries) → Rising lo middle es → Rising middle hi fs → Rising lo hi (es ++ fs)
rising_append lo middle hi [] fs h k = rising_from middle lo hi fs h k
rising_append lo middle hi (e ∷ es) fs h k = (h.0, rising_append (suc e.1.0) middle hi es fs h.1 k)

pub rising_found : (lo hi : ℕ) (es : Entries) (n : ℕ) (b : BindingId) → Rising lo hi es → slice_get (ids es) n ≡ Some b → b.0 < hi
rising_found lo hi [] n b h e = absurd (true≢false (sym (ap is_some e)))
rising_found lo hi (x ∷ es) zero b h e =
    let more : suc x.1.0 ≤ hi = rising_ends (suc x.1.0) hi es h.1 in
    let same : x.1.0 ≡ b.0 = ap (λ i. i.0) (same_Some x.1 b e) in
    omega (arith, more, same)
rising_found lo hi (x ∷ es) (suc n) b h e = rising_found (suc x.1.0) hi es n b h.1 e

pub rising_least : (lo hi : ℕ) (es : Entries) (n : ℕ) (b : BindingId) → Rising lo hi es → slice_get (ids es) n ≡ Some b → lo ≤ b.0
rising_least lo hi [] n b h e = absurd (true≢false (sym (ap is_some e)))
rising_least lo hi (x ∷ es) zero b h e =
    let first : lo ≤ x.1.0 = h.0 in
    let same : x.1.0 ≡ b.0 = ap (λ i. i.0) (same_Some x.1 b e) in
    omega (arith, first, same)
rising_least lo hi (x ∷ es) (suc n) b h e =
    let first : lo ≤ x.1.0 = h.0 in
    let later = rising_least (suc x.1.0) hi es n b h.1 e in
    omega (arith, first, later)

-- numbers that differ
other : (m n : ℕ) → ((m ≡ n) → ⊥) → nat_eq m n ≡ false
other m n h = by (nat_eq m n) refl
  where
    by : (t : Bool) → nat_eq m n ≡ t → nat_eq m n ≡ false
    by true e = absurd (h (eqb-true m n e))
    by false e = e

pub free_below : (lo hi : ℕ) (es : Entries) (n : ℕ) → Rising lo hi es → n < lo → Free n es
free_below lo hi [] n h lt = tt
free_below lo hi (e ∷ es) n h lt =
    let first : lo ≤ e.1.0 = h.0 in
    (other e.1.0 n (λ same. omega (arith, first, lt, same)), free_below (suc e.1.0) hi es n h.1 (omega (arith, first, lt)))

pub free_above : (lo hi : ℕ) (es : Entries) (n : ℕ) → Rising lo hi es → hi ≤ n → Free n es
free_above lo hi [] n h le = tt
free_above lo hi (e ∷ es) n h le =
    let more : suc e.1.0 ≤ hi = rising_ends (suc e.1.0) hi es h.1 in
    (other e.1.0 n (λ same. omega (arith, more, le, same)), free_above (suc e.1.0) hi es n h.1 le)

pub free_append : (n : ℕ) (es fs : Entries) → Free n es → Free n fs → Free n (es ++ fs)
free_append n [] fs h k = k
free_append n (e ∷ es) fs h k = (h.0, free_append n es fs h.1 k)

-- while names come

-- the bindings of the names that came are new
pub record Further (es fs : Entries) (a b : Stored) : Type 0 where
  pub more : Entries
  pub is : fs ≡ es ++ more
  pub range : Rising (bound a) (bound b) more

pub further_none : (es : Entries) {a b : Stored} → bound a ≤ bound b → Further es es a b
further_none es le = record { more = []; is = sym (append-nil es); range = le }

pub further_then : {es fs gs : Entries} {a b c : Stored} → Further es fs a b → Further fs gs b c → Further es gs a c
further_then {es = es} {a = a} {b = b} {c = c} g h = record {
  more = g.more ++ h.more;
  is = h.is ∙ (ap (λ xs. xs ++ h.more) g.is ∙ append_assoc es g.more h.more);
  range = rising_append (bound a) (bound b) (bound c) g.more h.more g.range h.range;
}

pub rising_further : {es fs : Entries} {a b : Stored} → Further es fs a b → Rising 0 (bound a) es → Rising 0 (bound b) fs
rising_further {es = es} {a = a} {b = b} g h =
    subst (λ xs. Rising 0 (bound b) xs) (sym g.is) (rising_append 0 (bound a) (bound b) es g.more h g.range)

-- what they have in the end they have from then on
pub prefix_ids : {es fs : Entries} {a b : Stored} {ks : List BindingId} → Further es fs a b → Prefix (ids fs) ks → Prefix (ids es) ks
prefix_ids {es = es} {fs = fs} g p =
    let first : Prefix (ids es) (ids fs) = record { more = ids g.more; is = ap ids g.is ∙ map-append (λ e. e.1) es g.more } in
    prefix_trans first p

-- from this number on the bindings stay but those of these names
pub record Apart (es : Entries) (from : ℕ) (a b : Stored) : Type 0 where
  pub at : (n : ℕ) (x : Binding) → from ≤ n → Free n es → slice_get a.bindings.entries n ≡ Some x → slice_get b.bindings.entries n ≡ Some x

-- of the first of two steps, and of the second
pub apart_first : {es fs : Entries} {a b c : Stored} {from : ℕ} → Further es fs a b → Settled a b → Apart fs from b c → Apart es from a c
apart_first {es = es} {a = a} {b = b} g s h = record {
  at = λ n x le free e.
      let within = slice_get_within a.bindings.entries n x e in
      let apart = free_append n es g.more free (free_below (bound a) (bound b) g.more n g.range within) in
      h.at n x le (subst (λ xs. Free n xs) (sym g.is) apart) (in_prefix s n x e);
}

pub apart_later : {es : Entries} {xs ys : List Binding} {a b : Stored} → Prefix xs ys → Apart es (length xs) a b → Apart es (length ys) a b
apart_later s h = let more = longer s in record { at = λ n x le free e. h.at n x (omega (arith, le, more)) free e }

-- what is between these is of no name
pub apart_between : {es fs : Entries} {a b c : Stored} {from : ℕ} → Further es fs a b → Settled a b → Rising 0 from es → Apart fs from b c
    → Unchanged from a c
apart_between {es = es} {a = a} {b = b} {from = from} g s h k = record {
  at = λ n x le e.
      let within = slice_get_within a.bindings.entries n x e in
      let apart = free_append n es g.more (free_above 0 from es n h le) (free_below (bound a) (bound b) g.more n g.range within) in
      k.at n x le (subst (λ xs. Free n xs) (sym g.is) apart) (in_prefix s n x e);
}
