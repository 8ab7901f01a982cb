-- How much more is stored, and that there is no room for it.
use Rattle.std.proofs.Common.{arith, ◌≡◌, ◌∙◌, refl, sym, ap, subst, ℕ, ◌+◌, ◌<◌, ◌≤◌, ◌^◌, length}
use Rattle.std.proofs.Common.{length-append, append-nil, append_assoc, List, [], ◌∷◌, ◌++◌, Option, Ok, Err, inl, inr, ⊎_elim}
use Rattle.hir_store.specs.Pointers.{Pointer}
use Rattle.hir_store.specs.Arenas.{Sourced}
use Rattle.hir_store.specs.StoreSink.{pat_id, type_id}
use Rattle.hir_lower_builder.specs.Builder.{Builder}
use Rattle.hir_lower_builder.specs.Lowering.{Checked}
use Rattle.thm_logic.specs.Keeps.{Paired}
use Rattle.thm_body_result.specs.Theorems.{MayBeOwned}
use Rattle.thm_body_result.specs.Room.{Short}
use Rattle.thm_body_result.specs.Size.{NodeLeads, Size, led_by, nothing, placed_owners, sources_led, targets_led, ◌∪◌}
use Rattle.thm_body_result.proofs.Owners.{as_many_both, as_many_placed, further_none, no_owners, owners_joined, owners_then}
use Rattle.thm_body_result.proofs.PatMappings.{led_behind, sources_both, targets_behind}

-- an arena of this limit that held so many holds n more
pub record Grew (n limit held limit' held' : ℕ) : Type 0 where
  pub more : held' ≡ held + n
  pub same : limit' ≡ limit

pub grew_none : {l a l' b : ℕ} → b ≡ a → l' ≡ l → Grew 0 l a l' b
grew_none e f = record { more = omega (arith, e); same = f }

grew_then : {n k l a l' b l'' c : ℕ} → Grew n l a l' b → Grew k l' b l'' c → Grew (n + k) l a l'' c
grew_then g h = record { more = omega (arith, g.more, h.more); same = h.same ∙ g.same }

grew_as : {n k l a l' b : ℕ} → n ≡ k → Grew n l a l' b → Grew k l a l' b
grew_as {l = l} {a = a} {l' = l'} {b = b} e g = subst (λ j. Grew j l a l' b) e g

-- an entry more
pub grew_one : {A : Type 0} (xs : List A) (x : A) (l : ℕ) → Grew 1 l (length xs) l (length (xs ++ x ∷ []))
grew_one xs x l = record { more = length-append xs (x ∷ []); same = refl }

over_first : (n k l a : ℕ) → l < a + n → l < a + (n + k)
over_first n k l a h = omega (arith, h)

over_then : {n : ℕ} (k : ℕ) {l a l' b : ℕ} → Grew n l a l' b → l' < b + k → l < a + (n + k)
over_then k g h = omega (arith, g.more, g.same, h)

over_as : {n k : ℕ} (l a : ℕ) → n ≡ k → l < a + n → l < a + k
over_as l a e h = subst (λ j. l < a + j) e h

-- of lists
joined : {A : Type 0} (xs ys : List A) → length xs + length ys ≡ length (xs ++ ys)
joined xs ys = sym (length-append xs ys)

listed_first : {A : Type 0} (xs ys : List A) (l a : ℕ) → l < a + length xs → l < a + length (xs ++ ys)
listed_first xs ys l a h = over_as l a (joined xs ys) (over_first (length xs) (length ys) l a h)

listed_then : {A : Type 0} (xs ys : List A) {l a l' b : ℕ} → Grew (length xs) l a l' b → l' < b + length ys → l < a + length (xs ++ ys)
listed_then xs ys {l = l} {a = a} g h = over_as l a (joined xs ys) (over_then (length ys) g h)

abbrev pub params_in : Builder → ℕ
params_in b = length b.tracks.generics.type_or_consts

-- so much more is stored, so many names more are made up, and there are so many parameters more
pub record Took (n : Size) (before after : Builder) : Type 0 where
  pub exprs : let a = before.stored.exprs in let b = after.stored.exprs in
      Grew n.exprs a.limit (length a.entries) b.limit (length b.entries)
  pub labels : let a = before.stored.labels in let b = after.stored.labels in
      Grew n.labels a.limit (length a.entries) b.limit (length b.entries)
  pub bindings : let a = before.stored.bindings in let b = after.stored.bindings in
      Grew n.bindings a.limit (length a.entries) b.limit (length b.entries)
  pub pats : let a = before.stored.pats in let b = after.stored.pats in
      Grew (length n.pats) a.limit (length a.entries) b.limit (length b.entries)
  pub types : let a = before.stored.types in let b = after.stored.types in
      Grew (length n.types) a.limit (length a.entries) b.limit (length b.entries)
  pub lifetimes : let a = before.stored.lifetimes in let b = after.stored.lifetimes in
      Grew (length n.lifetimes) a.limit (length a.entries) b.limit (length b.entries)
  pub paired : Paired before.stored → Paired after.stored
  pub pat_sources : after.stored.pats.sources ≡ before.stored.pats.sources ++ n.pats
  pub pat_mappings : after.stored.pats.map ≡ led_by pat_id (length before.stored.pats.entries) n.pat_leads before.stored.pats.map
  pub target_mappings : after.stored.target_map
      ≡ targets_led pat_id (length before.stored.pats.entries) n.pat_leads before.stored.target_map
  pub type_sources : after.stored.types.sources ≡ before.stored.types.sources ++ n.types
  pub lifetime_sources : after.stored.lifetimes.sources ≡ before.stored.lifetimes.sources ++ n.lifetimes
  pub type_mappings : after.stored.types.map ≡ led_by type_id (length before.stored.types.entries) n.type_leads before.stored.types.map
  -- what leads to patterns and types is as much as those are
  pub pat_leads : length (sources_led n.pat_leads) ≡ length n.pats
  pub type_leads : sources_led n.type_leads ≡ n.types
  pub names : after.names ≡ before.names + n.names
  pub params : params_in after ≡ params_in before + n.params
  pub as_many : length n.owners ≡ n.bindings
  pub owners : MayBeOwned before.stored
      → after.stored.bindings.owners ≡ before.stored.bindings.owners ++ placed_owners (length before.stored.exprs.entries) n.owners

abbrev pub Room : {A : Type 0} → Size → Builder → Checked A → Builder → Type 0
Room n b (Ok a) c = Took n b c
Room n b (Err e) c = Short n b

-- the same, except for what may overcount
pub record Same (n k : Size) : Type 0 where
  pub exprs : n.exprs ≡ k.exprs
  pub labels : n.labels ≡ k.labels
  pub bindings : n.bindings ≡ k.bindings
  pub owners : n.owners ≡ k.owners
  pub names : n.names ≡ k.names
  pub params : n.params ≡ k.params
  pub pats : n.pats ≡ k.pats
  pub types : n.types ≡ k.types
  pub lifetimes : n.lifetimes ≡ k.lifetimes
  pub pat_leads : n.pat_leads ≡ k.pat_leads
  pub type_leads : n.type_leads ≡ k.type_leads
  pub overcounts : n.overcounts → k.overcounts

-- there is as little room for more, where it is so for each arena, for what overcounts, for the names that are made up, and for
-- parameters
shorter : (n k : Size) (b c : Builder) → let s = b.stored in let t = c.stored in
    (s.exprs.limit < length s.exprs.entries + n.exprs → t.exprs.limit < length t.exprs.entries + k.exprs)
    → (s.labels.limit < length s.labels.entries + n.labels → t.labels.limit < length t.labels.entries + k.labels)
    → (s.pats.limit < length s.pats.entries + length n.pats → t.pats.limit < length t.pats.entries + length k.pats)
    → (s.bindings.limit < length s.bindings.entries + n.bindings → t.bindings.limit < length t.bindings.entries + k.bindings)
    → (s.types.limit < length s.types.entries + length n.types → t.types.limit < length t.types.entries + length k.types)
    → (s.lifetimes.limit < length s.lifetimes.entries + length n.lifetimes
    → t.lifetimes.limit < length t.lifetimes.entries + length k.lifetimes)
    → (n.overcounts → k.overcounts) → (2 ^ 32 ≤ b.names + n.names → 2 ^ 32 ≤ c.names + k.names)
    → (2 ^ 32 ≤ params_in b + n.params → 2 ^ 32 ≤ params_in c + k.params) → Short n b → Short k c
shorter n k b c e l p d y f o m r h =
    ⊎_elim (λ x. inl (e x)) (λ g. inr (⊎_elim (λ x. inl (l x)) (λ g. inr (⊎_elim (λ x. inl (p x)) (λ g. inr (⊎_elim (λ x. inl (d x))
    (λ g. inr (⊎_elim (λ x. inl (y x)) (λ g. inr (⊎_elim (λ x. inl (f x)) (λ g. inr (⊎_elim (λ x. inl (o x)) (λ g. inr (⊎_elim
    (λ x. inl (m x)) (λ x. inr (r x)) g)) g)) g)) g)) g)) g)) g)) h

-- of names
as_far : (far a n k : ℕ) → far ≤ a + n → far ≤ a + (n + k)
as_far far a n k h = omega (arith, h)

as_far_then : (far a b n k : ℕ) → b ≡ a + n → far ≤ b + k → far ≤ a + (n + k)
as_far_then far a b n k e h = omega (arith, e, h)

as_far_as : {n k : ℕ} (far a : ℕ) → n ≡ k → far ≤ a + n → far ≤ a + k
as_far_as far a e h = subst (λ j. far ≤ a + j) e h

pub short_first : (n k : Size) (b : Builder) → Short n b → Short (n ∪ k) b
short_first n k b h = let s = b.stored in shorter n (n ∪ k) b b
    (λ x. over_first n.exprs k.exprs s.exprs.limit (length s.exprs.entries) x)
    (λ x. over_first n.labels k.labels s.labels.limit (length s.labels.entries) x)
    (λ x. listed_first n.pats k.pats s.pats.limit (length s.pats.entries) x)
    (λ x. over_first n.bindings k.bindings s.bindings.limit (length s.bindings.entries) x)
    (λ x. listed_first n.types k.types s.types.limit (length s.types.entries) x)
    (λ x. listed_first n.lifetimes k.lifetimes s.lifetimes.limit (length s.lifetimes.entries) x)
    (λ o. inl o) (λ x. as_far (2 ^ 32) b.names n.names k.names x) (λ x. as_far (2 ^ 32) (params_in b) n.params k.params x) h

pub short_then : {n : Size} (k : Size) (a b : Builder) → Took n a b → Short k b → Short (n ∪ k) a
short_then {n = n} k a b t h = shorter k (n ∪ k) b a
    (λ x. over_then k.exprs t.exprs x)
    (λ x. over_then k.labels t.labels x)
    (λ x. listed_then n.pats k.pats t.pats x)
    (λ x. over_then k.bindings t.bindings x)
    (λ x. listed_then n.types k.types t.types x)
    (λ x. listed_then n.lifetimes k.lifetimes t.lifetimes x)
    (λ o. inr o) (λ x. as_far_then (2 ^ 32) a.names b.names n.names k.names t.names x)
    (λ x. as_far_then (2 ^ 32) (params_in a) (params_in b) n.params k.params t.params x) h

pub short_as : {n k : Size} (b : Builder) → Same n k → Short n b → Short k b
short_as {n = n} {k = k} b same h = let s = b.stored in shorter n k b b
    (λ x. over_as s.exprs.limit (length s.exprs.entries) same.exprs x)
    (λ x. over_as s.labels.limit (length s.labels.entries) same.labels x)
    (λ x. over_as s.pats.limit (length s.pats.entries) (ap length same.pats) x)
    (λ x. over_as s.bindings.limit (length s.bindings.entries) same.bindings x)
    (λ x. over_as s.types.limit (length s.types.entries) (ap length same.types) x)
    (λ x. over_as s.lifetimes.limit (length s.lifetimes.entries) (ap length same.lifetimes) x)
    same.overcounts (λ x. as_far_as (2 ^ 32) b.names same.names x) (λ x. as_far_as (2 ^ 32) (params_in b) same.params x) h

then_more : (xs ys zs : List (Option Pointer)) {us vs : List (Option Pointer)} → us ≡ xs ++ ys → vs ≡ us ++ zs → vs ≡ xs ++ (ys ++ zs)
then_more xs ys zs e f = f ∙ (ap (λ ws. ws ++ zs) e ∙ append_assoc xs ys zs)

-- of what leads to patterns, and to types
long_both : (xs ys : List NodeLeads) (us vs : List (Option Pointer)) → length (sources_led xs) ≡ length us
    → length (sources_led ys) ≡ length vs → length (sources_led (xs ++ ys)) ≡ length (us ++ vs)
long_both xs ys us vs e f =
    ap length (sources_both xs ys) ∙ (length-append (sources_led xs) (sources_led ys) ∙ ((λ i. e i + f i) ∙ joined us vs))

same_both : (xs ys : List NodeLeads) {us vs : List (Option Pointer)} → sources_led xs ≡ us → sources_led ys ≡ vs
    → sources_led (xs ++ ys) ≡ us ++ vs
same_both xs ys e f = sources_both xs ys ∙ (λ i. e i ++ f i)

-- so many more by what leads to them
as_led : (xs : List NodeLeads) (held : ℕ) {n held' : ℕ} → length (sources_led xs) ≡ n → held' ≡ held + n
    → held' ≡ held + length (sources_led xs)
as_led xs held e f = f ∙ ap (λ k. held + k) (sym e)

named_then : (a b c n k : ℕ) → b ≡ a + n → c ≡ b + k → c ≡ a + (n + k)
named_then a b c n k e f = omega (arith, e, f)

-- what may be owned stays so
pub may_be_owned : {n : Size} {a b : Builder} → Took n a b → MayBeOwned a.stored → MayBeOwned b.stored
may_be_owned {n = n} {a = a} t h =
    let l = as_many_placed a.stored.bindings.owners (length a.stored.exprs.entries) n.owners (t.owners h) in
    let m = t.as_many in
    let k = t.bindings.more in
    omega (arith, h, l, m, k)

pub took_then : {n k : Size} (a b c : Builder) → Took n a b → Took k b c → Took (n ∪ k) a c
took_then {n = n} {k = k} a b c t u = record {
  exprs = grew_then t.exprs u.exprs;
  labels = grew_then t.labels u.labels;
  bindings = grew_then t.bindings u.bindings;
  pats = grew_as (joined n.pats k.pats) (grew_then t.pats u.pats);
  types = grew_as (joined n.types k.types) (grew_then t.types u.types);
  lifetimes = grew_as (joined n.lifetimes k.lifetimes) (grew_then t.lifetimes u.lifetimes);
  paired = λ h. u.paired (t.paired h);
  pat_sources = then_more a.stored.pats.sources n.pats k.pats t.pat_sources u.pat_sources;
  pat_mappings = led_behind pat_id (length a.stored.pats.entries) n.pat_leads k.pat_leads a.stored.pats.map
      (as_led n.pat_leads _ t.pat_leads t.pats.more) t.pat_mappings u.pat_mappings;
  target_mappings = targets_behind pat_id (length a.stored.pats.entries) n.pat_leads k.pat_leads a.stored.target_map
      (as_led n.pat_leads _ t.pat_leads t.pats.more) t.target_mappings u.target_mappings;
  type_sources = then_more a.stored.types.sources n.types k.types t.type_sources u.type_sources;
  lifetime_sources = then_more a.stored.lifetimes.sources n.lifetimes k.lifetimes t.lifetime_sources u.lifetime_sources;
  type_mappings = led_behind type_id (length a.stored.types.entries) n.type_leads k.type_leads a.stored.types.map
      (as_led n.type_leads _ (ap length t.type_leads) t.types.more) t.type_mappings u.type_mappings;
  pat_leads = long_both n.pat_leads k.pat_leads n.pats k.pats t.pat_leads u.pat_leads;
  type_leads = same_both n.type_leads k.type_leads t.type_leads u.type_leads;
  names = named_then a.names b.names c.names n.names k.names t.names u.names;
  params = named_then (params_in a) (params_in b) (params_in c) n.params k.params t.params u.params;
  as_many = as_many_both n.exprs n.owners k.owners t.as_many u.as_many;
  owners = λ h. owners_then a.stored.bindings.owners (length a.stored.exprs.entries) n.exprs n.owners k.owners t.exprs.more (t.owners h)
      (u.owners (may_be_owned t h));
}

pub took_as : {n k : Size} {a b : Builder} → Same n k → Took n a b → Took k a b
took_as {a = a} same t = record {
  exprs = grew_as same.exprs t.exprs;
  labels = grew_as same.labels t.labels;
  bindings = grew_as same.bindings t.bindings;
  pats = grew_as (ap length same.pats) t.pats;
  types = grew_as (ap length same.types) t.types;
  lifetimes = grew_as (ap length same.lifetimes) t.lifetimes;
  paired = t.paired;
  pat_sources = t.pat_sources ∙ ap (λ xs. a.stored.pats.sources ++ xs) same.pats;
  pat_mappings = t.pat_mappings ∙ ap (λ xs. led_by pat_id (length a.stored.pats.entries) xs a.stored.pats.map) same.pat_leads;
  target_mappings = t.target_mappings
      ∙ ap (λ xs. targets_led pat_id (length a.stored.pats.entries) xs a.stored.target_map) same.pat_leads;
  type_sources = t.type_sources ∙ ap (λ xs. a.stored.types.sources ++ xs) same.types;
  lifetime_sources = t.lifetime_sources ∙ ap (λ xs. a.stored.lifetimes.sources ++ xs) same.lifetimes;
  type_mappings = t.type_mappings ∙ ap (λ xs. led_by type_id (length a.stored.types.entries) xs a.stored.types.map) same.type_leads;
  pat_leads = sym (ap (λ xs. length (sources_led xs)) same.pat_leads) ∙ (t.pat_leads ∙ ap length same.pats);
  type_leads = sym (ap sources_led same.type_leads) ∙ (t.type_leads ∙ same.types);
  names = t.names ∙ ap (λ k. a.names + k) same.names;
  params = t.params ∙ ap (λ k. params_in a + k) same.params;
  as_many = sym (ap length same.owners) ∙ (t.as_many ∙ same.bindings);
  owners = λ h. t.owners h
      ∙ ap (λ os. a.stored.bindings.owners ++ placed_owners (length a.stored.exprs.entries) os) same.owners;
}

-- nothing more in an arena
pub still : {T I : Type 0} (a : Sourced T I) {b : Sourced T I} → b ≡ a → Grew 0 a.limit (length a.entries) b.limit (length b.entries)
still a e = grew_none (ap (λ s. length s.entries) e) (ap (λ s. s.limit) e)

pub no_sources : {T I : Type 0} (a : Sourced T I) {b : Sourced T I} → b ≡ a → b.sources ≡ a.sources ++ []
no_sources a e = ap (λ s. s.sources) e ∙ sym (append-nil a.sources)

-- no name more
pub unnamed : {a b : ℕ} → b ≡ a → b ≡ a + 0
unnamed e = omega (arith, e)

-- each has its source still
as_many_still : {A B : Type 0} {xs us : List A} {ys vs : List B} → us ≡ xs → vs ≡ ys → length ys ≡ length xs → length vs ≡ length us
as_many_still e f h = ap length f ∙ (h ∙ sym (ap length e))

pairs_still : {T I : Type 0} {a b : Sourced T I} → b ≡ a → length a.sources ≡ length a.entries → length b.sources ≡ length b.entries
pairs_still e h = subst (λ s. length s.sources ≡ length s.entries) (sym e) h

-- what is stored besides takes nothing
pub took_besides : (before after : Builder) → let a = before.stored in let b = after.stored in
    b.exprs.entries ≡ a.exprs.entries → b.exprs.sources ≡ a.exprs.sources → b.exprs.limit ≡ a.exprs.limit → b.labels ≡ a.labels
    → length b.bindings.entries ≡ length a.bindings.entries → b.bindings.limit ≡ a.bindings.limit → b.bindings.owners ≡ a.bindings.owners
    → b.pats ≡ a.pats → b.target_map ≡ a.target_map → b.types ≡ a.types → b.lifetimes ≡ a.lifetimes → after.names ≡ before.names
    → params_in after ≡ params_in before → Took nothing before after
took_besides before after e from limit l n most os p w t f k r = let a = before.stored in record {
  exprs = grew_none (ap length e) limit;
  labels = still a.labels l;
  bindings = grew_none n most;
  pats = still a.pats p;
  types = still a.types t;
  lifetimes = still a.lifetimes f;
  paired = λ d. record {
    exprs = as_many_still e from d.exprs;
    labels = pairs_still l d.labels;
    pats = pairs_still p d.pats;
    types = pairs_still t d.types;
    lifetimes = pairs_still f d.lifetimes;
  };
  pat_sources = no_sources a.pats p;
  pat_mappings = ap (λ s. s.map) p;
  target_mappings = w;
  type_mappings = ap (λ s. s.map) t;
  pat_leads = refl;
  type_leads = refl;
  type_sources = no_sources a.types t;
  lifetime_sources = no_sources a.lifetimes f;
  names = unnamed k;
  params = unnamed r;
  as_many = refl;
  owners = λ h. no_owners a.bindings.owners os;
}

pub took_none : (b : Builder) → Took nothing b b
took_none b = took_besides b b refl refl refl refl refl refl refl refl refl refl refl refl refl

no_more : (n : ℕ) → n + 0 ≡ n
no_more n = omega arith

none_first : (n : ℕ) → 0 + n ≡ n
none_first n = omega arith

one_by_one : (n k j : ℕ) → n + (k + j) ≡ (n + k) + j
one_by_one n k j = omega arith

pub none_after : (n : Size) → Same (n ∪ nothing) n
none_after n = record {
  exprs = no_more n.exprs;
  labels = no_more n.labels;
  bindings = no_more n.bindings;
  owners = append-nil n.owners;
  names = no_more n.names;
  params = no_more n.params;
  pats = append-nil n.pats;
  types = append-nil n.types;
  lifetimes = append-nil n.lifetimes;
  pat_leads = append-nil n.pat_leads;
  type_leads = append-nil n.type_leads;
  overcounts = λ h. ⊎_elim (λ x. x) (λ x. absurd x) h;
}

pub none_before : (n : Size) → Same (nothing ∪ n) n
none_before n = record {
  exprs = none_first n.exprs;
  labels = none_first n.labels;
  bindings = none_first n.bindings;
  owners = further_none n.owners;
  names = none_first n.names;
  params = none_first n.params;
  pats = refl;
  types = refl;
  lifetimes = refl;
  pat_leads = refl;
  type_leads = refl;
  overcounts = λ h. ⊎_elim (λ x. absurd x) (λ x. x) h;
}

-- and the other way round
pub nothing_first : (n : Size) → Same n (nothing ∪ n)
nothing_first n = record {
  exprs = sym (none_first n.exprs);
  labels = sym (none_first n.labels);
  bindings = sym (none_first n.bindings);
  owners = sym (further_none n.owners);
  names = sym (none_first n.names);
  params = sym (none_first n.params);
  pats = refl;
  types = refl;
  lifetimes = refl;
  pat_leads = refl;
  type_leads = refl;
  overcounts = λ h. inr h;
}

pub moved_in : (n k j : Size) → Same (n ∪ (k ∪ j)) ((n ∪ k) ∪ j)
moved_in n k j = record {
  exprs = one_by_one n.exprs k.exprs j.exprs;
  labels = one_by_one n.labels k.labels j.labels;
  bindings = one_by_one n.bindings k.bindings j.bindings;
  owners = owners_joined n.exprs k.exprs n.owners k.owners j.owners;
  names = one_by_one n.names k.names j.names;
  params = one_by_one n.params k.params j.params;
  pats = sym (append_assoc n.pats k.pats j.pats);
  types = sym (append_assoc n.types k.types j.types);
  lifetimes = sym (append_assoc n.lifetimes k.lifetimes j.lifetimes);
  pat_leads = sym (append_assoc n.pat_leads k.pat_leads j.pat_leads);
  type_leads = sym (append_assoc n.type_leads k.type_leads j.type_leads);
  overcounts = λ h. ⊎_elim (λ x. inl (inl x)) (λ y. ⊎_elim (λ x. inl (inr x)) (λ x. inr x) y) h;
}

pub moved_out : (n k j : Size) → Same ((n ∪ k) ∪ j) (n ∪ (k ∪ j))
moved_out n k j = record {
  exprs = sym (one_by_one n.exprs k.exprs j.exprs);
  labels = sym (one_by_one n.labels k.labels j.labels);
  bindings = sym (one_by_one n.bindings k.bindings j.bindings);
  owners = sym (owners_joined n.exprs k.exprs n.owners k.owners j.owners);
  names = sym (one_by_one n.names k.names j.names);
  params = sym (one_by_one n.params k.params j.params);
  pats = append_assoc n.pats k.pats j.pats;
  types = append_assoc n.types k.types j.types;
  lifetimes = append_assoc n.lifetimes k.lifetimes j.lifetimes;
  pat_leads = append_assoc n.pat_leads k.pat_leads j.pat_leads;
  type_leads = append_assoc n.type_leads k.type_leads j.type_leads;
  overcounts = λ h. ⊎_elim (λ y. ⊎_elim (λ x. inl x) (λ x. inr (inl x)) y) (λ x. inr (inr x)) h;
}
