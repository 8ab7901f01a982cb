-- Codecs of parts make those of what has them.
use Prim.Native.String.{String}
use Rattle.std.proofs.Common.{◌≡◌, ◌∙◌, ap, refl, arith, ℕ, suc, ◌≤◌, max, List, [], ◌∷◌, Option, Some, None}
use Rattle.std.proofs.Common.{codes, if◌then◌else◌, nat_eq, option_and_then, option_map, rules, true}
use Rattle.std.proofs.lemmas.Cmp.{nat_list_cmp_total, tied_itself}
use Rattle.std.specs.Ordering.{match_ordering}
use Rattle.serde_json.specs.Data.{Data, Members, array, boolean, depth, items_depth, member, members_depth, no_members, null}
use Rattle.serde_json.specs.Data.{number, object, string}
use Rattle.serde_json.specs.Find.{get_member}
use Rattle.thm_result_json.specs.Codec.{Codec, Faithful, Fields, IsNull, Kind, only_kind, at_key, both, by, count_codec, bool_codec}
use Rattle.thm_result_json.specs.Codec.{from_items}
use Rattle.thm_result_json.specs.Codec.{from_maybe, key, kind, kinds, last, listing, made, maybe, text_codec, to_items, version}

pub counts : Faithful count_codec 0
counts = record { back = λ n. refl; solid = λ n h. h; depths = λ n. omega arith }

pub texts : Faithful text_codec 0
texts = record { back = λ s. refl; solid = λ s h. h; depths = λ s. omega arith }

pub flags : Faithful bool_codec 0
flags = record { back = λ b. refl; solid = λ b h. h; depths = λ b. omega arith }

pub by_mapping : {A B : Type 0} {c : Codec A} {n : ℕ} (f : B → A) (g : A → Option B) → ((x : B) → g (f x) ≡ Some x) → Faithful c n
    → Faithful (by f g c) n
by_mapping f g mapping h = record {
  back = λ x. ap (option_and_then g) (h.back (f x)) ∙ mapping x;
  solid = λ x. h.solid (f x);
  depths = λ x. h.depths (f x);
}

abbrev pub IsWord : Data → Type 0
IsWord (string s) = Unit {0}
IsWord _ = ⊥

word_solid : (d : Data) → IsWord d → IsNull d → ⊥
word_solid (string s) h n = n
word_solid null h n = h
word_solid (boolean b) h n = h
word_solid (number x) h n = h
word_solid (array ds) h n = h
word_solid (object ms) h n = h

word_depths : (d : Data) → IsWord d → depth d ≤ 0
word_depths (string s) h = omega arith
word_depths null h = absurd h
word_depths (boolean b) h = absurd h
word_depths (number x) h = absurd h
word_depths (array ds) h = absurd h
word_depths (object ms) h = absurd h

pub words : {A : Type 0} (c : Codec A) → ((x : A) → c.from (c.to x) ≡ Some x) → ((x : A) → IsWord (c.to x)) → Faithful c 0
words c mapping texts = record { back = mapping; solid = λ x. word_solid (c.to x) (texts x); depths = λ x. word_depths (c.to x) (texts x) }

-- read as something that is there
solid_back : {A : Type 0} (c : Codec A) (d : Data) → (IsNull d → ⊥) → from_maybe c d ≡ option_map (λ x. Some x) (c.from d)
solid_back c null h = absurd (h tt)
solid_back c (boolean b) h = refl
solid_back c (number x) h = refl
solid_back c (string s) h = refl
solid_back c (array ds) h = refl
solid_back c (object ms) h = refl

-- What may be `null` reads back, and nests at most so deep.
pub record Reads {A : Type 0} (c : Codec A) (deep : ℕ) : Type 0 where
  pub back : (x : A) → c.from (c.to x) ≡ Some x
  pub depths : (x : A) → depth (c.to x) ≤ deep

pub reads : {A : Type 0} {c : Codec A} {n : ℕ} → Faithful c n → Reads c n
reads h = record { back = h.back; depths = h.depths }

module _ {A : Type 0} {c : Codec A} {n : ℕ} (h : Faithful c n) where
  maybe_back : (x : Option A) → (maybe c).from ((maybe c).to x) ≡ Some x
  maybe_back None = refl
  maybe_back (Some x) = solid_back c (c.to x) (h.solid x) ∙ ap (option_map (λ y. Some y)) (h.back x)

  maybe_depths : (x : Option A) → depth ((maybe c).to x) ≤ n
  maybe_depths None = omega arith
  maybe_depths (Some x) = h.depths x

  pub maybes : Reads (maybe c) n
  maybes = record { back = maybe_back; depths = maybe_depths }

-- the items of a list, whether or not one may be `null`
module _ {A : Type 0} {c : Codec A} {n : ℕ} (h : Reads c n) where
  items_back : (xs : List A) → from_items c (to_items c xs) ≡ Some xs
  items_back [] = refl
  items_back (x ∷ xs) = ap (option_and_then (λ y. option_map (λ ys. y ∷ ys) (from_items c (to_items c xs)))) (h.back x)
      ∙ ap (option_map (λ ys. x ∷ ys)) (items_back xs)

  items_depths : (xs : List A) → items_depth (to_items c xs) ≤ n
  items_depths [] = omega arith
  items_depths (x ∷ xs) = omega (arith, h.depths x, items_depths xs)

  pub lists : Faithful (listing c) (suc n)
  lists = record { back = items_back; solid = λ xs h. h; depths = λ xs. omega (arith, items_depths xs) }

pub listing_faithful : {A : Type 0} {c : Codec A} {n : ℕ} → Faithful c n → Faithful (listing c) (suc n)
listing_faithful h = lists (reads h)

pub both_faithful : {A B : Type 0} {c : Codec A} {d : Codec B} {n m : ℕ} → Reads c n → Reads d m → Faithful (both c d) (suc (max n m))
both_faithful {c = c} {d = d} h k = record {
  back = λ p. ap (option_and_then (λ a. option_map (λ b. (a, b)) (d.from (d.to p.1)))) (h.back p.0)
      ∙ ap (option_map (λ b. (p.0, b))) (k.back p.1);
  solid = λ p h. h;
  depths = λ p. omega (arith, h.depths p.0, k.depths p.1);
}

nat_eq_refl : (n : ℕ) → nat_eq n n ≡ true
nat_eq_refl n = search rules

-- objects

-- What is written of the fields reads back, and nests at most so deep.
pub record Kept {A : Type 0} (r : Fields A) (deep : ℕ) : Type 0 where
  pub back : (x : A) → r.from (r.to x) ≡ Some x
  pub depths : (x : A) → members_depth (r.to x) ≤ deep

first_found : (k : List ℕ) (d : Data) (ms : Members) → get_member k (member k d ms) ≡ Some d
first_found k d ms = ap (λ o. match_ordering o (get_member k ms) (Some d) (get_member k ms)) (tied_itself nat_list_cmp_total k)

key_back : {A : Type 0} (k : String) {c : Codec A} {n : ℕ} → Reads c n → (x : A) (ms : Members)
    → at_key k c (member (codes k) (c.to x) ms) ≡ Some x
key_back k {c = c} h x ms = ap (option_and_then c.from) (first_found (codes k) (c.to x) ms) ∙ h.back x

pub lasts : {A : Type 0} (k : String) {c : Codec A} {n : ℕ} → Reads c n → Kept (last k c) n
lasts k h = record { back = λ x. key_back k h x no_members; depths = λ x. omega (arith, h.depths x) }

pub keys : {A B : Type 0} (k : String) {c : Codec A} {r : Fields B} {n m : ℕ} → Reads c n → Kept r m
    → ((d : Data) (x : B) → r.from (member (codes k) d (r.to x)) ≡ r.from (r.to x)) → Kept (key k c r) (max n m)
keys k {c = c} {r = r} h l pass = record {
  back = λ x. ap (option_and_then (λ a. option_map (λ b. (a, b)) (r.from (member (codes k) (c.to x.0) (r.to x.1))))) (key_back k h x.0 _)
      ∙ ap (option_map (λ b. (x.0, b))) (pass (c.to x.0) x.1 ∙ l.back x.1);
  depths = λ x. omega (arith, h.depths x.0, l.depths x.1);
}

pub kind_keeps : {A : Type 0} (w : String) {r : Fields A} {m : ℕ} → Kept r m
    → ((d : Data) (x : A) → r.from (member (codes "k") d (r.to x)) ≡ r.from (r.to x)) → Kept (kind w r) m
kind_keeps w l pass = record {
  back = λ x. pass _ x ∙ l.back x;
  depths = λ x. omega (arith, l.depths x);
}

pub versions : {A : Type 0} (k : String) (v : ℕ) {r : Fields A} {m : ℕ} → Kept r m
    → ((d : Data) (x : A) → r.from (member (codes k) d (r.to x)) ≡ r.from (r.to x)) → Kept (version k v r) m
versions k v {r = r} l pass = record {
  back = λ x. ap (option_and_then (λ n. if nat_eq n v then r.from (member (codes k) ((count_codec).to v) (r.to x)) else None))
      (key_back k (reads counts) v (r.to x))
      ∙ (ap (λ b. if b then r.from (member (codes k) ((count_codec).to v) (r.to x)) else None) (nat_eq_refl v) ∙ (pass _ x ∙ l.back x));
  depths = λ x. omega (arith, l.depths x);
}

pub alone_keeps : (w : String) → Kept (only_kind w) 0
alone_keeps w = record { back = λ x. refl; depths = λ x. omega arith }

pub makes : {A B : Type 0} (f : B → A) (g : A → B) {r : Fields A} {n : ℕ} → Kept r n → ((x : B) → g (f x) ≡ x)
    → Faithful (made f g r) (suc n)
makes f g l mapping = record {
  back = λ x. ap (option_map g) (l.back (f x)) ∙ ap (λ y. Some y) (mapping x);
  solid = λ x h. h;
  depths = λ x. omega (arith, l.depths (f x));
}

-- what is told of a kind: these members read as this, and nest at most so deep
abbrev pub Emitted : {A : Type 0} → List (Kind A) → Members → A → ℕ → Type 0
Emitted all ms x deep = ((kinds (λ y. ms) all).from (object ms) ≡ Some x) × (members_depth ms ≤ deep)

pub fields_back : {A B : Type 0} {r : Fields B} {m : ℕ} (deep : ℕ) (g : B → A) → Kept r m → m ≤ deep → (x : B)
    → (option_map g (r.from (r.to x)) ≡ Some (g x)) × (members_depth (r.to x) ≤ deep)
fields_back deep g l fits x = (ap (option_map g) (l.back x), omega (arith, l.depths x))

pub sums : {A : Type 0} (to : A → Members) (all : List (Kind A)) (n : ℕ) → ((x : A) → Emitted all (to x) x n)
    → Faithful (kinds to all) (suc n)
sums to all n h = record { back = λ x. (h x).0; solid = λ x h. h; depths = λ x. omega (arith, (h x).1) }
