-- How values are written as JSON and read again.
use Prim.Native.String.{String}
use Rattle.std.specs.Prelude.{◌≡◌, ◌≤◌, ℕ, Bool, List, [], ◌∷◌, Option, Some, None, codes, bytes_eq, find, if◌then◌else◌, nat_eq}
use Rattle.std.specs.Prelude.{option_and_then, option_map}
use Rattle.serde_json.specs.Data.{Data, Items, Members, null, boolean, number, string, array, object, unsigned, no_items, item}
use Rattle.serde_json.specs.Data.{depth, member, no_members}
use Rattle.serde_json.specs.Find.{as_bool, as_object, as_str, get_member}

pub record Codec (A : Type 0) : Type 0 where
  pub to : A → Data
  pub from : Data → Option A

abbrev pub IsNull : Data → Type 0
IsNull null = Unit {0}
IsNull _ = ⊥

-- What is written reads back, isn't `null`, and nests at most so deep.
pub record Faithful {A : Type 0} (c : Codec A) (deep : ℕ) : Type 0 where
  pub back : (x : A) → c.from (c.to x) ≡ Some x
  pub solid : (x : A) → IsNull (c.to x) → ⊥
  pub depths : (x : A) → depth (c.to x) ≤ deep

-- numbers, texts and truth values

abbrev pub as_count : Data → Option ℕ
as_count (number (unsigned n)) = Some n
as_count _ = None

abbrev pub count_codec : Codec ℕ
count_codec = record { to = λ n. number (unsigned n); from = as_count }

abbrev pub text_codec : Codec (List ℕ)
text_codec = record { to = λ s. string s; from = as_str }

abbrev pub bool_codec : Codec Bool
bool_codec = record { to = λ b. boolean b; from = as_bool }

-- of another type

abbrev pub by : {A B : Type 0} → (B → A) → (A → Option B) → Codec A → Codec B
by f g c = record { to = λ x. c.to (f x); from = λ d. option_and_then g (c.from d) }

-- one of these, by its word
abbrev pub word_codec : {A : Type 0} → (A → String) → List A → Codec A
word_codec word all = record {
  to = λ x. string (codes (word x));
  from = λ d. option_and_then (λ s. find (λ x. bytes_eq s (codes (word x))) all) (as_str d);
}

-- what may be absent is `null` there

module _ {A : Type 0} (c : Codec A) where
  abbrev pub to_maybe : Option A → Data
  to_maybe None = null
  to_maybe (Some x) = c.to x

  abbrev pub from_maybe : Data → Option (Option A)
  from_maybe null = Some None
  from_maybe d = option_map (λ x. Some x) (c.from d)

  abbrev pub maybe : Codec (Option A)
  maybe = record { to = to_maybe; from = from_maybe }

  -- lists

  abbrev pub to_items : List A → Items
  to_items [] = no_items
  to_items (x ∷ xs) = item (c.to x) (to_items xs)

  abbrev pub from_items : Items → Option (List A)
  from_items no_items = Some []
  from_items (item d ds) = option_and_then (λ x. option_map (λ xs. x ∷ xs) (from_items ds)) (c.from d)

  abbrev pub from_list : Data → Option (List A)
  from_list (array ds) = from_items ds
  from_list _ = None

  abbrev pub listing : Codec (List A)
  listing = record { to = λ xs. array (to_items xs); from = from_list }

-- two in a list

module _ {A B : Type 0} (c : Codec A) (d : Codec B) where
  abbrev pub from_two : Data → Option (A × B)
  from_two (array (item x (item y no_items))) = option_and_then (λ a. option_map (λ b. (a, b)) (d.from y)) (c.from x)
  from_two _ = None

  abbrev pub both : Codec (A × B)
  both = record { to = λ p. array (item (c.to p.0) (item (d.to p.1) no_items)); from = from_two }

-- several values, the last one as it is
infixr 30 ◌&◌
abbrev pub ◌&◌ : {A B : Type 0} → A → B → A × B
a & b = (a, b)

-- objects: their members by key, in the order of the keys

pub record Fields (A : Type 0) : Type 0 where
  pub to : A → Members
  pub from : Members → Option A

-- the value of a key
abbrev pub at_key : {A : Type 0} → String → Codec A → Members → Option A
at_key k c ms = option_and_then c.from (get_member (codes k) ms)

-- one key, and nothing behind it
abbrev pub last : {A : Type 0} → String → Codec A → Fields A
last k c = record { to = λ x. member (codes k) (c.to x) no_members; from = at_key k c }

-- one key in front of others
abbrev pub key : {A B : Type 0} → String → Codec A → Fields B → Fields (A × B)
key k c r = record {
  to = λ x. member (codes k) (c.to x.0) (r.to x.1);
  from = λ ms. option_and_then (λ a. option_map (λ b. (a, b)) (r.from ms)) (at_key k c ms);
}

-- the word of a kind, at `k`, in front of others or alone
abbrev pub kind : {A : Type 0} → String → Fields A → Fields A
kind w r = record { to = λ x. member (codes "k") (string (codes w)) (r.to x); from = r.from }

abbrev pub only_kind : String → Fields (Unit {0})
only_kind w = record { to = λ x. member (codes "k") (string (codes w)) no_members; from = λ ms. Some tt }

-- a version, in front of what is written by it and read by no other
abbrev pub version : {A : Type 0} → String → ℕ → Fields A → Fields A
version k n r = record {
  to = λ x. member (codes k) ((count_codec).to n) (r.to x);
  from = λ ms. option_and_then (λ m. if nat_eq m n then r.from ms else None) (at_key k count_codec ms);
}

-- a record, by its fields
abbrev pub made : {A B : Type 0} → (B → A) → (A → B) → Fields A → Codec B
made f g r = record { to = λ x. object (r.to (f x)); from = λ d. option_map g (option_and_then r.from (as_object d)) }

-- what the object of a kind is read as
pub record Kind (A : Type 0) : Type 0 where
  pub word : List ℕ
  pub from : Members → Option A

abbrev pub one : {A B : Type 0} → String → (B → A) → Fields B → Kind A
one w g r = record { word = codes w; from = λ ms. option_map g (r.from ms) }

-- the objects of some kinds, by the word at `k`
abbrev pub of_kind : {A : Type 0} → List (Kind A) → Members → Option A
of_kind all ms =
    option_and_then (λ w. option_and_then (λ k. k.from ms) (find (λ k. bytes_eq w k.word) all))
    (option_and_then as_str (get_member (codes "k") ms))

abbrev pub kinds : {A : Type 0} → (A → Members) → List (Kind A) → Codec A
kinds to all = record { to = λ x. object (to x); from = λ d. option_and_then (of_kind all) (as_object d) }
