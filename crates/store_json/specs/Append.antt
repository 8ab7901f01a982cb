-- What is written of data: its tokens, one behind the other.
use Rattle.std.specs.Prelude.{◌≡◌, ◌<◌, ◌^◌, ◌++◌, ◌∷◌, [], ℕ, List, Bool, true, false}
use Rattle.std.specs.Cmp.Lexicographic.{slice_cmp}
use Rattle.std.specs.Ordering.{match_ordering, nat_cmp}
use Rattle.json.specs.Token as token
use Rattle.json.specs.Token.{Token}
use Rattle.json.specs.Written.{Written}
use Rattle.serde_json.specs.Data.{Data, Items, Members, array, boolean, item, member, no_items, no_members, null, number, object}
use Rattle.serde_json.specs.Data.{string, unsigned, negative, float}
use Rattle.serde_json.specs.Written.{number_text}

abbrev mutual
  -- the tokens behind those before
  pub with_data : Data → List Token → List Token
  with_data null before = before ++ token.null ∷ []
  with_data (boolean b) before = before ++ token.boolean b ∷ []
  with_data (number n) before = before ++ token.number (number_text n) ∷ []
  with_data (string s) before = before ++ token.string s ∷ []
  with_data (array ds) before = with_items ds (before ++ token.begin_array ∷ [])
  with_data (object ms) before = with_members ms (before ++ token.begin_object ∷ [])

  pub with_items : Items → List Token → List Token
  with_items no_items before = before ++ token.end_array ∷ []
  with_items (item d ds) before = with_items ds (with_data d before)

  pub with_members : Members → List Token → List Token
  with_members no_members before = before ++ token.end_object ∷ []
  with_members (member k d ms) before = with_members ms (with_data d (before ++ token.key k ∷ []))

-- the first key stands in front of the second in the order of keys
abbrev pub are_in_order : List ℕ → List ℕ → Bool
are_in_order k l = match_ordering (slice_cmp nat_cmp k l) true false false

abbrev pub is_in_front : List ℕ → Members → Bool
is_in_front k no_members = true
is_in_front k (member l d ms) = are_in_order k l

-- What reads back: its numbers fit, and its keys stand in their order, each once.
abbrev mutual
  pub IsReadable : Data → Type 0
  IsReadable null = Unit {0}
  IsReadable (boolean b) = Unit {0}
  IsReadable (number (unsigned n)) = n < 2 ^ 64
  IsReadable (number (negative z)) = ⊥
  IsReadable (number (float x)) = ⊥
  IsReadable (string s) = Unit {0}
  IsReadable (array ds) = AreReadable ds
  IsReadable (object ms) = HasReadable ms

  pub AreReadable : Items → Type 0
  AreReadable no_items = Unit {0}
  AreReadable (item d ds) = IsReadable d × AreReadable ds

  pub HasReadable : Members → Type 0
  HasReadable no_members = Unit {0}
  HasReadable (member k d ms) = (is_in_front k ms ≡ true) × (IsReadable d × HasReadable ms)

-- data are written behind what stands there
pub record Appends (d : Data) (old new : Written) : Type 0 where
  pub text : new.tokens ≡ with_data d old.tokens
  pub reads : IsReadable d
  pub before : new.before ≡ old.before

-- a key with its value, inside an object
pub record AppendsMember (k : List ℕ) (d : Data) (old new : Written) : Type 0 where
  pub text : new.tokens ≡ with_data d (old.tokens ++ token.key k ∷ [])
  pub reads : IsReadable d
  pub before : new.before ≡ old.before
