-- Entries of a list, written one behind the other.
use Rattle.std.specs.Prelude.{◌≡◌, ℕ, List, [], ◌∷◌, length}
use Rattle.json.specs.Token.{Token}
use Rattle.json.specs.Written.{Written}
use Rattle.thm_result_json.specs.Arguments.{FlatArgs}
use Rattle.thm_result_json.specs.Codec.{Codec}
use Rattle.thm_result_json.specs.Paths.{flat_args}
use Rattle.store_json.specs.Append.{IsReadable, with_data}

module _ {A : Type 0} (c : Codec A) where
  abbrev pub with_each : List A → List Token → List Token
  with_each [] before = before
  with_each (x ∷ xs) before = with_each xs (with_data (c.to x) before)

  abbrev pub EachIsReadable : List A → Type 0
  EachIsReadable [] = Unit {0}
  EachIsReadable (x ∷ xs) = IsReadable (c.to x) × EachIsReadable xs

-- these entries stand behind the start, so many
pub record HasEntries (start : Written) (entries : List FlatArgs) (count : ℕ) (now : Written) : Type 0 where
  pub text : now.tokens ≡ with_each flat_args entries start.tokens
  pub reads : EachIsReadable flat_args entries
  pub as_many : length entries ≡ count
  pub before : now.before ≡ start.before
