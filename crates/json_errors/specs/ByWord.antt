-- What is known by a word, in a language of few.
use Rattle.std.specs.Prelude.{ℕ, List, Option, Some, None, bytes_eq, find}

-- the first of some things whose word it is
abbrev pub with_word : {T : Type 0} → (T → List ℕ) → List T → List ℕ → Option T
with_word word_of all word = find (λ x. bytes_eq word (word_of x)) all

-- the first of two, or else the second
abbrev pub or_else : {T : Type 0} → Option T → Option T → Option T
or_else (Some x) o = Some x
or_else None o = o
