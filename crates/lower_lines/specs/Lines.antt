-- What is answered to the lines of an input.
use Rattle.std.specs.Prelude.{◌≡◌, ◌≢◌, ℕ, List, [], ◌∷◌, ◌++◌, map, ◌==◌, if◌then◌else◌, Option, Some, IfSome, Result, String}
use Rattle.std.specs.List.{All, flat_map}
use Rattle.std.specs.Io.KnownBytes.{Appends, Consumes}
use Rattle.std.specs.declared.alloc.Global.{Global}
use Rattle.lower_run.specs.Answers.{CameOf}
use Rattle.lower_run.specs.declared.failure.Failure.{Failure}
use Rattle.lower_run.specs.declared.mode.Mode.{Mode}
use Rattle.lower_lines.specs.Answers.{IsLineOf}
use Rattle.lower_lines.specs.declared.lines.Line.{Line}
use Rattle.lower_lines.specs.declared.lines.Line.TheVariants as line

-- the lines, whose first one begins with x
abbrev pub begin_with : ℕ → List (List ℕ) → List (List ℕ)
begin_with x [] = (x ∷ []) ∷ []
begin_with x (line ∷ lines) = (x ∷ line) ∷ lines

-- the lines of a text, without the newlines that end them; the last one may lack its newline
abbrev pub lines_of : List ℕ → List (List ℕ)
lines_of [] = []
lines_of (x ∷ xs) = if x == 10 then [] ∷ lines_of xs else begin_with x (lines_of xs)

-- a text within one line
abbrev pub IsWithinLine : List ℕ → Type 0
IsWithinLine text = All (λ x. x ≢ 10) text

-- the text is all that was left, if that is known, and nothing is left now
abbrev pub WasAll : Option (List ℕ) → Option (List ℕ) → List ℕ → Type 0
WasAll old new text = IfSome old (λ xs. (xs ≡ text) × (new ≡ Some []))

-- it was read: up to a newline, or all that was left
abbrev pub IsNextLine : Option (List ℕ) → Option (List ℕ) → Line → Type 0
IsNextLine old new (line.Ended text) = IsWithinLine text.items × Consumes old new (text.items ++ (10 ∷ []))
IsNextLine old new (line.Rest text) = IsWithinLine text.items × WasAll old new text.items

-- a line, what came of it, and the line that is answered
pub record Answered : Type 0 where
  pub line : List ℕ
  pub came : Result (String Global) Failure
  pub answer : List ℕ

-- what is answered is what came of the line as a document
pub record IsAnswered (mode : Mode) (a : Answered) : Type 0 where
  pub came : CameOf mode a.line a.came
  pub says : IsLineOf a.came a.answer

-- one line was answered
pub record AnswersOne (mode : Mode) (line : List ℕ) (out_old out_new : Option (List ℕ)) : Type 0 where
  pub one : Answered
  pub of : one.line ≡ line
  pub answered : IsAnswered mode one
  pub written : Appends out_old out_new one.answer

-- all that was left was read, and each of its lines was answered, in order
pub record AnswersAll (mode : Mode) (in_old in_new out_old out_new : Option (List ℕ)) : Type 0 where
  pub text : List ℕ
  pub read : WasAll in_old in_new text
  pub all : List Answered
  pub lines : lines_of text ≡ map (λ a. a.line) all
  pub each : All (IsAnswered mode) all
  pub written : Appends out_old out_new (flat_map (λ a. a.answer) all)
