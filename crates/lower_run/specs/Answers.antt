-- What was read, by what came of it.
use Rattle.std.specs.Prelude.{◌≡◌, ℕ, List, Option, Some, Result, Ok, Err}
use Rattle.std.specs.Io.KnownBytes.{Consumes, IsAtEnd}
use Rattle.lower_json.specs.Documents.{IsDocument}
use Rattle.lower_json.specs.Faults.{IsTextFault}
use Rattle.lower_json.specs.declared.document.Document.{Document}
use Rattle.lower_run.specs.Words.{root_of}
use Rattle.lower_run.specs.declared.failure.Failure.{Failure}
use Rattle.lower_run.specs.declared.failure.Failure.TheVariants as failure
use Rattle.lower_run.specs.declared.mode.Mode.{Mode}

-- the text says something in a mode
abbrev pub SaysSome : Mode → List ℕ → Type 0
SaysSome mode text = (document : Document) × IsDocument (root_of mode) text document

-- why nothing came of a text in a mode; memory may be refused for any
abbrev pub FailsWith : Mode → List ℕ → Failure → Type 0
FailsWith mode text (failure.Document f) = IsTextFault (root_of mode) text f
FailsWith mode text failure.Full = SaysSome mode text
FailsWith mode text failure.Memory = Unit {0}
FailsWith mode text failure.Usage = ⊥
FailsWith mode text failure.Input = ⊥
FailsWith mode text failure.Output = ⊥

-- what came of a text in a mode
abbrev pub CameOf : {T : Type 0} → Mode → List ℕ → Result T Failure → Type 0
CameOf mode text (Ok _) = SaysSome mode text
CameOf mode text (Err f) = FailsWith mode text f

-- all that was left was read
pub record ReadsAll (old new : Option (List ℕ)) (text : List ℕ) : Type 0 where
  pub consumes : Consumes old new text
  pub end : IsAtEnd new

-- a mode is called for, and all that was left is a text of which something holds
abbrev pub ReadsIn : Option Mode → Option (List ℕ) → Option (List ℕ) → (Mode → List ℕ → Type 0) → Type 0
ReadsIn called old new holds = (mode : Mode) × (called ≡ Some mode) × ((text : List ℕ) × ReadsAll old new text × holds mode text)

-- this came of all that was left, in the mode that was called for
abbrev pub ResolvedTree : {T : Type 0} → Option Mode → Option (List ℕ) → Option (List ℕ) → Result T Failure → Type 0
ResolvedTree called old new (Err failure.Input) = Unit {0}
ResolvedTree called old new (Err failure.Output) = ⊥
ResolvedTree called old new (Err failure.Memory) = Unit {0}
ResolvedTree called old new (Err failure.Usage) = Unit {0}
ResolvedTree called old new (Err failure.Full) = ReadsIn called old new SaysSome
ResolvedTree called old new (Err (failure.Document f)) = ReadsIn called old new (λ mode text. IsTextFault (root_of mode) text f)
ResolvedTree called old new (Ok _) = ReadsIn called old new SaysSome
