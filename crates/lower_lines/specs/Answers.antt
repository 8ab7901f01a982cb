-- What is answered to a document.
use Rattle.std.specs.Prelude.{◌≡◌, ℕ, List, [], ◌∷◌, ◌++◌, codes, Option, Some, None, Result, Ok, Err, String, string_bytes}
use Rattle.std.specs.declared.alloc.Global.{Global}
use Rattle.serde_json.specs.Data.{Data, Members, object, member, no_members, number, string, unsigned}
use Rattle.serde_json.specs.Read.{read}
use Rattle.serde_json.specs.Written.{compact_text}
use Rattle.lower_run.specs.Statuses.{status_of}
use Rattle.lower_run.specs.declared.failure.Failure.{Failure}
use Rattle.lower_lines.specs.declared.answer.Answer.{Answer}
use Rattle.lower_lines.specs.declared.answer.Answer.TheVariants as answer
use Rattle.lower_lines.specs.declared.place.Place.{Place}

-- what came of the document that is answered so
abbrev pub came_of : Answer → Result (String Global) Failure
came_of (answer.Listing text) = Ok text
came_of (answer.Fault failure place) = Err failure

-- the status and the text of a single call
abbrev pub fault_members : ℕ → List ℕ → Members
fault_members status text = member (codes "status") (number (unsigned status)) (member (codes "text") (string text) no_members)

-- and where its text stops being JSON
abbrev pub placed_members : ℕ → List ℕ → Option Place → Members
placed_members status text None = fault_members status text
placed_members status text (Some p) =
    member (codes "column") (number (unsigned p.column)) (member (codes "line") (number (unsigned p.line)) (fault_members status text))

abbrev pub fault_data : ℕ → List ℕ → Option Place → Data
fault_data status text place = object (member (codes "fault") (object (placed_members status text place)) no_members)

-- it says what came of a document: the listing, or the status with which a single call ends; the text beside that isn't stated
abbrev pub SaysWhatCame : Result (String Global) Failure → Data → Type 0
SaysWhatCame (Ok text) d = d ≡ object (member (codes "ok") (string (string_bytes text)) no_members)
SaysWhatCame (Err failure) d = (text : List ℕ) × ((place : Option Place) × (d ≡ fault_data (status_of failure) text place))

-- the line says so in JSON, and is read as nothing else
abbrev pub IsLineOf : Result (String Global) Failure → List ℕ → Type 0
IsLineOf came line = (d : Data) × SaysWhatCame came d × (line ≡ compact_text d ++ (10 ∷ [])) × (read (compact_text d) ≡ Some d)
