-- The words that the program is given.
use Rattle.std.specs.Prelude.{ℕ, List, [], ◌∷◌, Option, Some, None, codes, bytes_eq, if◌then◌else◌}
use Rattle.lower_run.specs.Words.{called}
use Rattle.lower_run.specs.declared.mode.Mode.{Mode}
use Rattle.lower_lines.specs.declared.call.Call.{Call}
use Rattle.lower_lines.specs.declared.call.Call.TheVariants.{Help, Version, Lines}

-- what a word asks for that is no mode's
abbrev pub asked_by : List ℕ → Option Call
asked_by word = if bytes_eq word (codes "--help") then Some Help else (if bytes_eq word (codes "--version") then Some Version else None)

-- what words ask for that call for no mode: exactly one word
abbrev pub asked : {W : Type 0} → (W → List ℕ) → List W → Option Call
asked text [] = None
asked text (w ∷ []) = asked_by (text w)
asked text (w ∷ v ∷ vs) = None

-- lines in a mode, or what else the words ask for
abbrev pub or_else : Option Mode → Option Call → Option Call
or_else (Some mode) other = Some (Lines mode)
or_else None other = other

-- what words ask for
abbrev pub call_of : {W : Type 0} → (W → List ℕ) → List W → Option Call
call_of text words = or_else (called text words) (asked text words)
