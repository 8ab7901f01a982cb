-- The words that the program is given.
use Rattle.std.specs.Prelude.{ℕ, List, [], ◌∷◌, Option, None, codes, bytes_eq, find}
use Rattle.lower_json.specs.declared.document.Root.{Root}
use Rattle.lower_json.specs.declared.document.Root.TheVariants as root
use Rattle.lower_run.specs.declared.mode.Mode.{Mode}
use Rattle.lower_run.specs.declared.mode.Mode.TheVariants as mode

-- the word of a mode
abbrev pub mode_word : Mode → List ℕ
mode_word mode.Path = codes "path"
mode_word mode.Type_ = codes "type"
mode_word mode.Pat = codes "pat"
mode_word mode.Body = codes "body"
mode_word mode.Fn = codes "fn"

-- the mode whose word it is
abbrev pub mode_with : List ℕ → Option Mode
mode_with word = find (λ m. bytes_eq word (mode_word m)) (mode.Path ∷ mode.Type_ ∷ mode.Pat ∷ mode.Body ∷ mode.Fn ∷ [])

-- the mode that words call for: exactly one word, which is a mode's
abbrev pub called : {W : Type 0} → (W → List ℕ) → List W → Option Mode
called text [] = None
called text (w ∷ []) = mode_with (text w)
called text (w ∷ v ∷ vs) = None

-- what the root of a document has to be
abbrev pub root_of : Mode → Root
root_of mode.Path = root.Path
root_of mode.Type_ = root.Type_
root_of mode.Pat = root.Pat
root_of mode.Body = root.Fn
root_of mode.Fn = root.Fn
