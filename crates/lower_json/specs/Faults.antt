-- When a text of which a root is wanted has which fault first.
use Rattle.std.specs.Prelude.{◌≡◌, ◌⊎◌, ℕ, List, Some, None, IsUtf8}
use Rattle.serde_json.specs.Data.{Data}
use Rattle.serde_json.specs.Read.{read}
use Rattle.json_errors.specs.Faults.{fault_of}
use Rattle.lower_json.specs.Documents.{first_fault}
use Rattle.lower_json.specs.declared.document.Root.{Root}
use Rattle.lower_json.specs.declared.fault.Fault.{Fault}
use Rattle.lower_json.specs.declared.fault.Fault.TheVariants as fault
use Rattle.lower_json.specs.declared.fault.ReadError.{ReadError}
use Rattle.lower_json.specs.declared.fault.ReadError.TheVariants as error

-- of a text that is JSON
abbrev pub IsErrorOf : Root → Data → ReadError → Type 0
IsErrorOf want d error.Memory = Unit {0}
IsErrorOf want d (error.Fault fault.NotJson) = ⊥
IsErrorOf want d (error.Fault (fault.Document f)) = first_fault want d ≡ Some (fault_of f)

abbrev pub IsTextFault : Root → List ℕ → Fault → Type 0
IsTextFault want text fault.NotJson = ¬ (IsUtf8 text) ⊎ (read text ≡ None)
IsTextFault want text (fault.Document f) =
    IsUtf8 text × ((d : Data) × (read text ≡ Some d) × (first_fault want d ≡ Some (fault_of f)))

-- memory may be refused for any text
abbrev pub IsTextError : Root → List ℕ → ReadError → Type 0
IsTextError want text error.Memory = Unit {0}
IsTextError want text (error.Fault f) = IsTextFault want text f
