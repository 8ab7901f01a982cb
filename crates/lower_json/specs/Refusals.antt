-- Why a text is not read, where its document is not taken.
use Rattle.json_errors.specs.declared.refusal.Refusal.{Refusal}
use Rattle.json_errors.specs.declared.refusal.Refusal.TheVariants as refusal
use Rattle.lower_json.specs.declared.fault.Fault.TheVariants.{Document}
use Rattle.lower_json.specs.declared.fault.ReadError.{ReadError}
use Rattle.lower_json.specs.declared.fault.ReadError.TheVariants as error

abbrev pub error_of : Refusal → ReadError
error_of refusal.Memory = error.Memory
error_of (refusal.Fault f) = error.Fault (Document f)
