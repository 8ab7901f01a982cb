-- How a run without a listing ends.
use Rattle.std.specs.Prelude.{ℕ}
use Rattle.hir_lower.specs.declared.error.LowerError.{LowerError}
use Rattle.hir_lower.specs.declared.error.LowerError.TheVariants as lower
use Rattle.lower_json.specs.declared.fault.ReadError.{ReadError}
use Rattle.lower_json.specs.declared.fault.ReadError.TheVariants as read
use Rattle.lower_run.specs.declared.failure.Failure.{Failure}
use Rattle.lower_run.specs.declared.failure.Failure.TheVariants.{Usage, Input, Output, Document, Memory, Full}

-- 2: the words, a stream or the document are wrong; 3: memory or numbers ran out
abbrev pub status_of : Failure → ℕ
status_of Usage = 2
status_of Input = 2
status_of Output = 2
status_of (Document _) = 2
status_of Memory = 3
status_of Full = 3

-- why, where a document was not read
abbrev pub not_read : ReadError → Failure
not_read read.Memory = Memory
not_read (read.Fault f) = Document f

-- why, where a body was not lowered; a fresh collector has not failed before
abbrev pub not_lowered : LowerError → Failure
not_lowered lower.Memory = Memory
not_lowered lower.Full = Full
not_lowered lower.Failed = Memory
