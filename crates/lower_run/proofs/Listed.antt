-- What comes of a text whose document is read.
use Rattle.std.proofs.Common.{◌≡◌, ◌⊎◌, ⊎_elim, ℕ, List, Result, Ok, Err}
use Rattle.std.specs.Prelude.{IfErr}
use Rattle.lower_json.specs.Documents.{IsDocument}
use Rattle.lower_json.specs.declared.document.Document.{Document}
use Rattle.lower_run.specs.Answers.{CameOf}
use Rattle.lower_run.specs.Words.{root_of}
use Rattle.lower_run.specs.declared.failure.Failure.{Failure}
use Rattle.lower_run.specs.declared.failure.Failure.TheVariants as failure
use Rattle.lower_run.specs.declared.mode.Mode.{Mode}

pub listed_came : {T : Type 0} (mode : Mode) (text : List ℕ) (document : Document) (r : Result T Failure)
    → IsDocument (root_of mode) text document → IfErr r (λ e. (e ≡ failure.Memory) ⊎ (e ≡ failure.Full)) → CameOf mode text r
listed_came mode text document (Ok x) is h = (document, is)
listed_came mode text document (Err failure.Full) is h = (document, is)
listed_came mode text document (Err failure.Memory) is h = tt
listed_came mode text document (Err failure.Usage) is h = ⊎_elim (λ e. cc) (λ e. cc) h
listed_came mode text document (Err failure.Input) is h = ⊎_elim (λ e. cc) (λ e. cc) h
listed_came mode text document (Err failure.Output) is h = ⊎_elim (λ e. cc) (λ e. cc) h
listed_came mode text document (Err (failure.Document f)) is h = ⊎_elim (λ e. cc) (λ e. cc) h
