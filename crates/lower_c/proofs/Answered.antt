-- What a call answers, by what came of its document.
use Rattle.std.proofs.Common.{◌≡◌, ◌⊎◌, ⊎_elim, ℕ, List, Some, None, Result, Ok, Err, subst}
use Rattle.std.specs.Prelude.{IfOk, String, string_bytes}
use Rattle.std.specs.declared.alloc.Global.{Global}
use Rattle.std.specs.declared.option.Option.{Option}
use Rattle.lower_run.specs.declared.failure.Failure.{Failure}
use Rattle.lower_run.specs.declared.failure.Failure.TheVariants as failure
use Rattle.lower_run.specs.declared.mode.Mode.{Mode}
use Rattle.lower_c.specs.Answers.{Answers, CameOfCall, IsListing, Reports}

-- memory may be refused for any
refused : (mode : Option Mode) (document : List ℕ) → CameOfCall {T = String Global} mode document (Err failure.Memory)
refused (Some m) document = tt
refused None document = tt

pub answers : (Form : List ℕ → Type 0) (asked mode : Option Mode) (document : List ℕ) (came : Result (String Global) Failure)
    (answer needed : ℕ) (old new : List ℕ) → asked ≡ mode → CameOfCall asked document came → IfOk came (λ made. Form (string_bytes made))
    → Reports came answer needed old new ⊎ Reports (Err failure.Memory) answer needed old new
    → Answers Form mode document answer needed old new
answers Form asked mode document came answer needed old new is of form reports = ⊎_elim
    (λ r. record { came = came; of = subst (λ m. CameOfCall m document came) is of; form = form; reports = r })
    (λ r. record { came = Err failure.Memory; of = refused mode document; form = tt; reports = r })
    reports

-- nothing is stated of a listing's text
pub any_listing : (came : Result (String Global) Failure) → IfOk came (λ made. IsListing (string_bytes made))
any_listing (Ok made) = tt
any_listing (Err e) = tt
