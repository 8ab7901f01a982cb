-- What an answer that was sent says.
use Rattle.std.proofs.Common.{◌≡◌, ℕ, List, codes, None, Result, Ok, Err, OnOk, refl, subst}
use Rattle.std.specs.declared.option.Option.{Option}
use Rattle.std.specs.Prelude.{String}
use Rattle.std.specs.declared.alloc.Global.{Global}
use Rattle.std.specs.Io.KnownBytes.{Appends}
use Rattle.std.specs.Fmt.{digits}
use Rattle.serde_json.proofs.OnLiterals.{serde_json_on_literals}
use Rattle.lower_run.specs.Answers.{CameOf}
use Rattle.lower_run.specs.declared.failure.Failure.{Failure}
use Rattle.lower_run.specs.declared.failure.Failure.TheVariants as failure
use Rattle.lower_run.specs.declared.mode.Mode.{Mode}
use Rattle.lower_lines.specs.Answers.{IsLineOf, fault_data}
use Rattle.lower_lines.specs.Lines.{AnswersOne}

pub sent : (mode : Mode) (line text answer : List ℕ) (came : Result (String Global) Failure) (p q : Option (List ℕ))
    (r : Result (Unit {0}) Failure) → CameOf mode line came → IsLineOf came answer → text ≡ answer
    → OnOk r (Appends p q text) → OnOk r (AnswersOne mode line p q)
sent mode line text answer came p q (Err e) of says is appends = tt
sent mode line text answer came p q (Ok x) of says is appends = record {
  one = record { line = line; came = came; answer = answer };
  of = refl;
  answered = record { came = of; says = says };
  written = subst (Appends p q) is appends;
}

-- the line that is answered if memory is refused for any other
pub refused : IsLineOf (Err failure.Memory) (codes "{\"fault\":{\"status\":3,\"text\":\"refused: memory\"}}\n")
unfolding serde_json_on_literals digits
refused = (fault_data 3 (codes "refused: memory") None, (codes "refused: memory", (None, refl)), refl, refl)
