-- Loops and blocks, which catch jumps (Rust Reference, loop expressions and labelled blocks). What a construct does with a
-- jump is a function that each reading gives: None where the construct is the jump's target, else the jump outside of it.
use Rattle.std.specs.Prelude.{ℕ, zero, suc, Option, Some, None}
use Rattle.spec_semantics.specs.Run.{Value, Outcome, value, break, continue, leave, cut, World, Run, ends, pure, ◌>>◌}

abbrev pub Outward : Type 0 → Type 0
Outward J = J → Option J

-- a caught break gives its value to what catches it
abbrev pub catch_break : {J A : Type 0} → Value → Option J → (Value → A) → (Outcome J Value → A) → A
catch_break v None here out = here v
catch_break v (Some j) here out = out (break j v)

abbrev pub catch_continue : {J A : Type 0} → Option J → A → (Outcome J Value → A) → A
catch_continue None here out = here
catch_continue (Some j) here out = out (continue j)

-- loops

-- after a turn: one more, or the loop's outcome
pub data Step (J : Type 0) : Type 0 where
  again : Step J
  done : Outcome J Value → Step J

-- A turn that comes to its end is followed by another, and so is one that a caught continue ends. A turn may also end
-- the loop with a value.
abbrev pub iteration_end : {J : Type 0} → Outward J → Outcome J (Option Value) → Step J
iteration_end leaves (value None) = again
iteration_end leaves (value (Some v)) = done (value v)
iteration_end leaves (break j v) = catch_break v (leaves j) (λ v'. done (value v')) done
iteration_end leaves (continue j) = catch_continue (leaves j) again done
iteration_end leaves (leave x) = done (leave x)

abbrev pub goes_on : {T J : Type 0} → Run T J Value → Step J → World T → Outcome J Value × World T
goes_on next again w = next w
goes_on next (done o) w = (o, w)

-- the turn of a loop that only a jump ends
abbrev pub iteration : {T J : Type 0} → Run T J Value → Run T J (Option Value)
iteration body = do
  body
  pure None

-- at most so many turns at each entry, then cut
unfoldable pub loop : {T J : Type 0} → Outward J → ℕ → Run T J (Option Value) → Run T J Value
loop leaves zero iteration = ends (leave cut)
loop leaves (suc n) iteration = λ w. goes_on (loop leaves n iteration) (iteration_end leaves (iteration w).0) (iteration w).1

-- blocks

-- A block catches breaks alone. `leaves` is what a break is outside of it, `passes` what a continue is.
abbrev pub block_end : {J : Type 0} → Outward J → (J → J) → Outcome J Value → Outcome J Value
block_end leaves passes (value v) = value v
block_end leaves passes (break j v) = catch_break v (leaves j) value (λ o. o)
block_end leaves passes (continue j) = continue (passes j)
block_end leaves passes (leave x) = leave x

unfoldable pub block : {T J : Type 0} → Outward J → (J → J) → Run T J Value → Run T J Value
block leaves passes m = λ w. (block_end leaves passes (m w).0, (m w).1)
