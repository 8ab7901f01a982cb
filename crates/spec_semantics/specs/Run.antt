-- Runs: what is done with the answers that are left and the events so far. Both readings of a body, of its syntax and of
-- the store, are made of these steps.
use Rattle.std.specs.Prelude.{ℕ, Bool, true, false, List, [], ◌∷◌, ◌++◌, Option, None}
use Rattle.hir_store.specs.declared.ids.BlockId.{BlockId}
use Rattle.hir_store.specs.declared.ids.HygieneId.{HygieneId}
use Rattle.hir_base.specs.declared.op.LogicOp.{LogicOp}
use Rattle.hir_base.specs.declared.op.LogicOp.TheVariants as logic
use Rattle.hir_env.specs.NodeMap.{Site}
use Rattle.spec_data.specs.Data.{PathData, path_data, item_path, OptionTypeData, PatData, pattern_site}
pub use Rattle.spec_semantics.specs.Events.{Value, reply, unit, truth, item, mutable_to, argument, Test, is_true, matches, Operation}
pub use Rattle.spec_semantics.specs.Events.{literal, read, call, enter, test, bound, assigned, temps, Event}
pub use Rattle.spec_semantics.specs.Events.{underscore, include_bytes, field, prefix, reference, operator, index, tuple, array, repeated}
pub use Rattle.spec_semantics.specs.Events.{method_call, cast, SpreadForm, no_spread, field_defaults, rest_of, made_record, offset_of}
pub use Rattle.spec_semantics.specs.Events.{const_block, closure, yielding}
pub use Rattle.spec_semantics.specs.Events.{awaiting}
pub use Rattle.spec_semantics.specs.Events.{Answer, Oracle, Leave, returned, became, yeeted, unmatched, missing, cut}
pub use Rattle.spec_semantics.specs.Events.{Outcome, value, break, continue, leave, World}

abbrev pub Run : Type 0 → Type 0 → Type 0 → Type 0
Run T J A = World T → Outcome J A × World T

-- A body that runs by itself: what its run begins with, and its run, with so many turns at each entry of a loop.
pub record Body (T J : Type 0) : Type 0 where
  pub table : T
  pub run : ℕ → Run T J Value

-- steps

unfoldable pub ends : {T J A : Type 0} → Outcome J A → Run T J A
ends o = λ w. (o, w)

abbrev pub pure : {T J A : Type 0} → A → Run T J A
pure a = ends (value a)

-- An operand that does not end with a value ends the whole.
abbrev pub after : {T J A B : Type 0} → Outcome J A → World T → (A → Run T J B) → Outcome J B × World T
after (value a) w f = f a w
after (break j v) w f = (break j v, w)
after (continue j) w f = (continue j, w)
after (leave x) w f = (leave x, w)

infixl 10 ◌>>=◌
unfoldable pub ◌>>=◌ : {T J A B : Type 0} → Run T J A → (A → Run T J B) → Run T J B
m >>= f = λ w. after (m w).0 (m w).1 f

infixl 10 ◌>>◌
abbrev pub ◌>>◌ : {T J A B : Type 0} → Run T J A → Run T J B → Run T J B
m >> n = m >>= (λ _. n)

-- events

-- past the end of the list stand no and 0
abbrev pub first : Oracle → Answer
first [] = record { yes = false; value = 0 }
first (a ∷ as') = a

abbrev pub rest : Oracle → Oracle
rest [] = []
rest (a ∷ as') = as'

abbrev pub event_at : Operation → List Value → Option Site → Event
event_at o vs site = record { operation = o; operands = vs; site = site }

-- one event takes one answer
unfoldable pub event : {T J : Type 0} → Operation → List Value → Option Site → Run T J Answer
event o vs site = λ w. (value (first w.answers), record w { answers = rest w.answers; events = w.events ++ event_at o vs site ∷ [] })

-- an event whose value is the answer
abbrev pub ask : {T J : Type 0} → Operation → List Value → Option Site → Run T J Value
ask o vs site = do
  a ← event o vs site
  pure (reply a.value)

abbrev pub tests : {T J : Type 0} → Test → Value → Option Site → Run T J Bool
tests t v site = do
  a ← event (test t) (v ∷ []) site
  pure a.yes

-- A block with a number is a scope of items, and is entered, and so is an unsafe one.
abbrev pub in_block_scope : {T J A : Type 0} → Bool → Option BlockId → Option Site → Run T J A → Run T J A
in_block_scope false None site m = m
in_block_scope is_unsafe number site m = do
  event (enter number is_unsafe) [] site
  m

-- The value fits the pattern. That is asked at the pattern.
abbrev pub tests_pattern : {T J : Type 0} → PatData → Value → Run T J Bool
tests_pattern p v = tests (matches p) v (pattern_site p)

-- Temporaries end behind a `let` or expression statement that ended with a value (Rust Reference, temporary scopes).
abbrev pub ends_temps : {T J A : Type 0} → Run T J A → Run T J A
ends_temps m = do
  event temps [] None
  m

-- A `let` statement binds its pattern to a value, where it has one, and is told whether that fits.
abbrev pub binds : {T J : Type 0} → PatData → OptionTypeData → List Value → Run T J Bool
binds p t vs = do
  a ← event (bound p t) vs (pattern_site p)
  pure a.yes

abbrev pub assigns : {T J : Type 0} → PatData → List Value → Option Site → Run T J Value
assigns p vs site = do
  event (assigned p) vs site
  pure unit

-- what the forms of both readings do with values

-- what the language itself names is a value, and nothing happens
abbrev pub read_path : {T J : Type 0} → PathData → HygieneId → Option Site → Run T J Value
read_path (item_path i) h site = pure (item i)
read_path (path_data k anchor ns bare) h site = ask (read (path_data k anchor ns bare) h) [] site

-- an empty tuple is silent
abbrev pub made_tuple : {T J : Type 0} → List Value → Option Site → Run T J Value
made_tuple [] site = pure unit
made_tuple (v ∷ vs) site = ask tuple (v ∷ vs) site

-- the right side runs where the left side doesn't decide (Rust Reference, lazy boolean operators)
abbrev pub lazy_logic : {T J : Type 0} → LogicOp → Bool → Run T J Value → Run T J Value
lazy_logic logic.And true right = right
lazy_logic logic.And false right = pure (truth false)
lazy_logic logic.Or true right = pure (truth true)
lazy_logic logic.Or false right = right
