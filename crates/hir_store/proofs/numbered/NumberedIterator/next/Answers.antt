use Rattle.std.proofs.lemmas.Grind.{common_steps}
use Rattle.std.proofs.Common.{arith, ◌≡◌, ◌∙◌, ap, sym, ◌+◌, length, ◌∷◌, Some}
use Rattle.std.specs.Prelude.{slice_get}
use Rattle.hir_store.specs.Entries.{numbered_behind}
use Rattle.hir_store.proofs.NumberLemmas.{numbered_read}
use Rattle.hir_store.proofs.numbered.NumberedIterator.next.Goals as goal

pub returns-clause-steps : goal.returns-clause-steps
returns-clause-steps g c =
    let at = c.self.inside.next in
    let entries = c.self.inside.arena.now.entries in
    let place : g.T.Entry.place c.number.result ≡ at = ap g.T.Entry.place c.number.ensures ∙ g.T.Entry.placed at in
    let read : slice_get entries at ≡ Some c.in_ok-entry.entry.now = ap (slice_get entries) (sym place) ∙ sym c.in_ok-entry.ensures in
    sym c.self.view_is ∙ (numbered_read g.T.Entry.number at entries _ read
    ∙ ap (λ i. (i, c.in_ok-entry.entry.now) ∷ numbered_behind g.T.Entry.number (at + 1) entries) (sym c.number-2.ensures))

pub returns-clause-goes : goal.returns-clause-goes
returns-clause-goes g c =
    let fewer = ap length (returns-clause-steps g c) in
    record { on = λ _. (tt, tt, omega (arith, fewer)); keeps = tt; rests = λ _. tt }

pub returns-in_err-entry-clause-goes : goal.returns-in_err-entry-clause-goes
returns-in_err-entry-clause-goes g c = grind (arith, common_steps)

pub returns-then-at-len-clause-steps : goal.returns-then-at-len-clause-steps
returns-then-at-len-clause-steps g c = grind (arith, common_steps)
