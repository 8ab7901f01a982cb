use Rattle.std.proofs.Common.{ap, refl, sym, ◌∙◌, length, ◌-◌}
use Rattle.std.specs.contracts.prelude.U8PartialEq.TheImpl as same
use Rattle.std.specs.Io.{StopsAt}
use Rattle.std.specs.List.{slice_get}
use Rattle.lower_lines.proofs.Read.{differs, from_nothing, took_all, unended}
use Rattle.lower_lines.proofs.lines.next_line.Goals as goal

pub returns-else-eq-clause-line : goal.returns-else-eq-clause-line
returns-else-eq-clause-line g c =
    let items = c.read_until.new.buf.items in
    let got = c.last.ensures.value ∙ ap (λ l. slice_get l (length l - 1)) c.deref.ensures.value in
    let other = differs same.ghosts.eq refl c.last.result _ refl (sym c.if-eq.ensures) in
    let empty = c.new-line.ensures.items in
    let stops = from_nothing (λ l. StopsAt l 10) _ items empty c.in_default.ensures.stops in
    let within = unended items (λ e. other (got ∙ e)) stops in
    (within, took_all _ _ _ items empty c.in_default.ensures.bytes c.in_default.ensures.rest within)
