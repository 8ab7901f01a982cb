use Rattle.std.proofs.lemmas.Grind.{common_steps}
use Rattle.std.proofs.Common.{◌∙◌, ap, sym, arith}
use Rattle.std.specs.Option.{option_copied_mut}
use Rattle.hir_tables.proofs.Written.{on_err, written_back}
use Rattle.hir_tables.proofs.first_below.FirstBelow.insert.Goals as goal

pub returns-in-Some-clause-err : goal.returns-in-Some-clause-err
returns-in-Some-clause-err g c =
    let written = (c.get_mut.follows.holds c.insert.new.self).0 in
    let found = sym c.get_mut.ensures.value ∙ ap option_copied_mut c.in-Some.is in
    on_err c.insert.result (λ same. written_back _ _ _ _ _ written found same ∙ c.self.view_is) c.insert.ensures.err

pub returns-clause-ok : goal.returns-clause-ok
returns-clause-ok g c = grind (arith, common_steps)
