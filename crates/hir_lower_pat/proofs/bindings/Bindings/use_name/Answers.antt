use Rattle.std.proofs.lemmas.Grind.{common_steps}
use Rattle.hir_lower_builder.specs.Pats.{use_name}
use Rattle.std.proofs.Common.{sym, arith}
use Rattle.hir_lower_pat.proofs.NameLemmas.{used_again, found_exists, known_counted}
use Rattle.hir_lower_pat.proofs.bindings.Bindings.use_name.Goals as goal

pub returns-in_ok-track-in-Some : goal.returns-in_ok-track-in-Some
returns-in_ok-track-in-Some g c = used_again (record { name = c.args.name; hygiene = c.args.hygiene; mode = c.args.mode })
    c.args.self.now c.track.new.self c.args.state.now c.in-Some.id c.in-Some.number
    (sym c.in-Some.ensures.binding) c.in-Some.ensures.number c.in-Some.ensures.known
    c.track.ensures.ids c.in_ok-track-in-Some.ensures.tracked c.in_ok-track-in-Some.ensures.count c.track.ensures.depth c.requires

pub returns-in-None : goal.returns-in-None
unfolding use_name
returns-in-None g c = grind (arith, common_steps, found_exists, known_counted)
