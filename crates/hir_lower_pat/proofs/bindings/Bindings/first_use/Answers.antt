use Rattle.hir_lower_pat.proofs.NameLemmas.{used_first}
use Rattle.hir_lower_pat.proofs.bindings.Bindings.first_use.Goals as goal

pub returns : goal.returns
returns g c = used_first (record { name = c.args.key.0; hygiene = c.args.key.1; mode = c.args.mode }) c.args.self.now c.track.new.self
    c.insert.new.self c.args.state.now c.alloc_binding.new.self c.in_ok-id.id c.in_ok-clone.field-0 c.in_ok-clone.ensures.cases
    c.in_ok-id.ensures c.len-number.result c.len-number.ensures
    c.track.ensures.ids c.in_ok-track.ensures.tracked c.in_ok-track.ensures.count c.track.ensures.depth
    c.in_ok-insert.ensures.ids c.insert.ensures.list c.requires.names
