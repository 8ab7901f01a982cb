use Rattle.std.proofs.Common.{arith}
use Rattle.std.proofs.lemmas.Grind.{common_steps}
use Rattle.hir_lower_bind.proofs.bare.whole_bare.Goals as goal

-- nothing is known yet
pub bare_form-requires-clause-names : goal.bare_form-requires-clause-names
bare_form-requires-clause-names g c = c.new-bindings.ensures.names c.args.state.now.stored

pub settle-requires : goal.settle-requires
settle-requires g c = grind (arith, common_steps)

pub returns : goal.returns
returns g c = grind (arith, common_steps)

pub bare_form-requires-clause-part : goal.bare_form-requires-clause-part
bare_form-requires-clause-part g c = grind (arith, common_steps)
