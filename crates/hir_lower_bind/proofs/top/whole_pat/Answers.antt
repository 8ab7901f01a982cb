use Rattle.std.proofs.Common.{arith}
use Rattle.std.proofs.lemmas.Grind.{common_steps}
use Rattle.hir_lower_bind.proofs.top.whole_pat.Goals as goal

-- nothing is known yet
pub lower_pat-requires-clause-names : goal.lower_pat-requires-clause-names
lower_pat-requires-clause-names g c = c.new-bindings.ensures.names c.args.state.now.stored

pub settle-requires : goal.settle-requires
settle-requires g c = grind (arith, common_steps)

pub returns : goal.returns
returns g c = grind (arith, common_steps)

pub lower_pat-requires-clause-part : goal.lower_pat-requires-clause-part
lower_pat-requires-clause-part g c = grind (arith, common_steps)
