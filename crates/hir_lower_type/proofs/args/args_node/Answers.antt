use Rattle.std.proofs.Common.{arith}
use Rattle.std.proofs.lemmas.Grind.{common_steps}
use Rattle.hir_lower_type.proofs.args.args_node.Goals as goal

pub args-requires-clause-lists : goal.args-requires-clause-lists
args-requires-clause-lists g c = grind (arith, common_steps)

pub args-requires-clause-parts : goal.args-requires-clause-parts
args-requires-clause-parts g c = grind (arith, common_steps)

pub returns-in_err-lists : goal.returns-in_err-lists
returns-in_err-lists g c = grind (arith, common_steps)

pub returns : goal.returns
returns g c = grind (arith, common_steps)
