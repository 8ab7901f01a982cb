use Rattle.std.proofs.lemmas.Grind.{common_steps}
use Rattle.std.proofs.Common.{arith}
use Rattle.hir_lower_builder.proofs.preludes.let_params.Goals as goal

pub returns : goal.returns
returns g c = grind (arith, common_steps)

pub let_param-requires-clause-pat : goal.let_param-requires-clause-pat
let_param-requires-clause-pat g c = grind (arith, common_steps)

pub returns-in_err-prelude : goal.returns-in_err-prelude
returns-in_err-prelude g c = grind (arith, common_steps)

pub loop-left-preserved : goal.loop-left-preserved
loop-left-preserved g c = grind (arith, common_steps)
