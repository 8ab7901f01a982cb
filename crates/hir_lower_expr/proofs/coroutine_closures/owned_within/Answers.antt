use Rattle.std.proofs.Common.{arith}
use Rattle.std.proofs.lemmas.Grind.{common_steps}
use Rattle.hir_lower_builder.specs.Lowering.{owning}
use Rattle.hir_lower_expr.proofs.coroutine_closures.owned_within.Goals as goal

pub returns : goal.returns
unfolding owning
returns g c = grind (arith, common_steps)
