use Rattle.std.proofs.lemmas.Grind.{common_steps}
use Rattle.std.proofs.Common.{arith}
use Rattle.hir_lower_pat.proofs.parts.InsideTargetByTargetPartsExpressionStoreBuilder.callee.Goals as goal

pub callee-requires : goal.callee-requires
callee-requires g c = grind (arith, common_steps)

pub returns : goal.returns
returns g c = grind (arith, common_steps)
