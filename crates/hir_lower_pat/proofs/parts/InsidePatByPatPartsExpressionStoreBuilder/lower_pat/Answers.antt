use Rattle.std.proofs.lemmas.Grind.{common_steps}
use Rattle.std.proofs.Common.{arith}
use Rattle.hir_lower_pat.proofs.parts.InsidePatByPatPartsExpressionStoreBuilder.lower_pat.Goals as goal

pub returns : goal.returns
returns g c = grind (arith, common_steps)

pub pat-requires : goal.pat-requires
pat-requires g c = grind (arith, common_steps)
