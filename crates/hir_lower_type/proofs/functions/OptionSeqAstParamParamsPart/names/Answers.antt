use Rattle.std.proofs.Common.{arith}
use Rattle.hir_lower_type.proofs.Params.{names_are}
use Rattle.hir_lower_type.proofs.functions.OptionSeqAstParamParamsPart.names.Goals as goal

pub returns-in-None : goal.returns-in-None
returns-in-None g c = grind (arith, names_are)

pub returns-in-Some : goal.returns-in-Some
returns-in-Some g c = grind (arith, names_are)
