use Rattle.std.proofs.Common.{arith}
use Rattle.hir_lower_type.proofs.Params.{variadic_is}
use Rattle.hir_lower_type.proofs.functions.OptionSeqAstParamParamsPart.is_varargs.Goals as goal

pub returns-in-None : goal.returns-in-None
returns-in-None g c = grind (arith, variadic_is)

pub returns-in-Some : goal.returns-in-Some
returns-in-Some g c = grind (arith, variadic_is)
