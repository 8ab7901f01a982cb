use Rattle.std.proofs.lemmas.Grind.{common_steps}
use Rattle.std.proofs.Common.{arith}
use Rattle.hir_lower_scope.proofs.reverse_mappings.argument_corresponds.Goals as goal

pub returns-in-ConstArg : goal.returns-in-ConstArg
returns-in-ConstArg c = grind (arith, common_steps)

pub returns-in-AssocTypeArg : goal.returns-in-AssocTypeArg
returns-in-AssocTypeArg c = grind (arith, common_steps)

pub returns-in-TypeArg : goal.returns-in-TypeArg
returns-in-TypeArg c = grind (arith, common_steps)
