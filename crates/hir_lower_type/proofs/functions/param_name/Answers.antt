use Rattle.std.proofs.Common.{arith}
use Rattle.hir_lower_type.proofs.Params.{no_name_left}
use Rattle.hir_lower_type.proofs.functions.param_name.Goals as goal

pub returns-in_default : goal.returns-in_default
returns-in_default c = grind (arith, no_name_left)

pub returns-in_default-kind : goal.returns-in_default-kind
returns-in_default-kind c = grind (arith, no_name_left)
