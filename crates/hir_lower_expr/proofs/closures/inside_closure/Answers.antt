use Rattle.std.proofs.Common.{rules}
use Rattle.hir_lower_expr.proofs.closures.inside_closure.Goals as goal

pub returns : goal.returns
returns c = search rules
