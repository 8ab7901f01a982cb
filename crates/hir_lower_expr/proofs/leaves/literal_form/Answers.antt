use Rattle.std.proofs.Common.{rules}
use Rattle.hir_lower_expr.proofs.leaves.literal_form.Goals as goal

pub returns : goal.returns
returns g c = search rules
