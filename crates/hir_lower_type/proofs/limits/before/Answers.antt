use Rattle.std.proofs.Common.{arith}
use Rattle.std.proofs.lemmas.Grind.{common_steps}
use Rattle.hir_lower_builder.specs.Ranges.{before_form}
use Rattle.hir_lower_type.proofs.limits.before.Goals as goal

pub alloc_expr-requires : goal.alloc_expr-requires
unfolding before_form
alloc_expr-requires g c = grind (arith, common_steps)

pub returns : goal.returns
unfolding before_form
returns g c = grind (arith, common_steps)
