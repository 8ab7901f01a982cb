use Rattle.std.proofs.Common.{arith}
use Rattle.std.proofs.lemmas.Grind.{common_steps}
use Rattle.hir_lower_builder.specs.Ranges.{path_limit_form}
use Rattle.hir_lower_type.proofs.limits.path_side.Goals as goal

pub returns-in-Some : goal.returns-in-Some
unfolding path_limit_form
returns-in-Some g c = grind (arith, common_steps)

pub returns-in-None : goal.returns-in-None
unfolding path_limit_form
returns-in-None g c = grind (arith, common_steps)

pub alloc_expr-requires-in-Some : goal.alloc_expr-requires-in-Some
unfolding path_limit_form
alloc_expr-requires-in-Some g c = grind (arith, common_steps)
