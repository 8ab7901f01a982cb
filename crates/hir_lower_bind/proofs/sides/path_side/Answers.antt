use Rattle.std.proofs.Common.{arith}
use Rattle.std.proofs.lemmas.Grind.{common_steps}
use Rattle.hir_lower_builder.specs.Pats.{path_side_form}
use Rattle.hir_lower_bind.proofs.sides.path_side.Goals as goal

pub returns-in_ok-alloc_expr-in-Some : goal.returns-in_ok-alloc_expr-in-Some
unfolding path_side_form
returns-in_ok-alloc_expr-in-Some g c = grind (arith, common_steps)

pub returns-in-None : goal.returns-in-None
unfolding path_side_form
returns-in-None g c = grind (arith, common_steps)

pub alloc_expr-requires : goal.alloc_expr-requires
unfolding path_side_form
alloc_expr-requires g c = grind (arith, common_steps)
