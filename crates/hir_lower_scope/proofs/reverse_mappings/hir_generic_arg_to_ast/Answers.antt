use Rattle.std.proofs.lemmas.Grind.{common_steps}
use Rattle.std.proofs.Common.{arith}
use Rattle.hir_lower_scope.proofs.reverse_mappings.hir_generic_arg_to_ast.Goals as goal

pub overflow_sub-index : goal.overflow_sub-index
overflow_sub-index c = grind (arith, common_steps)
