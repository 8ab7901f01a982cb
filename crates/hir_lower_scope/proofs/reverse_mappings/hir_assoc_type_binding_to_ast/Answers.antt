use Rattle.std.proofs.lemmas.Grind.{common_steps}
use Rattle.std.proofs.Common.{arith}
use Rattle.hir_lower_scope.proofs.reverse_mappings.hir_assoc_type_binding_to_ast.Goals as goal

pub offset_bounds-arg-items-arg-index : goal.offset_bounds-arg-items-arg-index
offset_bounds-arg-items-arg-index c = grind (arith, common_steps)

pub returns : goal.returns
returns c = grind (arith, common_steps)

pub overflow_sub-before : goal.overflow_sub-before
overflow_sub-before c = grind (arith, common_steps)
