use Rattle.std.proofs.lemmas.Grind.{common_steps}
use Rattle.std.proofs.Common.{arith}
use Rattle.hir_lower_scope.proofs.Named.{nth_of_front, nth_behind}
use Rattle.hir_lower_scope.proofs.reverse_mappings.hir_segment_to_ast_segment.Goals as goal

pub returns-else-index-count : goal.returns-else-index-count
returns-else-index-count c = grind (arith, common_steps, nth_of_front, nth_behind)
