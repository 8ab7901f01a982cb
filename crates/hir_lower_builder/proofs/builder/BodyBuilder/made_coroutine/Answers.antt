use Rattle.std.proofs.lemmas.Grind.{common_steps}
use Rattle.std.proofs.Common.{arith}
use Rattle.hir_lower_builder.proofs.builder.BodyBuilder.made_coroutine.Goals as goal

pub alloc_expr-requires-2 : goal.alloc_expr-requires-2
alloc_expr-requires-2 c = grind (arith, common_steps)
