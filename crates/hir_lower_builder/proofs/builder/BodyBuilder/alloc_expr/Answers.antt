use Rattle.std.proofs.Common.{rules}
use Rattle.hir_lower_builder.specs.Lowering.{alloc_expr}
use Rattle.hir_lower_builder.proofs.builder.BodyBuilder.alloc_expr.Goals as goal

pub returns : goal.returns
unfolding alloc_expr
returns g c = search rules
