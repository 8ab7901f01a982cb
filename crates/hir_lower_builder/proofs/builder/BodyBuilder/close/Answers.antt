use Rattle.std.proofs.Common.{rules}
use Rattle.hir_lower_builder.specs.Lowering.{close}
use Rattle.hir_lower_builder.proofs.builder.BodyBuilder.close.Goals as goal

pub returns : goal.returns
unfolding close
returns g c = search rules
