use Rattle.std.proofs.Common.{rules}
use Rattle.hir_lower_builder.specs.Lowering.{enter_root}
use Rattle.hir_lower_builder.proofs.builder.BodyBuilder.enter_root.Goals as goal

pub returns : goal.returns
unfolding enter_root
returns g c = search rules
