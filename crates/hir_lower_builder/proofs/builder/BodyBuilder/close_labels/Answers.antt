use Rattle.std.proofs.Common.{rules}
use Rattle.hir_lower_builder.specs.Lowering.{close_labels}
use Rattle.hir_lower_builder.proofs.builder.BodyBuilder.close_labels.Goals as goal

pub returns : goal.returns
unfolding close_labels
returns g c = search rules
