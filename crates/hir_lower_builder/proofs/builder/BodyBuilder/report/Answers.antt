use Rattle.std.proofs.Common.{rules}
use Rattle.hir_lower_builder.specs.Lowering.{report}
use Rattle.hir_lower_builder.proofs.builder.BodyBuilder.report.Goals as goal

pub returns : goal.returns
unfolding report
returns g c = search rules
