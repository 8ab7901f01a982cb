use Rattle.std.proofs.Common.{rules}
use Rattle.hir_lower_builder.proofs.parts.Lowerer.pointer.Goals as goal

pub returns : goal.returns
returns g c = search rules
