use Rattle.std.proofs.Common.{rules}
use Rattle.hir_lower_builder.proofs.names.truth_literal.Goals as goal

pub returns : goal.returns
returns c = search rules
