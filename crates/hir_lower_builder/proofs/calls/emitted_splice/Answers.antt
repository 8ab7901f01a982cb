use Rattle.std.proofs.lemmas.Grind.{common_steps}
use Rattle.std.proofs.Common.{arith}
use Rattle.hir_lower_builder.proofs.calls.emitted_splice.Goals as goal

pub returns-in-NoExpansion : goal.returns-in-NoExpansion
returns-in-NoExpansion g c = grind (arith, common_steps)

pub returns-in_ok-track-in-Expanded : goal.returns-in_ok-track-in-Expanded
returns-in_ok-track-in-Expanded g c = grind (arith, common_steps)

pub returns-in_err-track-in-Expanded : goal.returns-in_err-track-in-Expanded
returns-in_err-track-in-Expanded g c = grind (arith, common_steps)
