use Rattle.std.proofs.lemmas.Grind.{common_steps}
use Rattle.std.proofs.Common.{arith}
use Rattle.hir_lower_pat.proofs.NameLemmas.{all_tracked_on}
use Rattle.hir_lower_pat.proofs.bindings.Bindings.leave_or.Goals as goal

pub returns-clause-tracked : goal.returns-clause-tracked
returns-clause-tracked c = grind (arith, common_steps, all_tracked_on)
