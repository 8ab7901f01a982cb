use Rattle.std.proofs.lemmas.Grind.{common_steps}
use Rattle.std.proofs.Common.{arith}
use Rattle.hir_lower.proofs.formals.kept_form.Goals as goal

pub returns-then-bare : goal.returns-then-bare
returns-then-bare g c = grind (arith, common_steps)
