use Rattle.std.proofs.lemmas.Grind.{common_steps}
use Rattle.std.proofs.Common.{arith}
use Rattle.hir_lower_path.proofs.path.self_form.Goals as goal

pub returns-then-first : goal.returns-then-first
returns-then-first g c = grind (arith, common_steps)
