use Rattle.std.proofs.lemmas.Grind.{common_steps}
use Rattle.std.proofs.Common.{arith}
use Rattle.hir_lower.specs.Roots.{body_of}
use Rattle.hir_lower.proofs.body.lower_item.Goals as goal

pub returns : goal.returns
unfolding body_of
returns g c = grind (arith, common_steps)

pub returns-then-skip : goal.returns-then-skip
unfolding body_of
returns-then-skip g c = grind (arith, common_steps)
