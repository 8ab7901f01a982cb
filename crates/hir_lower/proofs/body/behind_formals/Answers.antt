use Rattle.std.proofs.lemmas.Grind.{common_steps}
use Rattle.std.proofs.Common.{arith}
use Rattle.hir_lower.specs.Roots.{behind}
use Rattle.hir_lower.proofs.body.behind_formals.Goals as goal

pub returns : goal.returns
unfolding behind
returns g c = grind (arith, common_steps)

pub returns-in_err-lowered : goal.returns-in_err-lowered
unfolding behind
returns-in_err-lowered g c = grind (arith, common_steps)

pub record_root-requires : goal.record_root-requires
unfolding behind
record_root-requires g c = grind (arith, common_steps)

pub returns-in_err-record_root : goal.returns-in_err-record_root
unfolding behind
returns-in_err-record_root g c = grind (arith, common_steps)
