use Rattle.std.proofs.Common.{arith}
use Rattle.std.proofs.lemmas.Grind.{common_steps}
use Rattle.hir_lower.specs.Roots.{root_of}
use Rattle.hir_lower.proofs.collector.root_steps.Goals as goal

pub returns-in_err-root : goal.returns-in_err-root
unfolding root_of
returns-in_err-root g c = grind (arith, common_steps)

pub returns : goal.returns
unfolding root_of
returns g c = grind (arith, common_steps)

pub record_root-requires : goal.record_root-requires
unfolding root_of
record_root-requires g c = grind (arith, common_steps)
