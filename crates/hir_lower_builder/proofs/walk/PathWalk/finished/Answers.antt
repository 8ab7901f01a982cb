use Rattle.std.proofs.lemmas.Grind.{common_steps}
use Rattle.std.proofs.Common.{arith}
use Rattle.hir_lower_builder.proofs.walk.PathWalk.finished.Goals as goal

pub returns-then-not-found_args : goal.returns-then-not-found_args
returns-then-not-found_args c = grind (arith, common_steps)
