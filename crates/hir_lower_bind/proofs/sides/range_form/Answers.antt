use Rattle.std.proofs.Common.{arith}
use Rattle.std.proofs.lemmas.Grind.{common_steps}
use Rattle.hir_lower_builder.specs.Pats.{range_pat_form}
use Rattle.hir_lower_bind.proofs.sides.range_form.Goals as goal

pub alloc_pat-requires-in-Some : goal.alloc_pat-requires-in-Some
unfolding range_pat_form
alloc_pat-requires-in-Some g c = grind (arith, common_steps)

pub returns-in-None : goal.returns-in-None
unfolding range_pat_form
returns-in-None g c = grind (arith, common_steps)

pub returns-in-Some : goal.returns-in-Some
unfolding range_pat_form
returns-in-Some g c = grind (arith, common_steps)
