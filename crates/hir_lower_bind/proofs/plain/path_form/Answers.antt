use Rattle.std.proofs.Common.{arith}
use Rattle.std.proofs.lemmas.Grind.{common_steps}
use Rattle.hir_lower_builder.specs.Pats.{path_pat_form}
use Rattle.hir_lower_bind.proofs.plain.path_form.Goals as goal

pub returns-in-Some : goal.returns-in-Some
unfolding path_pat_form
returns-in-Some g c = grind (arith, common_steps)

pub returns-in-None : goal.returns-in-None
unfolding path_pat_form
returns-in-None g c = grind (arith, common_steps)

pub alloc_pat-requires-in-Some : goal.alloc_pat-requires-in-Some
unfolding path_pat_form
alloc_pat-requires-in-Some g c = grind (arith, common_steps)
