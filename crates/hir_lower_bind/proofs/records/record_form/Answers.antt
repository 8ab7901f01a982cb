use Rattle.std.proofs.Common.{arith}
use Rattle.std.proofs.lemmas.Grind.{common_steps}
use Rattle.hir_lower_builder.specs.Pats.{record_pat_form}
use Rattle.hir_lower_bind.proofs.records.record_form.Goals as goal

pub returns-in-Some : goal.returns-in-Some
unfolding record_pat_form
returns-in-Some g c = grind (arith, common_steps)

pub returns-in-None : goal.returns-in-None
unfolding record_pat_form
returns-in-None g c = grind (arith, common_steps)

pub record_of-requires-clause-path : goal.record_of-requires-clause-path
unfolding record_pat_form
record_of-requires-clause-path g c = grind (arith, common_steps)
