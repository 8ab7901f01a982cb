use Rattle.std.proofs.Common.{arith}
use Rattle.std.proofs.lemmas.Grind.{common_steps}
use Rattle.hir_lower_builder.specs.Pats.{tuple_struct_form}
use Rattle.hir_lower_bind.proofs.tuples.tuple_struct_form.Goals as goal

pub returns-in-Some : goal.returns-in-Some
unfolding tuple_struct_form
returns-in-Some g c = grind (arith, common_steps)

pub returns-in-None : goal.returns-in-None
unfolding tuple_struct_form
returns-in-None g c = grind (arith, common_steps)

pub tuple_struct_of-requires-clause-path : goal.tuple_struct_of-requires-clause-path
unfolding tuple_struct_form
tuple_struct_of-requires-clause-path g c = grind (arith, common_steps)
