use Rattle.std.proofs.Common.{arith}
use Rattle.std.proofs.lemmas.Grind.{common_steps}
use Rattle.hir_lower_builder.specs.Pats.{literal_pat_form}
use Rattle.hir_lower_bind.proofs.sides.literal_form.Goals as goal

pub returns-in_ok-expr-in-Some : goal.returns-in_ok-expr-in-Some
unfolding literal_pat_form
returns-in_ok-expr-in-Some g c = grind (arith, common_steps)

pub returns-then-not-minus_fits : goal.returns-then-not-minus_fits
unfolding literal_pat_form
returns-then-not-minus_fits g c = grind (arith, common_steps)
