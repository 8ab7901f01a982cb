use Rattle.std.proofs.Common.{arith}
use Rattle.std.proofs.lemmas.Grind.{common_steps}
use Rattle.hir_lower_builder.specs.Forms.{record_form}
use Rattle.hir_lower_expr.proofs.records.record_form.Goals as goal

pub alloc_expr-requires : goal.alloc_expr-requires
unfolding record_form
alloc_expr-requires g c = grind (arith, common_steps)

pub returns : goal.returns
unfolding record_form
returns g c = grind (arith, common_steps)

pub returns-in_default : goal.returns-in_default
unfolding record_form
returns-in_default g c = grind (arith, common_steps)
