use Rattle.std.proofs.Common.{arith}
use Rattle.std.proofs.lemmas.Grind.{common_steps}
use Rattle.hir_lower_builder.specs.Made.{question_form}
use Rattle.hir_lower_expr.proofs.questions.question_with.Goals as goal

pub store_match-requires : goal.store_match-requires
unfolding question_form
store_match-requires g c = grind (arith, common_steps)

pub returns : goal.returns
unfolding question_form
returns g c = grind (arith, common_steps)
