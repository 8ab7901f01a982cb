use Rattle.std.proofs.Common.{arith, rules}
use Rattle.std.proofs.lemmas.Grind.{common_steps}
use Rattle.hir_lower_builder.specs.Forms.{list_form}
use Rattle.hir_lower_builder.specs.Lower.{list_form}
use Rattle.hir_lower_expr.proofs.lists.tuple_form.Goals as goal

pub returns : goal.returns
unfolding list_form
returns g c = search rules

pub returns-in_err-exprs : goal.returns-in_err-exprs
unfolding list_form
returns-in_err-exprs g c = search rules

pub returns-then-not-leading_comma : goal.returns-then-not-leading_comma
unfolding list_form
returns-then-not-leading_comma g c = search rules

pub returns-in_err-first : goal.returns-in_err-first
unfolding list_form
returns-in_err-first g c = search rules

pub returns-in_err-exprs-2 : goal.returns-in_err-exprs-2
unfolding list_form
returns-in_err-exprs-2 g c = search rules

pub alloc_expr-requires-2 : goal.alloc_expr-requires-2
unfolding list_form
alloc_expr-requires-2 g c = grind (arith, common_steps)
