-- The items that a `?` takes, as the code says them.
use Rattle.hir_env.specs.ResolvedTree.{QuestionItems}
use Rattle.hir_lower_expr.specs.declared.questions.QuestionItems.{QuestionItems as CodeItems}

abbrev pub items_of : CodeItems → QuestionItems
items_of i = record {
  branch = i.branch;
  goes_on = i.goes_on;
  breaks = i.breaks;
  into_try_type = i.into_try_type;
  from_residual = i.from_residual;
}
