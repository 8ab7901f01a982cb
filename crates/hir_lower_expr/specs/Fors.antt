-- The items that a `for` takes, as the code says them.
use Rattle.hir_env.specs.ResolvedTree.{ForItems}
use Rattle.hir_lower_expr.specs.declared.fors.ForItems.{ForItems as CodeItems}

abbrev pub items_of : CodeItems → ForItems
items_of i = record { into_iter = i.into_iter; next = i.next; gives = i.gives; is_done = i.is_done }
