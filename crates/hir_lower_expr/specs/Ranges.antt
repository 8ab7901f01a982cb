-- What a range is made as, as the code says it.
use Rattle.std.specs.Prelude.{Bool, true, false}
use Rattle.hir_store.specs.declared.name.Name.{Name}
use Rattle.hir_env.specs.ResolvedTree as tree
use Rattle.hir_env.specs.ResolvedTree.{RangeForm}
use Rattle.hir_env.specs.Ranges.{end_name, last_name}
use Rattle.hir_lower_expr.specs.declared.ranges.Made.{Made}
use Rattle.hir_lower_expr.specs.declared.ranges.Made.TheVariants as made

-- of the field for the end
abbrev pub name_of_end : Bool → Name
name_of_end true = last_name
name_of_end false = end_name

abbrev pub made_form : Made → RangeForm
made_form (made.Record item is_last) = tree.record_range item (name_of_end is_last)
made_form (made.Call item) = tree.call_range item
made_form made.Itemless = tree.itemless_range
