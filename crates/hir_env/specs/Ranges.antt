-- What a range becomes.
use Rattle.std.specs.Prelude.{codes, Bool, true, false, Option, Some, None}
use Rattle.hir_base.specs.declared.op.RangeOp.{RangeOp}
use Rattle.hir_base.specs.declared.op.RangeOp.TheVariants as range
use Rattle.hir_store.specs.declared.ids.LangItemId.{LangItemId}
use Rattle.hir_store.specs.declared.name.Name.{Name}
use Rattle.hir_store.specs.declared.name.Name.TheVariants as name
use Rattle.hir_env.specs.declared.lang.LangItems.{LangItems}
use Rattle.hir_env.specs.ResolvedTree as tree
use Rattle.hir_env.specs.ResolvedTree.{RangeForm}

-- without an operator it is as with `..`
abbrev pub is_inclusive : Option RangeOp → Bool
is_inclusive None = false
is_inclusive (Some range.Exclusive) = false
is_inclusive (Some range.Inclusive) = true

abbrev pub end_name : Name
end_name = name.Text (codes "end")

abbrev pub last_name : Name
last_name = name.Text (codes "last")

abbrev pub record_of : Option LangItemId → Name → RangeForm
record_of None n = tree.itemless_range
record_of (Some k) n = tree.record_range k n

-- the newer item or the older one
abbrev pub newer : Bool → Option LangItemId → Option LangItemId → Option LangItemId
newer true new old = new
newer false new old = old

-- `..b` and `..=b`
abbrev pub to_form : LangItems → Bool → Bool → RangeForm
to_form items is_new false = record_of items.range_to end_name
to_form items true true = record_of items.range_to_inclusive_copy last_name
to_form items false true = record_of items.range_to_inclusive end_name

-- `a..b` and `a..=b`
abbrev pub between_form : LangItems → Bool → Bool → RangeForm
between_form items is_new false = record_of (newer is_new items.range_copy items.range) end_name
between_form items true true = record_of items.range_inclusive_copy last_name
between_form items false true = tree.call_range items.range_inclusive_new

-- whether ranges are made as the newer items, the operator, and whether there is a start and an end
abbrev pub range_form : LangItems → Bool → Option RangeOp → Bool → Bool → RangeForm
range_form items is_new o false false = record_of items.range_full end_name
range_form items is_new o true false = record_of (newer is_new items.range_from_copy items.range_from) end_name
range_form items is_new o false true = to_form items is_new (is_inclusive o)
range_form items is_new o true true = between_form items is_new (is_inclusive o)
