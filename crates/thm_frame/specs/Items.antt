-- The lang items, each by itself.
use Rattle.std.specs.Prelude.{List, [], ◌∷◌, Option}
use Rattle.hir_store.specs.declared.ids.LangItemId.{LangItemId}
use Rattle.hir_env.specs.declared.lang.LangItems.{LangItems}

pub data LangItem : Type 0 where
  range_full : LangItem
  range_from : LangItem
  range_from_copy : LangItem
  range_to : LangItem
  range_copy : LangItem
  range : LangItem
  range_to_inclusive_copy : LangItem
  range_to_inclusive : LangItem
  range_inclusive_copy : LangItem
  range_inclusive_new : LangItem
  try_trait_from_output : LangItem
  try_trait_branch : LangItem
  control_flow_continue : LangItem
  control_flow_break : LangItem
  residual_into_try_type : LangItem
  try_trait_from_residual : LangItem
  into_iter_into_iter : LangItem
  iterator_next : LangItem
  option_some : LangItem
  option_none : LangItem
  range_min : LangItem
  range_max : LangItem
  range_sub : LangItem

abbrev pub item_of : LangItems → LangItem → Option LangItemId
item_of items range_full = items.range_full
item_of items range_from = items.range_from
item_of items range_from_copy = items.range_from_copy
item_of items range_to = items.range_to
item_of items range_copy = items.range_copy
item_of items range = items.range
item_of items range_to_inclusive_copy = items.range_to_inclusive_copy
item_of items range_to_inclusive = items.range_to_inclusive
item_of items range_inclusive_copy = items.range_inclusive_copy
item_of items range_inclusive_new = items.range_inclusive_new
item_of items try_trait_from_output = items.try_trait_from_output
item_of items try_trait_branch = items.try_trait_branch
item_of items control_flow_continue = items.control_flow_continue
item_of items control_flow_break = items.control_flow_break
item_of items residual_into_try_type = items.residual_into_try_type
item_of items try_trait_from_residual = items.try_trait_from_residual
item_of items into_iter_into_iter = items.into_iter_into_iter
item_of items iterator_next = items.iterator_next
item_of items option_some = items.option_some
item_of items option_none = items.option_none
item_of items range_min = items.range_min
item_of items range_max = items.range_max
item_of items range_sub = items.range_sub

abbrev pub all_items : List LangItem
all_items =
    range_full ∷ range_from ∷ range_from_copy ∷ range_to ∷ range_copy ∷ range ∷ range_to_inclusive_copy ∷ range_to_inclusive ∷
    range_inclusive_copy ∷ range_inclusive_new ∷ try_trait_from_output ∷ try_trait_branch ∷ control_flow_continue ∷
    control_flow_break ∷ residual_into_try_type ∷ try_trait_from_residual ∷ into_iter_into_iter ∷ iterator_next ∷ option_some ∷
    option_none ∷ range_min ∷ range_max ∷ range_sub ∷ []
