-- What holds where nothing is said.
use Rattle.std.specs.Prelude.{Some, None}
use Rattle.hir_env.specs.Answers.{Contexts}
use Rattle.hir_env.specs.declared.lang.LangItems.{LangItems}
use Rattle.hir_store.specs.declared.ids.ItemContainerId.{ItemContainerId}
use Rattle.hir_store.specs.declared.ids.ItemContainerId.TheVariants as holder
use Rattle.hir_store.specs.declared.ids.ModuleId.{ModuleId}

-- each item has the number of its place
abbrev pub numbered_items : LangItems
numbered_items = record {
  range_full = Some (record { 0 = 0 });
  range_from = Some (record { 0 = 1 });
  range_from_copy = Some (record { 0 = 2 });
  range_to = Some (record { 0 = 3 });
  range_copy = Some (record { 0 = 4 });
  range = Some (record { 0 = 5 });
  range_to_inclusive_copy = Some (record { 0 = 6 });
  range_to_inclusive = Some (record { 0 = 7 });
  range_inclusive_copy = Some (record { 0 = 8 });
  range_inclusive_new = Some (record { 0 = 9 });
  try_trait_from_output = Some (record { 0 = 10 });
  try_trait_branch = Some (record { 0 = 11 });
  control_flow_continue = Some (record { 0 = 12 });
  control_flow_break = Some (record { 0 = 13 });
  residual_into_try_type = Some (record { 0 = 14 });
  try_trait_from_residual = Some (record { 0 = 15 });
  into_iter_into_iter = Some (record { 0 = 16 });
  iterator_next = Some (record { 0 = 17 });
  option_some = Some (record { 0 = 18 });
  option_none = Some (record { 0 = 19 });
  range_min = Some (record { 0 = 20 });
  range_max = Some (record { 0 = 21 });
  range_sub = Some (record { 0 = 22 });
}

-- each context was made in the root, has the hygiene of its own number, and came from no macro
abbrev pub no_contexts : Contexts
no_contexts = record {
  parent = λ c. record { 0 = 0 };
  opaque = λ c. record { 0 = c.0 };
  outer_macro = λ c. None;
}

abbrev pub module_in : ItemContainerId → ModuleId
module_in (holder.ModuleId inside) = inside
module_in _ = record { 0 = 0 }
