-- The words in which it is said what an item notes and asks say the same as those of its steps.
use Rattle.std.specs.Prelude.{◌≡◌, ℕ}
use Rattle.hir_store.specs.declared.ids.GenericDefId.{GenericDefId}
use Rattle.hir_lower_builder.specs.Lowering.{param_type}
use Rattle.hir_lower_item.specs.Lower.{self_text}
use Rattle.thm_item_generics.specs.Fold.{self_name}
use Rattle.thm_item_generics.specs.Tracked.{parameter_type}

pub record SameWords : Type 0 where
  pub name_of_self : self_name ≡ self_text
  pub types : (def : GenericDefId) (k : ℕ) → parameter_type def k ≡ param_type def k
