-- The words in which it is said what lowering an item answers say the same as those of its steps.
use Rattle.std.specs.Prelude.{◌≡◌, ℕ, List}
use Rattle.hir_store.specs.declared.hir.CoroutineKind.{CoroutineKind}
use Rattle.hir_store.specs.declared.ids.GenericDefId.{GenericDefId}
use Rattle.hir_lower_builder.specs.Lowering.{param_type}
use Rattle.hir_lower_item.specs.Items.{Argument, Receiver}
use Rattle.hir_lower_item.specs.Lower.{any_variadic, given_name, is_received, self_text, trait_names}
use Rattle.thm_item_result.specs.Answers.{coroutine_item, coroutine_trait, keeps_self, keeps_variadic, parameter_type, self_name}

pub record SameWords : Type 0 where
  pub name_of_self : self_name ≡ self_text
  pub traits : (k : CoroutineKind) → coroutine_trait k ≡ trait_names k
  pub items : (k : CoroutineKind) → coroutine_item k ≡ given_name k
  pub receivers : (r : Receiver) → is_received r ≡ keeps_self r
  pub params : (def : GenericDefId) (k : ℕ) → parameter_type def k ≡ param_type def k
  pub variadic : (xs : List Argument) → any_variadic xs ≡ keeps_variadic xs
