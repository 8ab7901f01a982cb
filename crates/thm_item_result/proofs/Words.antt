-- The words of the steps are those of what is answered.
use Rattle.std.proofs.Common.{◌≡◌, refl, List, [], ◌∷◌}
use Rattle.hir_store.specs.declared.hir.CoroutineKind.{CoroutineKind}
use Rattle.hir_store.specs.declared.hir.CoroutineKind.TheVariants as coroutine
use Rattle.hir_lower_item.specs.Items as item
use Rattle.hir_lower_item.specs.Items.{Argument, Receiver}
use Rattle.hir_lower_item.specs.Lower.{any_variadic, given_name, is_received, trait_names}
use Rattle.thm_item_result.specs.Answers.{coroutine_item, coroutine_trait, keeps_self, keeps_variadic}
use Rattle.thm_item_result.specs.Words.{SameWords}

same_trait : (k : CoroutineKind) → coroutine_trait k ≡ trait_names k
same_trait coroutine.Async = refl
same_trait coroutine.Gen = refl
same_trait coroutine.AsyncGen = refl

same_item : (k : CoroutineKind) → coroutine_item k ≡ given_name k
same_item coroutine.Async = refl
same_item coroutine.Gen = refl
same_item coroutine.AsyncGen = refl

pub same_self : (r : Receiver) → is_received r ≡ keeps_self r
same_self item.no_receiver = refl
same_self (item.disabled_receiver at by) = refl
same_self (item.typed_receiver t) = refl
same_self (item.self_receiver borrow l) = refl

pub same_variadic : (xs : List Argument) → any_variadic xs ≡ keeps_variadic xs
same_variadic [] = refl
same_variadic (item.disabled_argument at by ∷ xs) = same_variadic xs
same_variadic (item.variadic_argument ∷ xs) = refl
same_variadic (item.argument t ∷ xs) = same_variadic xs

pub same_words : SameWords
same_words = record {
  name_of_self = refl;
  traits = same_trait;
  items = same_item;
  receivers = same_self;
  params = λ def k. refl;
  variadic = same_variadic;
}
