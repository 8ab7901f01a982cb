-- The theorem, of the steps.
use Rattle.thm_item_generics.specs.AskedTheorems.{ItemsAsk}
use Rattle.thm_item_generics.proofs.AskedItems.{alias_asks, function_asks, generics_ask, impl_asks, trait_asks}
use Rattle.thm_item_generics.proofs.AskedLogic.{asked_by_steps}

pub items_ask : ItemsAsk
items_ask def = (
  λ g b c a d is. asked_by_steps (generics_ask def g) b c a d is,
  λ x b c a d is. asked_by_steps (trait_asks def x) b c a d is,
  λ x b c a d is. asked_by_steps (impl_asks def x) b c a d is,
  λ x b c a d is. asked_by_steps (alias_asks def x) b c a d is,
  λ x b c a d is. asked_by_steps (function_asks def x) b c a d is,
)
