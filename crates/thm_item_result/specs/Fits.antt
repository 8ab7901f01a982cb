-- Lowering an item stores as much as its parts become, and is refused only where there is no room for that.
use Rattle.std.specs.Prelude.{◌≡◌, ◌+◌, ℕ, List, length, Ok, Err}
use Rattle.hir_store.specs.StoreSink.{Checked}
use Rattle.hir_store.specs.declared.error.StoreError.{StoreError}
use Rattle.hir_lower_builder.specs.Builder.{Builder, new_builder}
use Rattle.hir_lower_builder.specs.Lowering.{Lowering}
use Rattle.thm_logic.specs.Keeps.{Paired}
use Rattle.thm_body_result.specs.Theorems.{Grown}
use Rattle.thm_item_result.specs.Items.{OfItems}
use Rattle.thm_item_result.specs.Parts.{Part}
use Rattle.thm_item_result.specs.Sizes.{ItemFitsIn, ItemShort, ItemTooLarge, lifetime_params, parts_size}

-- What came, with as many names that are made up, and as many parameters of both sorts.
pub record ItemGrown (xs : List Part) (b c : Builder) : Type 0 where
  pub grown : Grown (parts_size xs) b.stored c.stored
  pub names : c.names ≡ b.names + (parts_size xs).names
  pub params : length c.tracks.generics.type_or_consts ≡ length b.tracks.generics.type_or_consts + (parts_size xs).params
  pub lifetimes : length c.tracks.generics.lifetimes ≡ length b.tracks.generics.lifetimes + lifetime_params xs

abbrev pub FitsTo : {A : Type 0} → List Part → Builder → Checked A → Builder → Type 0
FitsTo xs b (Ok a) c = ItemGrown xs b c
FitsTo xs b (Err fault) c = ItemShort xs b

-- from any builder on in which each entry has its source
abbrev pub ItemFits : {A : Type 0} → List Part → Lowering A → Type 0
ItemFits xs p = (b : Builder) → Paired b.stored → FitsTo xs b (p b).0 (p b).1

abbrev pub ItemsFit : Type 0
ItemsFit = OfItems (λ A xs p. ItemFits xs p)

-- where it is lowered first
abbrev pub Refused : {A : Type 0} → List Part → Lowering A → Type 0
Refused xs p = (limit : ℕ) (new : Builder) (fault : StoreError) → p (new_builder limit) ≡ (Err fault, new) → ItemTooLarge limit xs

-- What has no room isn't answered.
abbrev pub Fitting : {A : Type 0} → List Part → Lowering A → Type 0
Fitting {A} xs p = (limit : ℕ) (new : Builder) (a : A) → p (new_builder limit) ≡ (Ok a, new) → ItemFitsIn limit xs

abbrev pub FittingItems : Type 0
FittingItems = OfItems (λ A xs p. Fitting xs p)

-- only an item is refused that is too large
abbrev pub RefusedItems : Type 0
RefusedItems = OfItems (λ A xs p. Refused xs p)
