-- All types and lifetimes that lowering an item stores, in their order, read back as what its parts say: also those that nothing reaches,
-- as the type that a parameter is of which nothing is asked, or the lifetime of one.
use Rattle.std.specs.Prelude.{◌≡◌, ℕ, List, Ok}
use Rattle.hir_store.specs.Stored.{map_of, store_of}
use Rattle.hir_lower_builder.specs.Builder.{Builder, new_builder}
use Rattle.hir_lower_builder.specs.Lowering.{Lowering}
use Rattle.thm_logic.specs.Keeps.{Paired}
use Rattle.thm_body_result.specs.StoredData.{DataAdded, ReadsAs, StoredData, stored_data}
use Rattle.thm_item_result.specs.Items.{OfItems}
use Rattle.thm_item_result.specs.Parts.{Part}
use Rattle.thm_item_result.specs.Emitted.{grade_item}

abbrev pub data_of_item : List Part → StoredData
data_of_item xs = grade_item stored_data xs

-- from any builder on in which each entry has its source, in each later store
abbrev pub AddsData : {A : Type 0} → List Part → Lowering A → Type 0
AddsData {A} xs p = (b c : Builder) (a : A) → Paired b.stored → p b ≡ (Ok a, c) → DataAdded (data_of_item xs) b.stored c.stored

abbrev pub ItemsStore : Type 0
ItemsStore = OfItems (λ A xs p. AddsData xs p)

-- where an item is lowered first
abbrev pub StoresFirst : {A : Type 0} → List Part → Lowering A → Type 0
StoresFirst {A} xs p = (limit : ℕ) (new : Builder) (a : A) → p (new_builder limit) ≡ (Ok a, new)
    → ReadsAs (data_of_item xs) (store_of new.stored) (map_of new.stored)

abbrev pub FirstItemsStore : Type 0
FirstItemsStore = OfItems (λ A xs p. StoresFirst xs p)
