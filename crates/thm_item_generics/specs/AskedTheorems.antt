-- What lowering an item asks is what is read off the item.
use Rattle.std.specs.Prelude.{◌≡◌, Ok}
use Rattle.hir_store.specs.declared.ids.GenericDefId.{GenericDefId}
use Rattle.hir_lower_builder.specs.Builder.{Builder}
use Rattle.hir_lower_builder.specs.Lowering.{Lowering}
use Rattle.hir_lower_item.specs.Items.{Alias, Function, Generics, Impl, Trait}
use Rattle.hir_lower_item.specs.Lower.{lower_alias, lower_function, lower_generics, lower_impl, lower_trait}
use Rattle.thm_logic.specs.Keeps.{Paired}
use Rattle.thm_item_generics.specs.AskedFold.{Asks, asked_in_alias, asked_in_function, asked_in_generics, asked_in_impl, asked_in_trait}
use Rattle.thm_item_generics.specs.Asked.{IsAsked}

-- from any builder on in which each entry has its source

abbrev pub ItAsks : {A : Type 0} → Asks → Lowering A → Type 0
ItAsks {A} x p = (b c : Builder) (a : A) → Paired b.stored → p b ≡ (Ok a, c) → IsAsked x b c

abbrev pub ItemsAsk : Type 0
ItemsAsk = (def : GenericDefId)
    → ((g : Generics) → ItAsks (asked_in_generics def g) (lower_generics def g))
    × ((x : Trait) → ItAsks (asked_in_trait def x) (lower_trait def x))
    × ((x : Impl) → ItAsks (asked_in_impl def x) (lower_impl def x))
    × ((x : Alias) → ItAsks (asked_in_alias def x) (lower_alias def x))
    × ((x : Function) → ItAsks (asked_in_function def x) (lower_function def x))
