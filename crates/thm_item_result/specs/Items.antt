-- A theorem on each of the five items that are lowered by themselves.
use Rattle.std.specs.Prelude.{List}
use Rattle.hir_store.specs.declared.ids.GenericDefId.{GenericDefId}
use Rattle.hir_lower_builder.specs.Lowering.{Lowering}
use Rattle.hir_lower_item.specs.Items.{Alias, Function, Generics, Impl, Trait}
use Rattle.hir_lower_item.specs.Lower.{lower_alias, lower_function, lower_generics, lower_impl, lower_trait}
use Rattle.thm_item_result.specs.Parts.{Part, alias_parts, function_parts, generics_parts, impl_parts, trait_parts}

-- What is claimed of steps that read some parts is so of each of them.
abbrev pub OfItems : ((A : Type 0) → List Part → Lowering A → Type 0) → Type 0
OfItems Claim = (def : GenericDefId)
    → ((g : Generics) → Claim _ (generics_parts def g) (lower_generics def g))
    × ((x : Trait) → Claim _ (trait_parts def x) (lower_trait def x))
    × ((x : Impl) → Claim _ (impl_parts def x) (lower_impl def x))
    × ((x : Alias) → Claim _ (alias_parts def x) (lower_alias def x))
    × ((x : Function) → Claim _ (function_parts def x) (lower_function def x))
