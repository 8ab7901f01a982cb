-- The words that the contracts of the entry functions cite. Each comment says what a clause claims; the records that the words name
-- (`HasBody`, `OneResult`, ..) say it in full.
use Rattle.std.specs.Prelude.{◌≡◌, List}
use Rattle.hir_store.specs.Stored.{SourceMap, Store}
use Rattle.hir_store.specs.declared.generics.GenericParams.{GenericParams}
use Rattle.hir_env.specs.ResolvedTree.{OptionType}
use Rattle.thm_body_result.specs.OneResult.{OneResult}
use Rattle.thm_body_result.specs.Room.{body_size, type_part_size}
use Rattle.thm_body_result.specs.StoredData.{ReadsAs}
use Rattle.thm_item_result.specs.Exceeding.{Exceeds, FitsIn}
use Rattle.thm_item_result.specs.Inside.{Holding, HoldsOnce, with_held_params}
use Rattle.thm_item_result.specs.Once.{Naming, ReachesOnce, with_params}
use Rattle.thm_item_result.specs.Parts.{Part}
use Rattle.thm_item_result.specs.Sizes.{ItemFitsIn, ItemTooLarge}
use Rattle.thm_item_result.specs.Stored.{data_of_item}
use Rattle.hir_lower.specs.Data.{data_in_body, data_in_type}
use Rattle.hir_lower.specs.Formals.{formals_read, self_source}
use Rattle.hir_lower.specs.Inputs.{BodyInput}
use Rattle.hir_lower.specs.Means.{HasBody, HasParams, expanded_in_body, expanded_in_type}
use Rattle.hir_lower.specs.Roots.{formals_of, given_of}
use Rattle.hir_lower.specs.declared.body.Body.{Body}
use Rattle.hir_lower.specs.declared.body.BodySourceMap.{BodySourceMap}

-- `lower_body`

-- The one root and all nested bodies are trace-equivalent to the written ones. There is no sharing of expressions and types.
abbrev pub HasSameMeaning : BodyInput → Body → BodySourceMap → Type 0
HasSameMeaning x b m =
    HasBody x.kind b.store m.store (formals_of b).1 x.formals.receiver (formals_read x.skipped x.formals.formals) x.read

-- Entries, source map, owners, definitions of bindings, block ids and diagnostics are those that parameters and body require.
abbrev pub IsOneResult : BodyInput → Body → BodySourceMap → Type 0
IsOneResult x b m = OneResult b.store m.store x.owed x.kind x.skipped x.formals (given_of b) x.read

-- The expansions are those of the entered macro calls, in the order of lowering.
abbrev pub HasExpansions : BodyInput → BodySourceMap → Type 0
HasExpansions x m = m.store.expansions ≡ expanded_in_body x.kind x.skipped x.formals x.read

-- All types and lifetimes in the store decode to the written ones, in the order of lowering.
abbrev pub HasStoredData : BodyInput → Body → BodySourceMap → Type 0
HasStoredData x b m = ReadsAs (data_in_body x.kind x.skipped x.formals x.read) b.store m.store

-- Each parameter decodes to the written one, in order. Formal parameters are these, or those of the prelude. No sharing of patterns.
abbrev pub HasBodyParams : BodyInput → Body → BodySourceMap → Type 0
HasBodyParams x b m = HasParams x.kind b.store m.store b.params b.self_param x.skipped x.formals

-- The source map has the syntax pointer of `self`.
abbrev pub HasSelfSource : BodyInput → BodySourceMap → Type 0
HasSelfSource x m = m.self_param ≡ self_source x.formals.receiver

-- Parameters and body require more entries of a kind than an arena holds, or overflow a counter of 32 bits.
abbrev pub BodyExceeds : BodyInput → Type 0
BodyExceeds x = Exceeds 4294967295 (body_size x.kind x.skipped x.formals x.read)

-- All entries, generated names and generic parameters that they require fit.
abbrev pub BodyFits : BodyInput → Type 0
BodyFits x = FitsIn 4294967295 (body_size x.kind x.skipped x.formals x.read)

-- `lower_type_ref`

-- The expansions are those of the entered macro calls, in the order of lowering.
abbrev pub HasTypeExpansions : OptionType → SourceMap → Type 0
HasTypeExpansions t source_map = source_map.expansions ≡ expanded_in_type t

-- All types and lifetimes in the store decode to the written ones, in the order of lowering.
abbrev pub HasTypeData : OptionType → Store → SourceMap → Type 0
HasTypeData t store source_map = ReadsAs (data_in_type t) store source_map

-- The type requires more entries of a kind than an arena holds, or overflows a counter of 32 bits.
abbrev pub TypeExceeds : OptionType → Type 0
TypeExceeds t = Exceeds 4294967295 (type_part_size t)

-- All entries, generated names and generic parameters that it requires fit.
abbrev pub TypeFits : OptionType → Type 0
TypeFits t = FitsIn 4294967295 (type_part_size t)

-- items, by the parts that they are lowered as

-- All types and lifetimes in the store decode to the written ones, or to those that lowering adds, in the order of lowering.
abbrev pub HasItemData : List Part → Store → SourceMap → Type 0
HasItemData xs store source_map = ReadsAs (data_of_item xs) store source_map

-- No sharing of types in generic parameters, predicates and the rest of the result. A type of several predicates counts once.
abbrev pub TypesOnce : Store → SourceMap → GenericParams → Naming → Type 0
TypesOnce store source_map params named = ReachesOnce store (with_params store source_map params named)

-- No sharing of the constants in these, such as the defaults of parameters.
abbrev pub ConstantsOnce : Store → SourceMap → GenericParams → Holding → Type 0
ConstantsOnce store source_map params held = HoldsOnce store (with_held_params store source_map params held)

-- The item requires more entries of a kind than an arena holds, or overflows a counter of 32 bits.
abbrev pub ItemExceeds : List Part → Type 0
ItemExceeds xs = ItemTooLarge 4294967295 xs

-- All entries, generated names and generic parameters that it requires fit.
abbrev pub ItemFits : List Part → Type 0
ItemFits xs = ItemFitsIn 4294967295 xs
