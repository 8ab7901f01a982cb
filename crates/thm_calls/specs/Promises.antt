-- What the contract of each public call promises of an outcome, clause by clause, in terms of what the call takes from its environment.
use Rattle.std.specs.Prelude.{◌≡◌, ◌≢◌, ◌+◌, Bool, [], List, Option, Some, None, Result, Err, IfOk, IsErrOf}
use Rattle.hir_syntax.specs.declared.ast.Path.{Path as AstPath, out-Path}
use Rattle.hir_store.specs.Past.{Within}
use Rattle.hir_store.specs.Range.{InRange}
use Rattle.hir_store.specs.Stored.{SourceMap, Store, Stored, map_of, store_of}
use Rattle.hir_store.specs.StoreSink.{Extends}
use Rattle.hir_store.specs.declared.generics.GenericParams.{GenericParams}
use Rattle.hir_store.specs.declared.ids.FunctionId.{FunctionId}
use Rattle.hir_store.specs.declared.ids.GenericDefId.{GenericDefId}
use Rattle.hir_store.specs.declared.ids.GenericDefId.TheVariants as definition
use Rattle.hir_store.specs.declared.ids.ImplId.{ImplId}
use Rattle.hir_store.specs.declared.ids.TraitId.{TraitId}
use Rattle.hir_store.specs.declared.ids.TypeAliasId.{TypeAliasId}
use Rattle.hir_store.specs.declared.ids.TypeRefId.{TypeRefId}
use Rattle.hir_store.specs.declared.path.Path.{Path}
use Rattle.hir_store.specs.declared.type_ref.ConstRef.{ConstRef}
use Rattle.hir_store.specs.declared.type_ref.TraitRef.{TraitRef}
use Rattle.hir_store.specs.declared.type_ref.TypeBound.{TypeBound}
use Rattle.hir_env.specs.ResolvedTree.{OptionExpr, OptionType}
use Rattle.spec_data.specs.Data.{OptionArgsData}
use Rattle.spec_data.specs.Reading.{stored_path}
use Rattle.spec_data.specs.Segments.{PlainTrait, Whole, first_trait}
use Rattle.hir_lower_builder.specs.Builder.{Builder}
use Rattle.hir_lower_builder.specs.Lowering.{SomeEnd}
use Rattle.hir_lower_item.specs.Items as item
use Rattle.thm_generics.specs.Lists.{Tracked}
use Rattle.spec_data.specs.Fold.{tracked_in_part, tracked_in_whole}
use Rattle.thm_body_result.specs.Room.{Short, TooLarge, size_part, whole_size}
use Rattle.thm_type_result.specs.TypeResult.{TypeResult}
use Rattle.thm_item_result.specs.Answers.{AliasReads, FunctionReads, ImplReads}
use Rattle.thm_item_result.specs.Exceeding.{FitsBehind}
use Rattle.thm_item_result.specs.Inside.{held_by_alias, held_by_function, held_by_impl, none_held}
use Rattle.thm_item_result.specs.ItemResult.{ItemResult}
use Rattle.thm_item_result.specs.Numbers.{past_alias, past_function, past_impl, past_params}
use Rattle.thm_item_result.specs.Once.{named_by_alias, named_by_function, named_by_impl, none_named}
use Rattle.thm_item_result.specs.Parts.{alias_parts, function_parts, generics_parts, impl_parts, trait_parts}
use Rattle.hir_lower.specs.Beside.{beside}
use Rattle.hir_lower.specs.Calls.{Calls}
use Rattle.hir_lower.specs.Clauses.{BodyExceeds, BodyFits, HasBodyParams, HasExpansions, HasSameMeaning, HasSelfSource}
use Rattle.hir_lower.specs.Clauses.{HasStoredData, HasTypeData, HasTypeExpansions, IsOneResult, TypeExceeds, TypeFits}
use Rattle.hir_lower.specs.Clauses.{ConstantsOnce, HasItemData, ItemExceeds, ItemFits, TypesOnce}
use Rattle.hir_lower.specs.Inputs.{BodyInput}
use Rattle.hir_lower.specs.ItemParams.{AliasHas, FunctionHas, GenericsHave, ImplHas, TraitHas}
use Rattle.hir_lower.specs.Means.{BearsNames, MadeOnce, PathRooted, ReadsBack, Rooted}
use Rattle.hir_lower.specs.Roots.{formals_of}
use Rattle.hir_lower.specs.Stays.{Stays}
use Rattle.hir_lower.specs.declared.body.Body.{Body}
use Rattle.hir_lower.specs.declared.body.BodySourceMap.{BodySourceMap}
use Rattle.hir_lower.specs.declared.error.LowerError.{LowerError}
use Rattle.hir_lower.specs.declared.error.LowerError.TheVariants.{Memory, Full, Failed}
use Rattle.thm_calls.specs.Readings.{PathReading}

-- `lower_body`
pub record BodyPromise (x : BodyInput) (answer : Result (Body × BodySourceMap) LowerError) : Type 0 where
  pub same_meaning : IfOk answer (λ r. HasSameMeaning x r.0 r.1)
  pub one_result : IfOk answer (λ r. IsOneResult x r.0 r.1)
  pub expanded : IfOk answer (λ r. HasExpansions x r.1)
  pub stored : IfOk answer (λ r. HasStoredData x r.0 r.1)
  pub params : IfOk answer (λ r. HasBodyParams x r.0 r.1)
  pub self_source : IfOk answer (λ r. HasSelfSource x r.1)
  pub made_once : IfOk answer (λ r. MadeOnce r.0.store (formals_of r.0).1)
  pub in_range : IfOk answer (λ r. InRange r.0.store r.1.store)
  pub too_large : IsErrOf answer Full → BodyExceeds x
  pub fits : IfOk answer (λ r. BodyFits x)
  pub own : answer ≢ Err Failed

-- `lower_type_ref`
pub record TypePromise (t : OptionType) (answer : Result (Store × SourceMap × TypeRefId) LowerError) : Type 0 where
  pub type_result : IfOk answer (λ r. TypeResult r.0 r.1 r.2 t)
  pub expanded : IfOk answer (λ r. HasTypeExpansions t r.1)
  pub stored : IfOk answer (λ r. HasTypeData t r.0 r.1)
  pub made_once : IfOk answer (λ r. MadeOnce r.0 [])
  pub in_range : IfOk answer (λ r. InRange r.0 r.1)
  pub too_large : IsErrOf answer Full → TypeExceeds t
  pub fits : IfOk answer (λ r. TypeFits t)
  pub own : answer ≢ Err Failed

-- What becomes of a collector by a call: what it had stored and noted before, and what behind it, whether it had failed, and has, and what
-- the call answered.
pub record Outcome (A : Type 0) : Type 0 where
  pub old : Builder
  pub new : Builder
  pub failed : Bool
  pub fails : Bool
  pub result : Result A LowerError

abbrev pub outcome : {A : Type 0} → Builder → Bool → Result A LowerError → Builder → Bool → Outcome A
outcome old failed result new fails = record { old = old; new = new; failed = failed; fails = fails; result = result }

-- `lower_const_arg`
pub record ConstPromise (x : OptionExpr) (o : Outcome ConstRef) : Type 0 where
  pub calls : Calls o.failed o.old o.result o.new o.fails
  pub rooted : IfOk o.result (λ c. Rooted o.old.stored o.new.stored c.expr x)
  pub full : IsErrOf o.result Full → SomeEnd o.new
  pub too_large : IsErrOf o.result Full → TooLarge o.old x
  pub fits : IfOk o.result (λ c. FitsBehind (size_part x) o.old)
  pub names : IfOk o.result (λ c. o.new.names ≡ o.old.names + (size_part x).names)
  pub tracked : IfOk o.result (λ c. Tracked (tracked_in_part x) o.old o.new)
  pub stays : o.result ≢ Err Memory → Stays o.old.stored o.new.stored

-- Beside the names of a path stand these, where no use tree stands around it or its trait, no segment of either is missing, and its trait
-- has no qualified type.
abbrev pub BearsArguments : Stored → List OptionArgsData → AstPath → Option Path → Type 0
BearsArguments new arguments x None = Unit {0}
BearsArguments new arguments x (Some p) =
    (later : Stored) → Extends new later → Whole x → PlainTrait (first_trait (out-Path x).segs)
    → beside (stored_path (store_of later) (map_of later) p) ≡ arguments

-- `lower_path`
pub record PathPromise (x : AstPath) (y : PathReading) (o : Outcome (Option Path)) : Type 0 where
  pub calls : Calls o.failed o.old o.result o.new o.fails
  pub reads_back : IfOk o.result (λ r. ReadsBack o.new.stored r y.read)
  pub segments : IfOk o.result (λ r. BearsNames o.new.stored x r)
  pub arguments : IfOk o.result (λ r. BearsArguments o.new.stored y.arguments x r)
  pub rooted : IfOk o.result (λ r. PathRooted o.old.stored o.new.stored r y.read)
  pub full : IsErrOf o.result Full → SomeEnd o.new
  pub too_large : IsErrOf o.result Full → Short (whole_size y.read) o.old
  pub fits : IfOk o.result (λ r. FitsBehind (whole_size y.read) o.old)
  pub names : IfOk o.result (λ r. o.new.names ≡ o.old.names + (whole_size y.read).names)
  pub tracked : IfOk o.result (λ r. Tracked (tracked_in_whole y.read) o.old o.new)
  pub stays : o.result ≢ Err Memory → Stays o.old.stored o.new.stored

-- `lower_generic_params`
pub record GenericsPromise (def : GenericDefId) (x : item.Generics) (answer : Result (Store × GenericParams × SourceMap) LowerError)
    : Type 0 where
  pub result : IfOk answer (λ r. ItemResult r.0 r.2 (generics_parts def x))
  pub stored : IfOk answer (λ r. HasItemData (generics_parts def x) r.0 r.2)
  pub params : IfOk answer (λ r. GenericsHave r.0 r.2 def x r.1)
  pub reached_once : IfOk answer (λ r. TypesOnce r.0 r.2 r.1 none_named)
  pub inside_reached_once : IfOk answer (λ r. ConstantsOnce r.0 r.2 r.1 none_held)
  pub made_once : IfOk answer (λ r. MadeOnce r.0 [])
  pub in_range : IfOk answer (λ r. InRange r.0 r.2)
  pub params_in_range : IfOk answer (λ r. Within r.0 (past_params r.1))
  pub too_large : IsErrOf answer Full → ItemExceeds (generics_parts def x)
  pub fits : IfOk answer (λ r. ItemFits (generics_parts def x))
  pub own : answer ≢ Err Failed

-- `lower_impl`
pub record ImplPromise (id : ImplId) (x : item.Impl)
    (answer : Result (Store × SourceMap × TypeRefId × Option TraitRef × GenericParams) LowerError) : Type 0 where
  pub result : IfOk answer (λ r. ItemResult r.0 r.1 (impl_parts (definition.ImplId id) x))
  pub stored : IfOk answer (λ r. HasItemData (impl_parts (definition.ImplId id) x) r.0 r.1)
  pub params : IfOk answer (λ r. ImplHas r.0 r.1 (definition.ImplId id) x r.4)
  pub reads : IfOk answer (λ r. ImplReads r.0 r.1 x r.2 r.3)
  pub reached_once : IfOk answer (λ r. TypesOnce r.0 r.1 r.4 (named_by_impl r.2 r.3))
  pub inside_reached_once : IfOk answer (λ r. ConstantsOnce r.0 r.1 r.4 (held_by_impl r.2 r.3))
  pub made_once : IfOk answer (λ r. MadeOnce r.0 [])
  pub in_range : IfOk answer (λ r. InRange r.0 r.1)
  pub answer_in_range : IfOk answer (λ r. Within r.0 (past_impl r.2 r.3))
  pub params_in_range : IfOk answer (λ r. Within r.0 (past_params r.4))
  pub too_large : IsErrOf answer Full → ItemExceeds (impl_parts (definition.ImplId id) x)
  pub fits : IfOk answer (λ r. ItemFits (impl_parts (definition.ImplId id) x))
  pub own : answer ≢ Err Failed

-- `lower_trait`
pub record TraitPromise (id : TraitId) (x : item.Trait) (answer : Result (Store × SourceMap × GenericParams) LowerError)
    : Type 0 where
  pub result : IfOk answer (λ r. ItemResult r.0 r.1 (trait_parts (definition.TraitId id) x))
  pub stored : IfOk answer (λ r. HasItemData (trait_parts (definition.TraitId id) x) r.0 r.1)
  pub params : IfOk answer (λ r. TraitHas r.0 r.1 (definition.TraitId id) x r.2)
  pub reached_once : IfOk answer (λ r. TypesOnce r.0 r.1 r.2 none_named)
  pub inside_reached_once : IfOk answer (λ r. ConstantsOnce r.0 r.1 r.2 none_held)
  pub made_once : IfOk answer (λ r. MadeOnce r.0 [])
  pub in_range : IfOk answer (λ r. InRange r.0 r.1)
  pub params_in_range : IfOk answer (λ r. Within r.0 (past_params r.2))
  pub too_large : IsErrOf answer Full → ItemExceeds (trait_parts (definition.TraitId id) x)
  pub fits : IfOk answer (λ r. ItemFits (trait_parts (definition.TraitId id) x))
  pub own : answer ≢ Err Failed

-- `lower_type_alias`
pub record AliasPromise (id : TypeAliasId) (x : item.Alias)
    (answer : Result (Store × SourceMap × GenericParams × List TypeBound × Option TypeRefId) LowerError) : Type 0 where
  pub result : IfOk answer (λ r. ItemResult r.0 r.1 (alias_parts (definition.TypeAliasId id) x))
  pub stored : IfOk answer (λ r. HasItemData (alias_parts (definition.TypeAliasId id) x) r.0 r.1)
  pub params : IfOk answer (λ r. AliasHas r.0 r.1 (definition.TypeAliasId id) x r.2)
  pub reads : IfOk answer (λ r. AliasReads r.0 r.1 x r.3 r.4)
  pub reached_once : IfOk answer (λ r. TypesOnce r.0 r.1 r.2 (named_by_alias r.3 r.4))
  pub inside_reached_once : IfOk answer (λ r. ConstantsOnce r.0 r.1 r.2 (held_by_alias r.3 r.4))
  pub made_once : IfOk answer (λ r. MadeOnce r.0 [])
  pub in_range : IfOk answer (λ r. InRange r.0 r.1)
  pub answer_in_range : IfOk answer (λ r. Within r.0 (past_alias r.3 r.4))
  pub params_in_range : IfOk answer (λ r. Within r.0 (past_params r.2))
  pub too_large : IsErrOf answer Full → ItemExceeds (alias_parts (definition.TypeAliasId id) x)
  pub fits : IfOk answer (λ r. ItemFits (alias_parts (definition.TypeAliasId id) x))
  pub own : answer ≢ Err Failed

-- `lower_function`
pub record FunctionPromise (id : FunctionId) (x : item.Function)
    (answer : Result (Store × SourceMap × GenericParams × List TypeRefId × Option TypeRefId × Bool × Bool) LowerError) : Type 0 where
  pub result : IfOk answer (λ r. ItemResult r.0 r.1 (function_parts (definition.FunctionId id) x))
  pub stored : IfOk answer (λ r. HasItemData (function_parts (definition.FunctionId id) x) r.0 r.1)
  pub params : IfOk answer (λ r. FunctionHas r.0 r.1 (definition.FunctionId id) x r.2)
  pub reads : IfOk answer (λ r. FunctionReads r.0 r.1 x r.3 r.4 r.5 r.6)
  pub reached_once : IfOk answer (λ r. TypesOnce r.0 r.1 r.2 (named_by_function r.3 r.4))
  pub inside_reached_once : IfOk answer (λ r. ConstantsOnce r.0 r.1 r.2 (held_by_function r.3 r.4))
  pub made_once : IfOk answer (λ r. MadeOnce r.0 [])
  pub in_range : IfOk answer (λ r. InRange r.0 r.1)
  pub answer_in_range : IfOk answer (λ r. Within r.0 (past_function r.3 r.4))
  pub params_in_range : IfOk answer (λ r. Within r.0 (past_params r.2))
  pub too_large : IsErrOf answer Full → ItemExceeds (function_parts (definition.FunctionId id) x)
  pub fits : IfOk answer (λ r. ItemFits (function_parts (definition.FunctionId id) x))
  pub own : answer ≢ Err Failed
