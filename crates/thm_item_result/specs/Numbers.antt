-- What stands in what an item is answered with, beside store and source map: for each arena the least number above those that are named.
use Rattle.std.specs.Prelude.{List, Option}
use Rattle.hir_store.specs.Past.{Past, join, past_bound, past_bounds, past_constant, past_each, past_lifetime_id, past_present}
use Rattle.hir_store.specs.Past.{past_type_id, past_type_ids}
use Rattle.hir_store.specs.declared.generics.GenericParams.{GenericParams}
use Rattle.hir_store.specs.declared.generics.TypeOrConstParamData.{TypeOrConstParamData}
use Rattle.hir_store.specs.declared.generics.TypeOrConstParamData.TheVariants as param
use Rattle.hir_store.specs.declared.generics.WherePredicate.{WherePredicate}
use Rattle.hir_store.specs.declared.generics.WherePredicate.TheVariants as predicate
use Rattle.hir_store.specs.declared.ids.TypeRefId.{TypeRefId}
use Rattle.hir_store.specs.declared.type_ref.TraitRef.{TraitRef}
use Rattle.hir_store.specs.declared.type_ref.TypeBound.{TypeBound}

-- generic parameters

-- the default of a type, or the type of a constant and its default
abbrev pub past_param : TypeOrConstParamData → Past
past_param (param.TypeParamData x) = past_present past_type_id x.default
past_param (param.ConstParamData x) = join (past_type_id x.ty) (past_present past_constant x.default)

-- what is bound, and its bound
abbrev pub past_predicate : WherePredicate → Past
past_predicate (predicate.TypeBound binder t b) = join (past_type_id t) (past_bound b)
past_predicate (predicate.Lifetime l m) = join (past_lifetime_id l) (past_lifetime_id m)

abbrev pub past_params : GenericParams → Past
past_params g = join (past_each past_param g.type_or_consts) (past_each past_predicate g.where_predicates)

-- what is answered besides

-- the type of an `impl`, and its trait
abbrev pub past_impl : TypeRefId → Option TraitRef → Past
past_impl self trait_ = join (past_type_id self) (past_present (λ t. past_type_id t.path) trait_)

-- the bounds of an alias, and its type
abbrev pub past_alias : List TypeBound → Option TypeRefId → Past
past_alias bounds ty = join (past_bounds bounds) (past_present past_type_id ty)

-- the types of what a function is given, and of what it returns
abbrev pub past_function : List TypeRefId → Option TypeRefId → Past
past_function args ret = join (past_type_ids args) (past_present past_type_id ret)
