-- Generic parameters and predicates.
use Rattle.std.specs.Prelude.{ℕ, List, [], ◌∷◌, Option}
use Rattle.hir_store.specs.declared.generics.GenericParams.{GenericParams}
use Rattle.hir_store.specs.declared.generics.LifetimeBoundType.{LifetimeBoundType}
use Rattle.hir_store.specs.declared.generics.LifetimeParamData.{LifetimeParamData}
use Rattle.hir_store.specs.declared.generics.TypeOrConstParamData.{TypeOrConstParamData}
use Rattle.hir_store.specs.declared.generics.TypeParamProvenance.{TypeParamProvenance}
use Rattle.hir_store.specs.declared.generics.WherePredicate.{WherePredicate}
use Rattle.hir_store.specs.declared.ids.LifetimeRefId.{LifetimeRefId}
use Rattle.hir_store.specs.declared.ids.TypeRefId.{TypeRefId}
use Rattle.hir_store.specs.declared.name.Name.{Name}
use Rattle.hir_store.specs.declared.type_ref.ConstRef.{ConstRef}
use Rattle.hir_store.specs.declared.type_ref.TypeBound.{TypeBound}
use Rattle.hir_store.specs.declared.generics.TypeOrConstParamData.TheVariants as param_is
use Rattle.hir_store.specs.declared.generics.WherePredicate.TheVariants as predicate_is
use Rattle.serde_json.specs.Data.{Members}
use Rattle.thm_result_json.specs.Codec.{Codec, Fields, Kind, count_codec, key, kind, kinds, last, listing, made, maybe, one}
use Rattle.thm_result_json.specs.Numbers.{const_ref, lifetime_id, name, type_id}
use Rattle.thm_result_json.specs.Paths.{bound}
use Rattle.thm_result_json.specs.Words.{bound_type, provenance}

-- `{"default": null, "k": "TypeParamData", "name": null, "provenance": "TypeParamList"}`
abbrev pub param_type_param_data : Fields ((Option TypeRefId) × ((Option Name) × TypeParamProvenance))
param_type_param_data = key "default" (maybe type_id) (kind "TypeParamData" (key "name" (maybe name) (last "provenance" provenance)))

-- `{"default": null, "k": "ConstParamData", "name": "x", "ty": 0}`
abbrev pub param_const_param_data : Fields ((Option ConstRef) × (Name × TypeRefId))
param_const_param_data = key "default" (maybe const_ref) (kind "ConstParamData" (key "name" name (last "ty" type_id)))

abbrev pub of_param : TypeOrConstParamData → Members
of_param (param_is.TypeParamData p) = (param_type_param_data).to (p.default, (p.name, p.provenance))
of_param (param_is.ConstParamData p) = (param_const_param_data).to (p.default, (p.name, p.ty))

abbrev pub param_kinds : List (Kind TypeOrConstParamData)
param_kinds =
    one "TypeParamData" (λ v. param_is.TypeParamData (record { name = v.1.0; default = v.0; provenance = v.1.1 })) param_type_param_data ∷
    one "ConstParamData" (λ v. param_is.ConstParamData (record { name = v.1.0; ty = v.1.1; default = v.0 })) param_const_param_data ∷ []

abbrev pub param : Codec TypeOrConstParamData
param = kinds of_param param_kinds

-- `{"bound_type": "EarlyBound", "name": "x"}`
abbrev pub lifetime_param_fields : Fields (LifetimeBoundType × Name)
lifetime_param_fields = key "bound_type" bound_type (last "name" name)

abbrev pub lifetime_param : Codec LifetimeParamData
lifetime_param = made (λ x. (x.bound_type, x.name)) (λ v. record { name = v.1; bound_type = v.0 }) lifetime_param_fields

-- `{"bound": .., "k": "TypeBound", "lifetimes": null, "target": 0}`
abbrev pub predicate_type_bound : Fields (TypeBound × ((Option (List Name)) × TypeRefId))
predicate_type_bound = key "bound" bound (kind "TypeBound" (key "lifetimes" (maybe (listing name)) (last "target" type_id)))

-- `{"bound": 0, "k": "Lifetime", "target": 0}`
abbrev pub predicate_lifetime : Fields (LifetimeRefId × LifetimeRefId)
predicate_lifetime = key "bound" lifetime_id (kind "Lifetime" (last "target" lifetime_id))

abbrev pub of_predicate : WherePredicate → Members
of_predicate (predicate_is.TypeBound lifetimes target asked) = (predicate_type_bound).to (asked, (lifetimes, target))
of_predicate (predicate_is.Lifetime target asked) = (predicate_lifetime).to (asked, target)

abbrev pub predicate_kinds : List (Kind WherePredicate)
predicate_kinds =
    one "TypeBound" (λ v. predicate_is.TypeBound v.1.0 v.1.1 v.0) predicate_type_bound ∷
    one "Lifetime" (λ v. predicate_is.Lifetime v.1 v.0) predicate_lifetime ∷ []

abbrev pub predicate : Codec WherePredicate
predicate = kinds of_predicate predicate_kinds

-- `{"early_bound_lifetimes_len": 0, "lifetimes": [..], "type_or_consts": [..], "where_predicates": [..]}`
abbrev pub generic_params_fields : Fields (ℕ × ((List LifetimeParamData) × ((List TypeOrConstParamData) × (List WherePredicate))))
generic_params_fields =
    key "early_bound_lifetimes_len" count_codec
    (key "lifetimes" (listing lifetime_param)
    (key "type_or_consts" (listing param)
    (last "where_predicates" (listing predicate))))

abbrev pub generic_params : Codec GenericParams
generic_params =
    made (λ x. (x.early_bound_lifetimes_len, (x.lifetimes, (x.type_or_consts, x.where_predicates)))) (λ v. record {
      early_bound_lifetimes_len = v.0;
      type_or_consts = v.1.1.0;
      lifetimes = v.1.0;
      where_predicates = v.1.1.1;
    }) generic_params_fields
