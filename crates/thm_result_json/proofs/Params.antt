-- Generic parameters and predicates read back.
use Rattle.std.proofs.Common.{arith, refl}
use Rattle.hir_store.specs.declared.generics.TypeOrConstParamData.{TypeOrConstParamData}
use Rattle.hir_store.specs.declared.generics.WherePredicate.{WherePredicate}
use Rattle.hir_store.specs.declared.generics.TypeOrConstParamData.TheVariants as param_is
use Rattle.hir_store.specs.declared.generics.WherePredicate.TheVariants as predicate_is
use Rattle.thm_result_json.specs.Codec.{Faithful}
use Rattle.thm_result_json.specs.Params.{generic_params, generic_params_fields, lifetime_param, lifetime_param_fields, of_param}
use Rattle.thm_result_json.specs.Params.{of_predicate, param, param_const_param_data, param_kinds, param_type_param_data, predicate}
use Rattle.thm_result_json.specs.Params.{predicate_kinds, predicate_lifetime, predicate_type_bound}
use Rattle.thm_result_json.proofs.Codecs.{Kept, Emitted, counts, keys, kind_keeps, lasts, listing_faithful, makes, maybes, reads, sums}
use Rattle.thm_result_json.proofs.Codecs.{fields_back}
use Rattle.thm_result_json.proofs.Numbers.{const_ref_theorem, lifetime_id_theorem, name_theorem, type_id_theorem}
use Rattle.thm_result_json.proofs.Paths.{bound_theorem}
use Rattle.thm_result_json.proofs.Words.{bound_type_theorem, provenance_theorem}

param_type_param_data_kept : Kept param_type_param_data 0
param_type_param_data_kept =
    keys "default" (maybes type_id_theorem)
    (kind_keeps "TypeParamData"
    (keys "name" (maybes name_theorem)
    (lasts "provenance" (reads provenance_theorem)) (λ d x. refl)) (λ d x. refl)) (λ d x. refl)

param_const_param_data_kept : Kept param_const_param_data 0
param_const_param_data_kept =
    keys "default" (maybes const_ref_theorem)
    (kind_keeps "ConstParamData"
    (keys "name" (reads name_theorem)
    (lasts "ty" (reads type_id_theorem)) (λ d x. refl)) (λ d x. refl)) (λ d x. refl)

param_emitted : (x : TypeOrConstParamData) → Emitted param_kinds (of_param x) x 0
param_emitted (param_is.TypeParamData p) =
    fields_back 0 (λ v. param_is.TypeParamData (record { name = v.1.0; default = v.0; provenance = v.1.1 }))
    param_type_param_data_kept (omega
    arith) (p.default, (p.name, p.provenance))
param_emitted (param_is.ConstParamData p) =
    fields_back 0 (λ v. param_is.ConstParamData (record { name = v.1.0; ty = v.1.1; default = v.0 })) param_const_param_data_kept
    (omega arith)
    (p.default, (p.name, p.ty))

pub param_theorem : Faithful param 1
param_theorem = sums of_param param_kinds 0 param_emitted

lifetime_param_kept : Kept lifetime_param_fields 0
lifetime_param_kept = keys "bound_type" (reads bound_type_theorem) (lasts "name" (reads name_theorem)) (λ d x. refl)

pub lifetime_param_theorem : Faithful lifetime_param 1
lifetime_param_theorem = makes (λ x. (x.bound_type, x.name)) (λ v. record { name = v.1; bound_type = v.0 }) lifetime_param_kept (λ x. refl)

predicate_type_bound_kept : Kept predicate_type_bound 3
predicate_type_bound_kept =
    keys "bound" (reads bound_theorem)
    (kind_keeps "TypeBound"
    (keys "lifetimes" (maybes (listing_faithful name_theorem))
    (lasts "target" (reads type_id_theorem)) (λ d x. refl)) (λ d x. refl)) (λ d x. refl)

predicate_lifetime_kept : Kept predicate_lifetime 0
predicate_lifetime_kept =
    keys "bound" (reads lifetime_id_theorem)
    (kind_keeps "Lifetime"
    (lasts "target" (reads lifetime_id_theorem)) (λ d x. refl)) (λ d x. refl)

predicate_emitted : (x : WherePredicate) → Emitted predicate_kinds (of_predicate x) x 3
predicate_emitted (predicate_is.TypeBound lifetimes target asked) =
    fields_back 3 (λ v. predicate_is.TypeBound v.1.0 v.1.1 v.0) predicate_type_bound_kept (omega arith) (asked, (lifetimes, target))
predicate_emitted (predicate_is.Lifetime target asked) =
    fields_back 3 (λ v. predicate_is.Lifetime v.1 v.0) predicate_lifetime_kept (omega arith) (asked, target)

pub predicate_theorem : Faithful predicate 4
predicate_theorem = sums of_predicate predicate_kinds 3 predicate_emitted

generic_params_kept : Kept generic_params_fields 5
generic_params_kept =
    keys "early_bound_lifetimes_len" (reads counts)
    (keys "lifetimes" (reads (listing_faithful lifetime_param_theorem))
    (keys "type_or_consts" (reads (listing_faithful param_theorem))
    (lasts "where_predicates" (reads (listing_faithful predicate_theorem))) (λ d x. refl)) (λ d x. refl)) (λ d x. refl)

pub generic_params_theorem : Faithful generic_params 6
generic_params_theorem =
    makes (λ x. (x.early_bound_lifetimes_len, (x.lifetimes, (x.type_or_consts, x.where_predicates)))) (λ v. record {
      early_bound_lifetimes_len = v.0;
      type_or_consts = v.1.1.0;
      lifetimes = v.1.0;
      where_predicates = v.1.1.1;
    }) generic_params_kept (λ x.
    refl)
