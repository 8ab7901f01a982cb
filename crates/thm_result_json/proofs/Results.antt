-- What each entry function answers reads back.
use Rattle.std.proofs.Common.{refl}
use Rattle.thm_result_json.specs.Codec.{Faithful}
use Rattle.thm_result_json.specs.Numbers.{binding_id, pat_id}
use Rattle.thm_result_json.specs.Results.{alias, alias_fields, body, body_fields, formal, formal_fields, function, function_fields}
use Rattle.thm_result_json.specs.Results.{generics, generics_fields, impl_fields, impl_result, path_fields, path_result, trait_ref}
use Rattle.thm_result_json.specs.Results.{type_fields, type_result}
use Rattle.thm_result_json.proofs.Codecs.{Kept, flags, by_mapping, keys, lasts, listing_faithful, makes, maybes, reads, versions}
use Rattle.thm_result_json.proofs.Maps.{source_map_theorem, store_theorem}
use Rattle.thm_result_json.proofs.Numbers.{binding_id_theorem, pat_id_theorem, pointer_theorem, type_id_theorem}
use Rattle.thm_result_json.proofs.Params.{generic_params_theorem}
use Rattle.thm_result_json.proofs.Paths.{bound_theorem, path_theorem}

pat_formal_kept : Kept (formal_fields pat_id) 0
pat_formal_kept = keys "formal" (reads pat_id_theorem) (lasts "user_written" (reads pat_id_theorem)) (λ d x. refl)

pat_formal_theorem : Faithful (formal pat_id) 1
pat_formal_theorem =
    makes (λ x. (x.formal, x.user_written)) (λ v. record { formal = v.0; user_written = v.1 }) pat_formal_kept (λ x. refl)

binding_formal_kept : Kept (formal_fields binding_id) 0
binding_formal_kept = keys "formal" (reads binding_id_theorem) (lasts "user_written" (reads binding_id_theorem)) (λ d x. refl)

binding_formal_theorem : Faithful (formal binding_id) 1
binding_formal_theorem =
    makes (λ x. (x.formal, x.user_written)) (λ v. record { formal = v.0; user_written = v.1 }) binding_formal_kept (λ x. refl)

trait_ref_theorem : Faithful trait_ref 0
trait_ref_theorem = by_mapping _ _ (λ t. refl) type_id_theorem

body_kept : Kept body_fields 13
body_kept =
    versions "format" 1
    (keys "params" (reads (listing_faithful pat_formal_theorem))
    (keys "self_node" (maybes pointer_theorem)
    (keys "self_param" (maybes binding_formal_theorem)
    (keys "source_map" (reads source_map_theorem)
    (lasts "store" (reads store_theorem)) (λ d x. refl)) (λ d x. refl)) (λ d x. refl)) (λ d x. refl)) (λ d x. refl)

pub body_theorem : Faithful body 14
body_theorem =
    makes (λ r. (r.2, (r.4, (r.3, (r.1, r.0))))) (λ v. (v.1.1.1.1, v.1.1.1.0, v.0, v.1.1.0, v.1.0)) body_kept (λ r. refl)

type_kept : Kept type_fields 13
type_kept =
    versions "format" 1
    (keys "source_map" (reads source_map_theorem)
    (keys "store" (reads store_theorem)
    (lasts "type_ref" (reads type_id_theorem)) (λ d x. refl)) (λ d x. refl)) (λ d x. refl)

pub type_theorem : Faithful type_result 14
type_theorem = makes (λ r. (r.1, (r.0, r.2))) (λ v. (v.1.0, v.0, v.1.1)) type_kept (λ r. refl)

path_kept : Kept path_fields 13
path_kept =
    versions "format" 1
    (keys "path" (maybes path_theorem)
    (keys "source_map" (reads source_map_theorem)
    (lasts "store" (reads store_theorem)) (λ d x. refl)) (λ d x. refl)) (λ d x. refl)

pub path_result_theorem : Faithful path_result 14
path_result_theorem = makes (λ r. (r.2, (r.1, r.0))) (λ v. (v.1.1, v.1.0, v.0)) path_kept (λ r. refl)

generics_kept : Kept generics_fields 13
generics_kept =
    versions "format" 1
    (keys "generic_params" (reads generic_params_theorem)
    (keys "source_map" (reads source_map_theorem)
    (lasts "store" (reads store_theorem)) (λ d x. refl)) (λ d x. refl)) (λ d x. refl)

pub generics_theorem : Faithful generics 14
generics_theorem = makes (λ r. (r.2, (r.1, r.0))) (λ v. (v.1.1, v.1.0, v.0)) generics_kept (λ r. refl)

impl_kept : Kept impl_fields 13
impl_kept =
    versions "format" 1
    (keys "generic_params" (reads generic_params_theorem)
    (keys "self_ty" (reads type_id_theorem)
    (keys "source_map" (reads source_map_theorem)
    (keys "store" (reads store_theorem)
    (lasts "trait_ref" (maybes trait_ref_theorem)) (λ d x. refl)) (λ d x. refl)) (λ d x. refl)) (λ d x. refl)) (λ d x. refl)

pub impl_theorem : Faithful impl_result 14
impl_theorem =
    makes (λ r. (r.4, (r.2, (r.1, (r.0, r.3))))) (λ v. (v.1.1.1.0, v.1.1.0, v.1.0, v.1.1.1.1, v.0)) impl_kept (λ r. refl)

alias_kept : Kept alias_fields 13
alias_kept =
    keys "bounds" (reads (listing_faithful bound_theorem))
    (versions "format" 1
    (keys "generic_params" (reads generic_params_theorem)
    (keys "source_map" (reads source_map_theorem)
    (keys "store" (reads store_theorem)
    (lasts "type_ref" (maybes type_id_theorem)) (λ d x. refl)) (λ d x. refl)) (λ d x. refl)) (λ d x. refl)) (λ d x. refl)

pub alias_theorem : Faithful alias 14
alias_theorem =
    makes (λ r. (r.3, (r.2, (r.1, (r.0, r.4))))) (λ v. (v.1.1.1.0, v.1.1.0, v.1.0, v.0, v.1.1.1.1)) alias_kept (λ r. refl)

function_kept : Kept function_fields 13
function_kept =
    keys "args" (reads (listing_faithful type_id_theorem))
    (versions "format" 1
    (keys "generic_params" (reads generic_params_theorem)
    (keys "has_self" (reads flags)
    (keys "has_variadic" (reads flags)
    (keys "ret" (maybes type_id_theorem)
    (keys "source_map" (reads source_map_theorem)
    (lasts "store" (reads store_theorem)) (λ d x. refl)) (λ d x. refl)) (λ d x. refl)) (λ d x. refl)) (λ d x. refl))
    (λ d x. refl)) (λ d x. refl)

pub function_theorem : Faithful function 14
function_theorem =
    makes (λ r. (r.3, (r.2, (r.5, (r.6, (r.4, (r.1, r.0)))))))
    (λ v. (v.1.1.1.1.1.1, v.1.1.1.1.1.0, v.1.0, v.0, v.1.1.1.1.0, v.1.1.0, v.1.1.1.0)) function_kept (λ r. refl)
