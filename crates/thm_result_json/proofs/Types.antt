-- Lifetimes and types read back.
use Rattle.std.proofs.Common.{arith, refl}
use Rattle.hir_store.specs.declared.ids.GenericDefId.{GenericDefId}
use Rattle.hir_store.specs.declared.type_ref.LifetimeRef.{LifetimeRef}
use Rattle.hir_store.specs.declared.type_ref.TypeRef.{TypeRef}
use Rattle.hir_store.specs.declared.ids.GenericDefId.TheVariants as def_is
use Rattle.hir_store.specs.declared.type_ref.LifetimeRef.TheVariants as lifetime_is
use Rattle.hir_store.specs.declared.type_ref.TypeRef.TheVariants as ty_is
use Rattle.thm_result_json.specs.Codec.{Faithful}
use Rattle.thm_result_json.specs.Types.{generic_def, generic_def_adt_id, generic_def_const_id, generic_def_function_id, generic_def_impl_id}
use Rattle.thm_result_json.specs.Types.{generic_def_kinds, generic_def_static_id, generic_def_trait_id, generic_def_type_alias_id, lifetime}
use Rattle.thm_result_json.specs.Types.{lifetime_kinds, lifetime_named, of_generic_def, of_lifetime, of_type_ref, type_param_id}
use Rattle.thm_result_json.specs.Types.{type_param_id_fields, type_ref, type_ref_array, type_ref_dyn_trait, type_ref_fn}
use Rattle.thm_result_json.specs.Types.{type_ref_impl_trait}
use Rattle.thm_result_json.specs.Types.{type_ref_kinds, type_ref_path, type_ref_pattern, type_ref_raw_ptr, type_ref_reference}
use Rattle.thm_result_json.specs.Types.{type_ref_slice, type_ref_tuple, type_ref_type_param}
use Rattle.thm_result_json.proofs.Codecs.{Kept, Emitted, alone_keeps, flags, keys, kind_keeps, lasts, listing_faithful, lists, makes}
use Rattle.thm_result_json.proofs.Codecs.{maybes, reads, sums}
use Rattle.thm_result_json.proofs.Codecs.{fields_back}
use Rattle.thm_result_json.proofs.Numbers.{adt_id_theorem, alias_id_theorem, const_id_theorem, const_ref_theorem, function_id_theorem}
use Rattle.thm_result_json.proofs.Numbers.{impl_id_theorem}
use Rattle.thm_result_json.proofs.Numbers.{lifetime_id_theorem, name_theorem, pat_id_theorem, static_id_theorem, trait_id_theorem}
use Rattle.thm_result_json.proofs.Numbers.{type_id_theorem, type_place_theorem}
use Rattle.thm_result_json.proofs.Paths.{bound_theorem, path_theorem}
use Rattle.thm_result_json.proofs.Words.{abi_theorem, mutability_theorem}

lifetime_named_kept : Kept lifetime_named 0
lifetime_named_kept = kind_keeps "Named" (lasts "name" (reads name_theorem)) (λ d x. refl)

lifetime_emitted : (x : LifetimeRef) → Emitted lifetime_kinds (of_lifetime x) x 0
lifetime_emitted (lifetime_is.Named called) = fields_back 0 (λ v. lifetime_is.Named v) lifetime_named_kept (omega arith) called
lifetime_emitted lifetime_is.Static = fields_back 0 (λ v. lifetime_is.Static) (alone_keeps "Static") (omega arith) tt
lifetime_emitted lifetime_is.Placeholder = fields_back 0 (λ v. lifetime_is.Placeholder) (alone_keeps "Placeholder") (omega arith) tt
lifetime_emitted lifetime_is.Error = fields_back 0 (λ v. lifetime_is.Error) (alone_keeps "Error") (omega arith) tt

pub lifetime_theorem : Faithful lifetime 1
lifetime_theorem = sums of_lifetime lifetime_kinds 0 lifetime_emitted

generic_def_adt_id_kept : Kept generic_def_adt_id 0
generic_def_adt_id_kept = keys "id" (reads adt_id_theorem) (alone_keeps "AdtId") (λ d x. refl)

generic_def_const_id_kept : Kept generic_def_const_id 0
generic_def_const_id_kept = keys "id" (reads const_id_theorem) (alone_keeps "ConstId") (λ d x. refl)

generic_def_function_id_kept : Kept generic_def_function_id 0
generic_def_function_id_kept = keys "id" (reads function_id_theorem) (alone_keeps "FunctionId") (λ d x. refl)

generic_def_impl_id_kept : Kept generic_def_impl_id 0
generic_def_impl_id_kept = keys "id" (reads impl_id_theorem) (alone_keeps "ImplId") (λ d x. refl)

generic_def_static_id_kept : Kept generic_def_static_id 0
generic_def_static_id_kept = keys "id" (reads static_id_theorem) (alone_keeps "StaticId") (λ d x. refl)

generic_def_trait_id_kept : Kept generic_def_trait_id 0
generic_def_trait_id_kept = keys "id" (reads trait_id_theorem) (alone_keeps "TraitId") (λ d x. refl)

generic_def_type_alias_id_kept : Kept generic_def_type_alias_id 0
generic_def_type_alias_id_kept = keys "id" (reads alias_id_theorem) (alone_keeps "TypeAliasId") (λ d x. refl)

generic_def_emitted : (x : GenericDefId) → Emitted generic_def_kinds (of_generic_def x) x 0
generic_def_emitted (def_is.AdtId number) = fields_back 0 (λ v. def_is.AdtId v.0) generic_def_adt_id_kept (omega arith) (number, tt)
generic_def_emitted (def_is.ConstId number) = fields_back 0 (λ v. def_is.ConstId v.0) generic_def_const_id_kept (omega arith) (number, tt)
generic_def_emitted (def_is.FunctionId number) =
    fields_back 0 (λ v. def_is.FunctionId v.0) generic_def_function_id_kept (omega arith) (number, tt)
generic_def_emitted (def_is.ImplId number) = fields_back 0 (λ v. def_is.ImplId v.0) generic_def_impl_id_kept (omega arith) (number, tt)
generic_def_emitted (def_is.StaticId number) =
    fields_back 0 (λ v. def_is.StaticId v.0) generic_def_static_id_kept (omega arith) (number, tt)
generic_def_emitted (def_is.TraitId number) = fields_back 0 (λ v. def_is.TraitId v.0) generic_def_trait_id_kept (omega arith) (number, tt)
generic_def_emitted (def_is.TypeAliasId number) =
    fields_back 0 (λ v. def_is.TypeAliasId v.0) generic_def_type_alias_id_kept (omega arith) (number, tt)

pub generic_def_theorem : Faithful generic_def 1
generic_def_theorem = sums of_generic_def generic_def_kinds 0 generic_def_emitted

type_param_id_kept : Kept type_param_id_fields 1
type_param_id_kept = keys "local_id" (reads type_place_theorem) (lasts "parent" (reads generic_def_theorem)) (λ d x. refl)

type_ref_tuple_kept : Kept type_ref_tuple 1
type_ref_tuple_kept = kind_keeps "Tuple" (lasts "types" (reads (listing_faithful type_id_theorem))) (λ d x. refl)

type_ref_path_kept : Kept type_ref_path 10
type_ref_path_kept = kind_keeps "Path" (lasts "path" (reads path_theorem)) (λ d x. refl)

type_ref_raw_ptr_kept : Kept type_ref_raw_ptr 0
type_ref_raw_ptr_kept =
    kind_keeps "RawPtr"
    (keys "mutability" (reads mutability_theorem)
    (lasts "ty" (reads type_id_theorem)) (λ d x. refl)) (λ d x. refl)

type_ref_reference_kept : Kept type_ref_reference 0
type_ref_reference_kept =
    kind_keeps "Reference"
    (keys "lifetime" (maybes lifetime_id_theorem)
    (keys "mutability" (reads mutability_theorem)
    (lasts "ty" (reads type_id_theorem)) (λ d x. refl)) (λ d x. refl)) (λ d x. refl)

type_ref_slice_kept : Kept type_ref_slice 0
type_ref_slice_kept = kind_keeps "Slice" (lasts "ty" (reads type_id_theorem)) (λ d x. refl)

type_ref_array_kept : Kept type_ref_array 0
type_ref_array_kept =
    kind_keeps "Array" (keys "len" (reads const_ref_theorem) (lasts "ty" (reads type_id_theorem)) (λ d x. refl)) (λ d x. refl)

type_ref_fn_kept : Kept type_ref_fn 1
type_ref_fn_kept =
    keys "abi" (reads abi_theorem)
    (keys "binder" (maybes (listing_faithful name_theorem))
    (keys "is_unsafe" (reads flags)
    (keys "is_varargs" (reads flags)
    (kind_keeps "Fn"
    (keys "names" (reads (lists (maybes name_theorem)))
    (lasts "params" (reads (listing_faithful type_id_theorem))) (λ d x. refl)) (λ d x. refl)) (λ d x. refl)) (λ d x. refl)) (λ d x. refl))
    (λ d x. refl)

type_ref_impl_trait_kept : Kept type_ref_impl_trait 4
type_ref_impl_trait_kept = keys "bounds" (reads (listing_faithful bound_theorem)) (alone_keeps "ImplTrait") (λ d x. refl)

type_ref_dyn_trait_kept : Kept type_ref_dyn_trait 4
type_ref_dyn_trait_kept = keys "bounds" (reads (listing_faithful bound_theorem)) (alone_keeps "DynTrait") (λ d x. refl)

type_ref_pattern_kept : Kept type_ref_pattern 0
type_ref_pattern_kept =
    kind_keeps "Pattern" (keys "pat" (reads pat_id_theorem) (lasts "ty" (reads type_id_theorem)) (λ d x. refl)) (λ d x. refl)

type_ref_type_param_kept : Kept type_ref_type_param 1
type_ref_type_param_kept =
    kind_keeps "TypeParam"
    (keys "local_id" (reads type_place_theorem)
    (lasts "parent" (reads generic_def_theorem)) (λ d x. refl)) (λ d x. refl)

type_ref_emitted : (x : TypeRef) → Emitted type_ref_kinds (of_type_ref x) x 10
type_ref_emitted ty_is.Never = fields_back 10 (λ v. ty_is.Never) (alone_keeps "Never") (omega arith) tt
type_ref_emitted ty_is.Placeholder = fields_back 10 (λ v. ty_is.Placeholder) (alone_keeps "Placeholder") (omega arith) tt
type_ref_emitted ty_is.Error = fields_back 10 (λ v. ty_is.Error) (alone_keeps "Error") (omega arith) tt
type_ref_emitted (ty_is.Tuple types) = fields_back 10 (λ v. ty_is.Tuple v) type_ref_tuple_kept (omega arith) types
type_ref_emitted (ty_is.Path p) = fields_back 10 (λ v. ty_is.Path v) type_ref_path_kept (omega arith) p
type_ref_emitted (ty_is.RawPtr inner mark) = fields_back 10 (λ v. ty_is.RawPtr v.1 v.0) type_ref_raw_ptr_kept (omega arith) (mark, inner)
type_ref_emitted (ty_is.Reference r) =
    fields_back 10 (λ v. ty_is.Reference (record { ty = v.1.1; lifetime = v.0; mutability = v.1.0 })) type_ref_reference_kept (omega arith)
    (r.lifetime, (r.mutability, r.ty))
type_ref_emitted (ty_is.Slice inner) = fields_back 10 (λ v. ty_is.Slice v) type_ref_slice_kept (omega arith) inner
type_ref_emitted (ty_is.Array a) =
    fields_back 10 (λ v. ty_is.Array (record { ty = v.1; len = v.0 })) type_ref_array_kept (omega arith) (a.len, a.ty)
type_ref_emitted (ty_is.Fn f) =
    fields_back 10 (λ v. ty_is.Fn (record {
      params = v.1.1.1.1.1;
      names = v.1.1.1.1.0;
      is_varargs = v.1.1.1.0;
      is_unsafe = v.1.1.0;
      abi = v.0;
      binder = v.1.0;
    })) type_ref_fn_kept (omega arith) (f.abi, (f.binder, (f.is_unsafe, (f.is_varargs, (f.names, f.params)))))
type_ref_emitted (ty_is.ImplTrait bounds) = fields_back 10 (λ v. ty_is.ImplTrait v.0) type_ref_impl_trait_kept (omega arith) (bounds, tt)
type_ref_emitted (ty_is.DynTrait bounds) = fields_back 10 (λ v. ty_is.DynTrait v.0) type_ref_dyn_trait_kept (omega arith) (bounds, tt)
type_ref_emitted (ty_is.Pattern inner p) = fields_back 10 (λ v. ty_is.Pattern v.1 v.0) type_ref_pattern_kept (omega arith) (p, inner)
type_ref_emitted (ty_is.TypeParam p) =
    fields_back 10 (λ v. ty_is.TypeParam (record { parent = v.1; local_id = v.0 })) type_ref_type_param_kept (omega arith)
    (p.local_id, p.parent)

pub type_ref_theorem : Faithful type_ref 11
type_ref_theorem = sums of_type_ref type_ref_kinds 10 type_ref_emitted
