-- Lifetimes and types.
use Rattle.std.specs.Prelude.{Bool, List, [], ◌∷◌, Option}
use Rattle.hir_store.specs.declared.hir.Mutability.{Mutability}
use Rattle.hir_store.specs.declared.ids.AdtId.{AdtId}
use Rattle.hir_store.specs.declared.ids.ConstId.{ConstId}
use Rattle.hir_store.specs.declared.ids.FunctionId.{FunctionId}
use Rattle.hir_store.specs.declared.ids.GenericDefId.{GenericDefId}
use Rattle.hir_store.specs.declared.ids.ImplId.{ImplId}
use Rattle.hir_store.specs.declared.ids.LifetimeRefId.{LifetimeRefId}
use Rattle.hir_store.specs.declared.ids.LocalTypeOrConstParamId.{LocalTypeOrConstParamId}
use Rattle.hir_store.specs.declared.ids.PatId.{PatId}
use Rattle.hir_store.specs.declared.ids.StaticId.{StaticId}
use Rattle.hir_store.specs.declared.ids.TraitId.{TraitId}
use Rattle.hir_store.specs.declared.ids.TypeAliasId.{TypeAliasId}
use Rattle.hir_store.specs.declared.ids.TypeParamId.{TypeParamId}
use Rattle.hir_store.specs.declared.ids.TypeRefId.{TypeRefId}
use Rattle.hir_store.specs.declared.name.Name.{Name}
use Rattle.hir_store.specs.declared.path.Path.{Path}
use Rattle.hir_store.specs.declared.type_ref.ConstRef.{ConstRef}
use Rattle.hir_store.specs.declared.type_ref.ExternAbi.{ExternAbi}
use Rattle.hir_store.specs.declared.type_ref.LifetimeRef.{LifetimeRef}
use Rattle.hir_store.specs.declared.type_ref.TypeBound.{TypeBound}
use Rattle.hir_store.specs.declared.type_ref.TypeRef.{TypeRef}
use Rattle.hir_store.specs.declared.ids.GenericDefId.TheVariants as def_is
use Rattle.hir_store.specs.declared.type_ref.LifetimeRef.TheVariants as lifetime_is
use Rattle.hir_store.specs.declared.type_ref.TypeRef.TheVariants as ty_is
use Rattle.serde_json.specs.Data.{Members}
use Rattle.thm_result_json.specs.Codec.{Codec, Fields, Kind, only_kind, bool_codec, key, kind, kinds, last, listing, made, maybe, one}
use Rattle.thm_result_json.specs.Numbers.{adt_id, alias_id, const_id, const_ref, function_id, impl_id, lifetime_id, name, pat_id, static_id}
use Rattle.thm_result_json.specs.Numbers.{trait_id, type_id, type_place}
use Rattle.thm_result_json.specs.Paths.{bound, path}
use Rattle.thm_result_json.specs.Words.{abi, mutability}

-- `{"k": "Named", "name": "x"}`
abbrev pub lifetime_named : Fields Name
lifetime_named = kind "Named" (last "name" name)

abbrev pub of_lifetime : LifetimeRef → Members
of_lifetime (lifetime_is.Named called) = (lifetime_named).to called
of_lifetime lifetime_is.Static = (only_kind "Static").to tt
of_lifetime lifetime_is.Placeholder = (only_kind "Placeholder").to tt
of_lifetime lifetime_is.Error = (only_kind "Error").to tt

abbrev pub lifetime_kinds : List (Kind LifetimeRef)
lifetime_kinds =
    one "Named" (λ v. lifetime_is.Named v) lifetime_named ∷
    one "Static" (λ v. lifetime_is.Static) (only_kind "Static") ∷
    one "Placeholder" (λ v. lifetime_is.Placeholder) (only_kind "Placeholder") ∷
    one "Error" (λ v. lifetime_is.Error) (only_kind "Error") ∷ []

abbrev pub lifetime : Codec LifetimeRef
lifetime = kinds of_lifetime lifetime_kinds

-- `{"id": 0, "k": "AdtId"}`
abbrev pub generic_def_adt_id : Fields (AdtId × Unit {0})
generic_def_adt_id = key "id" adt_id (only_kind "AdtId")

-- `{"id": 0, "k": "ConstId"}`
abbrev pub generic_def_const_id : Fields (ConstId × Unit {0})
generic_def_const_id = key "id" const_id (only_kind "ConstId")

-- `{"id": 0, "k": "FunctionId"}`
abbrev pub generic_def_function_id : Fields (FunctionId × Unit {0})
generic_def_function_id = key "id" function_id (only_kind "FunctionId")

-- `{"id": 0, "k": "ImplId"}`
abbrev pub generic_def_impl_id : Fields (ImplId × Unit {0})
generic_def_impl_id = key "id" impl_id (only_kind "ImplId")

-- `{"id": 0, "k": "StaticId"}`
abbrev pub generic_def_static_id : Fields (StaticId × Unit {0})
generic_def_static_id = key "id" static_id (only_kind "StaticId")

-- `{"id": 0, "k": "TraitId"}`
abbrev pub generic_def_trait_id : Fields (TraitId × Unit {0})
generic_def_trait_id = key "id" trait_id (only_kind "TraitId")

-- `{"id": 0, "k": "TypeAliasId"}`
abbrev pub generic_def_type_alias_id : Fields (TypeAliasId × Unit {0})
generic_def_type_alias_id = key "id" alias_id (only_kind "TypeAliasId")

abbrev pub of_generic_def : GenericDefId → Members
of_generic_def (def_is.AdtId number) = (generic_def_adt_id).to (number, tt)
of_generic_def (def_is.ConstId number) = (generic_def_const_id).to (number, tt)
of_generic_def (def_is.FunctionId number) = (generic_def_function_id).to (number, tt)
of_generic_def (def_is.ImplId number) = (generic_def_impl_id).to (number, tt)
of_generic_def (def_is.StaticId number) = (generic_def_static_id).to (number, tt)
of_generic_def (def_is.TraitId number) = (generic_def_trait_id).to (number, tt)
of_generic_def (def_is.TypeAliasId number) = (generic_def_type_alias_id).to (number, tt)

abbrev pub generic_def_kinds : List (Kind GenericDefId)
generic_def_kinds =
    one "AdtId" (λ v. def_is.AdtId v.0) generic_def_adt_id ∷
    one "ConstId" (λ v. def_is.ConstId v.0) generic_def_const_id ∷
    one "FunctionId" (λ v. def_is.FunctionId v.0) generic_def_function_id ∷
    one "ImplId" (λ v. def_is.ImplId v.0) generic_def_impl_id ∷
    one "StaticId" (λ v. def_is.StaticId v.0) generic_def_static_id ∷
    one "TraitId" (λ v. def_is.TraitId v.0) generic_def_trait_id ∷
    one "TypeAliasId" (λ v. def_is.TypeAliasId v.0) generic_def_type_alias_id ∷ []

abbrev pub generic_def : Codec GenericDefId
generic_def = kinds of_generic_def generic_def_kinds

-- `{"local_id": 0, "parent": ..}`
abbrev pub type_param_id_fields : Fields (LocalTypeOrConstParamId × GenericDefId)
type_param_id_fields = key "local_id" type_place (last "parent" generic_def)

abbrev pub type_param_id : Codec TypeParamId
type_param_id = made (λ x. (x.local_id, x.parent)) (λ v. record { parent = v.1; local_id = v.0 }) type_param_id_fields

-- `{"k": "Tuple", "types": [0]}`
abbrev pub type_ref_tuple : Fields (List TypeRefId)
type_ref_tuple = kind "Tuple" (last "types" (listing type_id))

-- `{"k": "Path", "path": ..}`
abbrev pub type_ref_path : Fields Path
type_ref_path = kind "Path" (last "path" path)

-- `{"k": "RawPtr", "mutability": "shared", "ty": 0}`
abbrev pub type_ref_raw_ptr : Fields (Mutability × TypeRefId)
type_ref_raw_ptr = kind "RawPtr" (key "mutability" mutability (last "ty" type_id))

-- `{"k": "Reference", "lifetime": null, "mutability": "shared", "ty": 0}`
abbrev pub type_ref_reference : Fields ((Option LifetimeRefId) × (Mutability × TypeRefId))
type_ref_reference = kind "Reference" (key "lifetime" (maybe lifetime_id) (key "mutability" mutability (last "ty" type_id)))

-- `{"k": "Slice", "ty": 0}`
abbrev pub type_ref_slice : Fields TypeRefId
type_ref_slice = kind "Slice" (last "ty" type_id)

-- `{"k": "Array", "len": 0, "ty": 0}`
abbrev pub type_ref_array : Fields (ConstRef × TypeRefId)
type_ref_array = kind "Array" (key "len" const_ref (last "ty" type_id))

-- `{"abi": "Rust", "binder": null, "is_unsafe": false, "is_varargs": false, "k": "Fn", "names": [null], "params": [0]}`
abbrev pub type_ref_fn : Fields (ExternAbi × ((Option (List Name)) × (Bool × (Bool × ((List (Option Name)) × (List TypeRefId))))))
type_ref_fn =
    key "abi" abi
    (key "binder" (maybe (listing name))
    (key "is_unsafe" bool_codec
    (key "is_varargs" bool_codec
    (kind "Fn"
    (key "names" (listing (maybe name))
    (last "params" (listing type_id)))))))

-- `{"bounds": [..], "k": "ImplTrait"}`
abbrev pub type_ref_impl_trait : Fields ((List TypeBound) × Unit {0})
type_ref_impl_trait = key "bounds" (listing bound) (only_kind "ImplTrait")

-- `{"bounds": [..], "k": "DynTrait"}`
abbrev pub type_ref_dyn_trait : Fields ((List TypeBound) × Unit {0})
type_ref_dyn_trait = key "bounds" (listing bound) (only_kind "DynTrait")

-- `{"k": "Pattern", "pat": 0, "ty": 0}`
abbrev pub type_ref_pattern : Fields (PatId × TypeRefId)
type_ref_pattern = kind "Pattern" (key "pat" pat_id (last "ty" type_id))

-- `{"k": "TypeParam", "local_id": 0, "parent": ..}`
abbrev pub type_ref_type_param : Fields (LocalTypeOrConstParamId × GenericDefId)
type_ref_type_param = kind "TypeParam" (key "local_id" type_place (last "parent" generic_def))

abbrev pub of_type_ref : TypeRef → Members
of_type_ref ty_is.Never = (only_kind "Never").to tt
of_type_ref ty_is.Placeholder = (only_kind "Placeholder").to tt
of_type_ref ty_is.Error = (only_kind "Error").to tt
of_type_ref (ty_is.Tuple types) = (type_ref_tuple).to types
of_type_ref (ty_is.Path p) = (type_ref_path).to p
of_type_ref (ty_is.RawPtr inner mark) = (type_ref_raw_ptr).to (mark, inner)
of_type_ref (ty_is.Reference r) = (type_ref_reference).to (r.lifetime, (r.mutability, r.ty))
of_type_ref (ty_is.Slice inner) = (type_ref_slice).to inner
of_type_ref (ty_is.Array a) = (type_ref_array).to (a.len, a.ty)
of_type_ref (ty_is.Fn f) = (type_ref_fn).to (f.abi, (f.binder, (f.is_unsafe, (f.is_varargs, (f.names, f.params)))))
of_type_ref (ty_is.ImplTrait bounds) = (type_ref_impl_trait).to (bounds, tt)
of_type_ref (ty_is.DynTrait bounds) = (type_ref_dyn_trait).to (bounds, tt)
of_type_ref (ty_is.Pattern inner p) = (type_ref_pattern).to (p, inner)
of_type_ref (ty_is.TypeParam p) = (type_ref_type_param).to (p.local_id, p.parent)

abbrev pub type_ref_kinds : List (Kind TypeRef)
type_ref_kinds =
    one "Never" (λ v. ty_is.Never) (only_kind "Never") ∷
    one "Placeholder" (λ v. ty_is.Placeholder) (only_kind "Placeholder") ∷
    one "Error" (λ v. ty_is.Error) (only_kind "Error") ∷
    one "Tuple" (λ v. ty_is.Tuple v) type_ref_tuple ∷
    one "Path" (λ v. ty_is.Path v) type_ref_path ∷
    one "RawPtr" (λ v. ty_is.RawPtr v.1 v.0) type_ref_raw_ptr ∷
    one "Reference" (λ v. ty_is.Reference (record { ty = v.1.1; lifetime = v.0; mutability = v.1.0 })) type_ref_reference ∷
    one "Slice" (λ v. ty_is.Slice v) type_ref_slice ∷
    one "Array" (λ v. ty_is.Array (record { ty = v.1; len = v.0 })) type_ref_array ∷
    one "Fn" (λ v. ty_is.Fn (record {
      params = v.1.1.1.1.1;
      names = v.1.1.1.1.0;
      is_varargs = v.1.1.1.0;
      is_unsafe = v.1.1.0;
      abi = v.0;
      binder = v.1.0;
    })) type_ref_fn ∷
    one "ImplTrait" (λ v. ty_is.ImplTrait v.0) type_ref_impl_trait ∷
    one "DynTrait" (λ v. ty_is.DynTrait v.0) type_ref_dyn_trait ∷
    one "Pattern" (λ v. ty_is.Pattern v.1 v.0) type_ref_pattern ∷
    one "TypeParam" (λ v. ty_is.TypeParam (record { parent = v.1; local_id = v.0 })) type_ref_type_param ∷ []

abbrev pub type_ref : Codec TypeRef
type_ref = kinds of_type_ref type_ref_kinds
