-- What each entry function answers, beside the store and the source map.
use Rattle.std.specs.Prelude.{Bool, List, Option, Some}
use Rattle.hir_store.specs.Pointers.{Pointer}
use Rattle.hir_store.specs.Stored.{SourceMap, Store}
use Rattle.hir_store.specs.declared.generics.GenericParams.{GenericParams}
use Rattle.hir_store.specs.declared.ids.BindingId.{BindingId}
use Rattle.hir_store.specs.declared.ids.PatId.{PatId}
use Rattle.hir_store.specs.declared.ids.TypeRefId.{TypeRefId}
use Rattle.hir_store.specs.declared.param.Param.{Param}
use Rattle.hir_store.specs.declared.path.Path.{Path}
use Rattle.hir_store.specs.declared.type_ref.TraitRef.{TraitRef}
use Rattle.hir_store.specs.declared.type_ref.TypeBound.{TypeBound}
use Rattle.thm_result_json.specs.Codec.{Codec, Fields, bool_codec, by, key, last, listing, made, maybe, version}
use Rattle.thm_result_json.specs.Maps.{source_map, store}
use Rattle.thm_result_json.specs.Numbers.{binding_id, pat_id, pointer, type_id}
use Rattle.thm_result_json.specs.Params.{generic_params}
use Rattle.thm_result_json.specs.Paths.{bound, path}

-- `{"formal": 0, "user_written": 0}`
abbrev pub formal_fields : {T : Type 0} → Codec T → Fields (T × T)
formal_fields c = key "formal" c (last "user_written" c)

abbrev pub formal : {T : Type 0} → Codec T → Codec (Param T)
formal c = made (λ x. (x.formal, x.user_written)) (λ v. record { formal = v.0; user_written = v.1 }) (formal_fields c)

-- a trait, by the path that names it
abbrev pub trait_ref : Codec TraitRef
trait_ref = by (λ t. t.path) (λ p. Some (record { path = p })) type_id

-- a body: the store, the source map, its parameters, `self`, and the node of `self`
abbrev pub BodyResult : Type 0
BodyResult = Store × SourceMap × List (Param PatId) × Option (Param BindingId) × Option Pointer

-- `{"format": 1, "params": [..], "self_node": null, "self_param": null, "source_map": .., "store": ..}`
abbrev pub body_fields :
    Fields (List (Param PatId) × (Option Pointer × (Option (Param BindingId) × (SourceMap × Store))))
body_fields =
    version "format" 1
    (key "params" (listing (formal pat_id))
    (key "self_node" (maybe pointer)
    (key "self_param" (maybe (formal binding_id))
    (key "source_map" source_map
    (last "store" store)))))

abbrev pub body : Codec BodyResult
body =
    made (λ r. (r.2, (r.4, (r.3, (r.1, r.0))))) (λ v. (v.1.1.1.1, v.1.1.1.0, v.0, v.1.1.0, v.1.0)) body_fields

-- a type: the store, the source map, and the type
abbrev pub TypeResult : Type 0
TypeResult = Store × SourceMap × TypeRefId

-- `{"format": 1, "source_map": .., "store": .., "type_ref": 0}`
abbrev pub type_fields : Fields (SourceMap × (Store × TypeRefId))
type_fields = version "format" 1 (key "source_map" source_map (key "store" store (last "type_ref" type_id)))

abbrev pub type_result : Codec TypeResult
type_result = made (λ r. (r.1, (r.0, r.2))) (λ v. (v.1.0, v.0, v.1.1)) type_fields

-- a path: the store, the source map, and the path, if it isn't refused
abbrev pub PathResult : Type 0
PathResult = Store × SourceMap × Option Path

-- `{"format": 1, "path": null, "source_map": .., "store": ..}`
abbrev pub path_fields : Fields (Option Path × (SourceMap × Store))
path_fields = version "format" 1 (key "path" (maybe path) (key "source_map" source_map (last "store" store)))

abbrev pub path_result : Codec PathResult
path_result = made (λ r. (r.2, (r.1, r.0))) (λ v. (v.1.1, v.1.0, v.0)) path_fields

-- parameters of an item, or a trait: the store, the source map, and the parameters
abbrev pub GenericsResult : Type 0
GenericsResult = Store × SourceMap × GenericParams

-- `{"format": 1, "generic_params": .., "source_map": .., "store": ..}`
abbrev pub generics_fields : Fields (GenericParams × (SourceMap × Store))
generics_fields = version "format" 1 (key "generic_params" generic_params (key "source_map" source_map (last "store" store)))

abbrev pub generics : Codec GenericsResult
generics = made (λ r. (r.2, (r.1, r.0))) (λ v. (v.1.1, v.1.0, v.0)) generics_fields

-- an `impl`: the store, the source map, what it is for, its trait, and its parameters
abbrev pub ImplResult : Type 0
ImplResult = Store × SourceMap × TypeRefId × Option TraitRef × GenericParams

-- `{"format": 1, "generic_params": .., "self_ty": 0, "source_map": .., "store": .., "trait_ref": null}`
abbrev pub impl_fields : Fields (GenericParams × (TypeRefId × (SourceMap × (Store × Option TraitRef))))
impl_fields =
    version "format" 1
    (key "generic_params" generic_params
    (key "self_ty" type_id
    (key "source_map" source_map
    (key "store" store
    (last "trait_ref" (maybe trait_ref))))))

abbrev pub impl_result : Codec ImplResult
impl_result = made (λ r. (r.4, (r.2, (r.1, (r.0, r.3))))) (λ v. (v.1.1.1.0, v.1.1.0, v.1.0, v.1.1.1.1, v.0)) impl_fields

-- a type alias: the store, the source map, its parameters, its bounds, and its type
abbrev pub AliasResult : Type 0
AliasResult = Store × SourceMap × GenericParams × List TypeBound × Option TypeRefId

-- `{"bounds": [..], "format": 1, "generic_params": .., "source_map": .., "store": .., "type_ref": null}`
abbrev pub alias_fields : Fields (List TypeBound × (GenericParams × (SourceMap × (Store × Option TypeRefId))))
alias_fields =
    key "bounds" (listing bound)
    (version "format" 1
    (key "generic_params" generic_params
    (key "source_map" source_map
    (key "store" store
    (last "type_ref" (maybe type_id))))))

abbrev pub alias : Codec AliasResult
alias = made (λ r. (r.3, (r.2, (r.1, (r.0, r.4))))) (λ v. (v.1.1.1.0, v.1.1.0, v.1.0, v.0, v.1.1.1.1)) alias_fields

-- A function: the store, the source map, its generic parameters, the types of its parameters, what it returns, whether it has a `self`,
-- and whether it is variadic.
abbrev pub FunctionResult : Type 0
FunctionResult = Store × SourceMap × GenericParams × List TypeRefId × Option TypeRefId × Bool × Bool

-- `{"args": [0], "format": 1, "generic_params": .., "has_self": false, "has_variadic": false, "ret": null, "source_map": .., "store": ..}`
abbrev pub function_fields :
    Fields (List TypeRefId × (GenericParams × (Bool × (Bool × (Option TypeRefId × (SourceMap × Store))))))
function_fields =
    key "args" (listing type_id)
    (version "format" 1
    (key "generic_params" generic_params
    (key "has_self" bool_codec
    (key "has_variadic" bool_codec
    (key "ret" (maybe type_id)
    (key "source_map" source_map
    (last "store" store)))))))

abbrev pub function : Codec FunctionResult
function =
    made (λ r. (r.3, (r.2, (r.5, (r.6, (r.4, (r.1, r.0)))))))
    (λ v. (v.1.1.1.1.1.1, v.1.1.1.1.1.0, v.1.0, v.0, v.1.1.1.1.0, v.1.1.0, v.1.1.1.0)) function_fields
