-- Paths, and the arguments of their segments.
use Rattle.std.specs.Prelude.{ℕ, Bool, List, [], ◌∷◌, Option}
use Rattle.hir_store.specs.declared.ids.CrateId.{CrateId}
use Rattle.hir_store.specs.declared.ids.LangItemId.{LangItemId}
use Rattle.hir_store.specs.declared.ids.LifetimeRefId.{LifetimeRefId}
use Rattle.hir_store.specs.declared.ids.TypeRefId.{TypeRefId}
use Rattle.hir_store.specs.declared.name.Name.{Name}
use Rattle.hir_store.specs.declared.path.GenericArg.{GenericArg}
use Rattle.hir_store.specs.declared.path.GenericArgs.{GenericArgs}
use Rattle.hir_store.specs.declared.path.GenericArgsParentheses.{GenericArgsParentheses}
use Rattle.hir_store.specs.declared.path.ModPath.{ModPath}
use Rattle.hir_store.specs.declared.path.Path.{Path}
use Rattle.hir_store.specs.declared.path.PathKind.{PathKind}
use Rattle.hir_store.specs.declared.type_ref.ConstRef.{ConstRef}
use Rattle.hir_store.specs.declared.type_ref.TraitBoundModifier.{TraitBoundModifier}
use Rattle.hir_store.specs.declared.type_ref.TypeBound.{TypeBound}
use Rattle.hir_store.specs.declared.type_ref.UseArgRef.{UseArgRef}
use Rattle.thm_result_json.specs.Arguments.{FlatArgs, FlatBinding}
use Rattle.hir_store.specs.declared.path.GenericArg.TheVariants as arg_is
use Rattle.hir_store.specs.declared.path.Path.TheVariants as path_is
use Rattle.hir_store.specs.declared.path.PathKind.TheVariants as start_is
use Rattle.hir_store.specs.declared.type_ref.TypeBound.TheVariants as bound_is
use Rattle.hir_store.specs.declared.type_ref.UseArgRef.TheVariants as use_arg_is
use Rattle.serde_json.specs.Data.{Members}
use Rattle.thm_result_json.specs.Codec.{Codec, Fields, Kind, only_kind, count_codec, bool_codec, key, kind, kinds, last, listing, made}
use Rattle.thm_result_json.specs.Codec.{maybe, one}
use Rattle.thm_result_json.specs.Numbers.{const_ref, crate_id, lang_item, lifetime_id, name, type_id}
use Rattle.thm_result_json.specs.Words.{modifier, parentheses}
use Rattle.thm_result_json.specs.Arguments.{FlatArgs, FlatBinding, flat_list, args_of_flat}
use Rattle.thm_result_json.specs.Codec.{by}

-- `{"k": "Super", "modules": 0}`
abbrev pub path_kind_super : Fields ℕ
path_kind_super = kind "Super" (last "modules" count_codec)

-- `{"k": "DollarCrate", "root": 0}`
abbrev pub path_kind_dollar_crate : Fields CrateId
path_kind_dollar_crate = kind "DollarCrate" (last "root" crate_id)

abbrev pub of_path_kind : PathKind → Members
of_path_kind start_is.Plain = (only_kind "Plain").to tt
of_path_kind (start_is.Super modules) = (path_kind_super).to modules
of_path_kind start_is.Crate = (only_kind "Crate").to tt
of_path_kind start_is.Abs = (only_kind "Abs").to tt
of_path_kind (start_is.DollarCrate root) = (path_kind_dollar_crate).to root

abbrev pub path_kind_kinds : List (Kind PathKind)
path_kind_kinds =
    one "Plain" (λ v. start_is.Plain) (only_kind "Plain") ∷
    one "Super" (λ v. start_is.Super v) path_kind_super ∷
    one "Crate" (λ v. start_is.Crate) (only_kind "Crate") ∷
    one "Abs" (λ v. start_is.Abs) (only_kind "Abs") ∷
    one "DollarCrate" (λ v. start_is.DollarCrate v) path_kind_dollar_crate ∷ []

abbrev pub path_kind : Codec PathKind
path_kind = kinds of_path_kind path_kind_kinds

-- `{"kind": .., "segments": ["x"]}`
abbrev pub mod_path_fields : Fields (PathKind × (List Name))
mod_path_fields = key "kind" path_kind (last "segments" (listing name))

abbrev pub mod_path : Codec ModPath
mod_path = made (λ x. (x.kind, x.segments)) (λ v. record { kind = v.0; segments = v.1 }) mod_path_fields

-- `{"k": "Type", "ty": 0}`
abbrev pub generic_arg_type : Fields TypeRefId
generic_arg_type = kind "Type" (last "ty" type_id)

-- `{"k": "Lifetime", "lifetime": 0}`
abbrev pub generic_arg_lifetime : Fields LifetimeRefId
generic_arg_lifetime = kind "Lifetime" (last "lifetime" lifetime_id)

-- `{"expr": 0, "k": "Const"}`
abbrev pub generic_arg_const : Fields (ConstRef × Unit {0})
generic_arg_const = key "expr" const_ref (only_kind "Const")

abbrev pub of_generic_arg : GenericArg → Members
of_generic_arg (arg_is.Type_ ty) = (generic_arg_type).to ty
of_generic_arg (arg_is.Lifetime lifetime) = (generic_arg_lifetime).to lifetime
of_generic_arg (arg_is.Const value) = (generic_arg_const).to (value, tt)

abbrev pub generic_arg_kinds : List (Kind GenericArg)
generic_arg_kinds =
    one "Type" (λ v. arg_is.Type_ v) generic_arg_type ∷
    one "Lifetime" (λ v. arg_is.Lifetime v) generic_arg_lifetime ∷
    one "Const" (λ v. arg_is.Const v.0) generic_arg_const ∷ []

abbrev pub generic_arg : Codec GenericArg
generic_arg = kinds of_generic_arg generic_arg_kinds

-- `{"k": "Name", "name": "x"}`
abbrev pub use_arg_name : Fields Name
use_arg_name = kind "Name" (last "name" name)

-- `{"k": "Lifetime", "lifetime": 0}`
abbrev pub use_arg_lifetime : Fields LifetimeRefId
use_arg_lifetime = kind "Lifetime" (last "lifetime" lifetime_id)

abbrev pub of_use_arg : UseArgRef → Members
of_use_arg (use_arg_is.Name called) = (use_arg_name).to called
of_use_arg (use_arg_is.Lifetime lifetime) = (use_arg_lifetime).to lifetime

abbrev pub use_arg_kinds : List (Kind UseArgRef)
use_arg_kinds =
    one "Name" (λ v. use_arg_is.Name v) use_arg_name ∷
    one "Lifetime" (λ v. use_arg_is.Lifetime v) use_arg_lifetime ∷ []

abbrev pub use_arg : Codec UseArgRef
use_arg = kinds of_use_arg use_arg_kinds

-- `{"k": "Path", "modifier": "None", "path": 0}`
abbrev pub bound_path : Fields (TraitBoundModifier × TypeRefId)
bound_path = kind "Path" (key "modifier" modifier (last "path" type_id))

-- `{"k": "ForLifetime", "lifetimes": ["x"], "path": 0}`
abbrev pub bound_for_lifetime : Fields ((List Name) × TypeRefId)
bound_for_lifetime = kind "ForLifetime" (key "lifetimes" (listing name) (last "path" type_id))

-- `{"k": "Lifetime", "lifetime": 0}`
abbrev pub bound_lifetime : Fields LifetimeRefId
bound_lifetime = kind "Lifetime" (last "lifetime" lifetime_id)

-- `{"args": [..], "k": "Use"}`
abbrev pub bound_use : Fields ((List UseArgRef) × Unit {0})
bound_use = key "args" (listing use_arg) (only_kind "Use")

abbrev pub of_bound : TypeBound → Members
of_bound (bound_is.Path ty mark) = (bound_path).to (mark, ty)
of_bound (bound_is.ForLifetime names ty) = (bound_for_lifetime).to (names, ty)
of_bound (bound_is.Lifetime lifetime) = (bound_lifetime).to lifetime
of_bound (bound_is.Use args) = (bound_use).to (args, tt)
of_bound bound_is.Error = (only_kind "Error").to tt

abbrev pub bound_kinds : List (Kind TypeBound)
bound_kinds =
    one "Path" (λ v. bound_is.Path v.1 v.0) bound_path ∷
    one "ForLifetime" (λ v. bound_is.ForLifetime v.0 v.1) bound_for_lifetime ∷
    one "Lifetime" (λ v. bound_is.Lifetime v) bound_lifetime ∷
    one "Use" (λ v. bound_is.Use v.0) bound_use ∷
    one "Error" (λ v. bound_is.Error) (only_kind "Error") ∷ []

abbrev pub bound : Codec TypeBound
bound = kinds of_bound bound_kinds

-- `{"args": null, "bounds": [..], "name": "x", "type_ref": null}`
abbrev pub flat_binding_fields : Fields ((Option ℕ) × ((List TypeBound) × (Name × (Option TypeRefId))))
flat_binding_fields = key "args" (maybe count_codec) (key "bounds" (listing bound) (key "name" name (last "type_ref" (maybe type_id))))

abbrev pub flat_binding : Codec FlatBinding
flat_binding =
    made (λ x. (x.args, (x.bounds, (x.name, x.type_ref)))) (λ v. record {
      name = v.1.1.0;
      args = v.0;
      type_ref = v.1.1.1;
      bounds = v.1.0;
    }) flat_binding_fields

-- `{"args": [..], "bindings": [..], "has_self_type": false, "parenthesized": "No"}`
abbrev pub flat_args_fields : Fields ((List GenericArg) × ((List FlatBinding) × (Bool × GenericArgsParentheses)))
flat_args_fields =
    key "args" (listing generic_arg)
    (key "bindings" (listing flat_binding)
    (key "has_self_type" bool_codec
    (last "parenthesized"
    parentheses)))

abbrev pub flat_args : Codec FlatArgs
flat_args =
    made (λ x. (x.args, (x.bindings, (x.has_self_type, x.parenthesized)))) (λ v. record {
      args = v.0;
      has_self_type = v.1.1.0;
      bindings =
          v.1.0;
      parenthesized = v.1.1.1;
    }) flat_args_fields

-- arguments, as the list that ends with them
abbrev pub generic_args : Codec GenericArgs
generic_args = by flat_list args_of_flat (listing flat_args)

-- `{"k": "BarePath", "kind": .., "segments": ["x"]}`
abbrev pub path_bare_path : Fields (PathKind × (List Name))
path_bare_path = kind "BarePath" (key "kind" path_kind (last "segments" (listing name)))

-- `{"generic_args": [null], "k": "Normal", "kind": .., "segments": ["x"], "type_anchor": null}`
abbrev pub path_normal : Fields ((List (Option GenericArgs)) × (PathKind × ((List Name) × (Option TypeRefId))))
path_normal =
    key "generic_args" (listing (maybe generic_args))
    (kind "Normal"
    (key "kind" path_kind
    (key "segments" (listing name)
    (last "type_anchor" (maybe type_id)))))

-- `{"item": 0, "k": "LangItem"}`
abbrev pub path_lang_item : Fields (LangItemId × Unit {0})
path_lang_item = key "item" lang_item (only_kind "LangItem")

abbrev pub of_path : Path → Members
of_path (path_is.BarePath p) = (path_bare_path).to (p.kind, p.segments)
of_path (path_is.Normal p) = (path_normal).to (p.generic_args, (p.mod_path.kind, (p.mod_path.segments, p.type_anchor)))
of_path (path_is.LangItem item_number) = (path_lang_item).to (item_number, tt)

abbrev pub path_kinds : List (Kind Path)
path_kinds =
    one "BarePath" (λ v. path_is.BarePath (record { kind = v.0; segments = v.1 })) path_bare_path ∷
    one "Normal" (λ v. path_is.Normal (record {
      type_anchor = v.1.1.1;
      mod_path = record { kind = v.1.0; segments = v.1.1.0 };
      generic_args = v.0;
    })) path_normal ∷
    one "LangItem" (λ v. path_is.LangItem v.0) path_lang_item ∷ []

abbrev pub path : Codec Path
path = kinds of_path path_kinds
