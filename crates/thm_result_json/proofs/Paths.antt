-- Paths read back.
use Rattle.std.proofs.Common.{arith, refl}
use Rattle.hir_store.specs.declared.path.GenericArg.{GenericArg}
use Rattle.hir_store.specs.declared.path.Path.{Path}
use Rattle.hir_store.specs.declared.path.PathKind.{PathKind}
use Rattle.hir_store.specs.declared.type_ref.TypeBound.{TypeBound}
use Rattle.hir_store.specs.declared.type_ref.UseArgRef.{UseArgRef}
use Rattle.hir_store.specs.declared.path.GenericArg.TheVariants as arg_is
use Rattle.hir_store.specs.declared.path.Path.TheVariants as path_is
use Rattle.hir_store.specs.declared.path.PathKind.TheVariants as start_is
use Rattle.hir_store.specs.declared.type_ref.TypeBound.TheVariants as bound_is
use Rattle.hir_store.specs.declared.type_ref.UseArgRef.TheVariants as use_arg_is
use Rattle.thm_result_json.specs.Codec.{Faithful}
use Rattle.thm_result_json.specs.Paths.{bound, bound_for_lifetime, bound_kinds, bound_lifetime, bound_path, bound_use, flat_args}
use Rattle.thm_result_json.specs.Paths.{flat_args_fields, flat_binding, flat_binding_fields, generic_arg, generic_arg_const}
use Rattle.thm_result_json.specs.Paths.{generic_arg_kinds, generic_arg_lifetime, generic_arg_type, generic_args, mod_path, mod_path_fields}
use Rattle.thm_result_json.specs.Paths.{of_bound, of_generic_arg, of_path, of_path_kind, of_use_arg, path, path_bare_path, path_kind}
use Rattle.thm_result_json.specs.Paths.{path_kind_dollar_crate, path_kind_kinds, path_kind_super, path_kinds, path_lang_item, path_normal}
use Rattle.thm_result_json.specs.Paths.{use_arg, use_arg_kinds, use_arg_lifetime, use_arg_name}
use Rattle.thm_result_json.proofs.Codecs.{Kept, Emitted, alone_keeps, counts, flags, keys, kind_keeps, lasts, listing_faithful, lists}
use Rattle.thm_result_json.proofs.Codecs.{makes, maybes, reads}
use Rattle.thm_result_json.proofs.Codecs.{sums}
use Rattle.thm_result_json.proofs.Codecs.{fields_back}
use Rattle.thm_result_json.proofs.Numbers.{const_ref_theorem, crate_id_theorem, lang_item_theorem, lifetime_id_theorem, name_theorem}
use Rattle.thm_result_json.proofs.Numbers.{type_id_theorem}
use Rattle.thm_result_json.proofs.Words.{modifier_theorem, parentheses_theorem}
use Rattle.thm_result_json.specs.Arguments.{flat_list, args_of_flat}
use Rattle.thm_result_json.proofs.Codecs.{by_mapping}
use Rattle.thm_result_json.proofs.Arguments.{flat_back}

path_kind_super_kept : Kept path_kind_super 0
path_kind_super_kept = kind_keeps "Super" (lasts "modules" (reads counts)) (λ d x. refl)

path_kind_dollar_crate_kept : Kept path_kind_dollar_crate 0
path_kind_dollar_crate_kept = kind_keeps "DollarCrate" (lasts "root" (reads crate_id_theorem)) (λ d x. refl)

path_kind_emitted : (x : PathKind) → Emitted path_kind_kinds (of_path_kind x) x 0
path_kind_emitted start_is.Plain = fields_back 0 (λ v. start_is.Plain) (alone_keeps "Plain") (omega arith) tt
path_kind_emitted (start_is.Super modules) = fields_back 0 (λ v. start_is.Super v) path_kind_super_kept (omega arith) modules
path_kind_emitted start_is.Crate = fields_back 0 (λ v. start_is.Crate) (alone_keeps "Crate") (omega arith) tt
path_kind_emitted start_is.Abs = fields_back 0 (λ v. start_is.Abs) (alone_keeps "Abs") (omega arith) tt
path_kind_emitted (start_is.DollarCrate root) = fields_back 0 (λ v. start_is.DollarCrate v) path_kind_dollar_crate_kept (omega arith) root

pub path_kind_theorem : Faithful path_kind 1
path_kind_theorem = sums of_path_kind path_kind_kinds 0 path_kind_emitted

mod_path_kept : Kept mod_path_fields 1
mod_path_kept = keys "kind" (reads path_kind_theorem) (lasts "segments" (reads (listing_faithful name_theorem))) (λ d x. refl)

pub mod_path_theorem : Faithful mod_path 2
mod_path_theorem = makes (λ x. (x.kind, x.segments)) (λ v. record { kind = v.0; segments = v.1 }) mod_path_kept (λ x. refl)

generic_arg_type_kept : Kept generic_arg_type 0
generic_arg_type_kept = kind_keeps "Type" (lasts "ty" (reads type_id_theorem)) (λ d x. refl)

generic_arg_lifetime_kept : Kept generic_arg_lifetime 0
generic_arg_lifetime_kept = kind_keeps "Lifetime" (lasts "lifetime" (reads lifetime_id_theorem)) (λ d x. refl)

generic_arg_const_kept : Kept generic_arg_const 0
generic_arg_const_kept = keys "expr" (reads const_ref_theorem) (alone_keeps "Const") (λ d x. refl)

generic_arg_emitted : (x : GenericArg) → Emitted generic_arg_kinds (of_generic_arg x) x 0
generic_arg_emitted (arg_is.Type_ ty) = fields_back 0 (λ v. arg_is.Type_ v) generic_arg_type_kept (omega arith) ty
generic_arg_emitted (arg_is.Lifetime lifetime) = fields_back 0 (λ v. arg_is.Lifetime v) generic_arg_lifetime_kept (omega arith) lifetime
generic_arg_emitted (arg_is.Const value) = fields_back 0 (λ v. arg_is.Const v.0) generic_arg_const_kept (omega arith) (value, tt)

pub generic_arg_theorem : Faithful generic_arg 1
generic_arg_theorem = sums of_generic_arg generic_arg_kinds 0 generic_arg_emitted

use_arg_name_kept : Kept use_arg_name 0
use_arg_name_kept = kind_keeps "Name" (lasts "name" (reads name_theorem)) (λ d x. refl)

use_arg_lifetime_kept : Kept use_arg_lifetime 0
use_arg_lifetime_kept = kind_keeps "Lifetime" (lasts "lifetime" (reads lifetime_id_theorem)) (λ d x. refl)

use_arg_emitted : (x : UseArgRef) → Emitted use_arg_kinds (of_use_arg x) x 0
use_arg_emitted (use_arg_is.Name called) = fields_back 0 (λ v. use_arg_is.Name v) use_arg_name_kept (omega arith) called
use_arg_emitted (use_arg_is.Lifetime lifetime) = fields_back 0 (λ v. use_arg_is.Lifetime v) use_arg_lifetime_kept (omega arith) lifetime

pub use_arg_theorem : Faithful use_arg 1
use_arg_theorem = sums of_use_arg use_arg_kinds 0 use_arg_emitted

bound_path_kept : Kept bound_path 0
bound_path_kept =
    kind_keeps "Path" (keys "modifier" (reads modifier_theorem) (lasts "path" (reads type_id_theorem)) (λ d x. refl)) (λ d x. refl)

bound_for_lifetime_kept : Kept bound_for_lifetime 1
bound_for_lifetime_kept =
    kind_keeps "ForLifetime"
    (keys "lifetimes" (reads (listing_faithful name_theorem))
    (lasts "path" (reads type_id_theorem)) (λ d x. refl)) (λ d x. refl)

bound_lifetime_kept : Kept bound_lifetime 0
bound_lifetime_kept = kind_keeps "Lifetime" (lasts "lifetime" (reads lifetime_id_theorem)) (λ d x. refl)

bound_use_kept : Kept bound_use 2
bound_use_kept = keys "args" (reads (listing_faithful use_arg_theorem)) (alone_keeps "Use") (λ d x. refl)

bound_emitted : (x : TypeBound) → Emitted bound_kinds (of_bound x) x 2
bound_emitted (bound_is.Path ty mark) = fields_back 2 (λ v. bound_is.Path v.1 v.0) bound_path_kept (omega arith) (mark, ty)
bound_emitted (bound_is.ForLifetime names ty) =
    fields_back 2 (λ v. bound_is.ForLifetime v.0 v.1) bound_for_lifetime_kept (omega arith) (names, ty)
bound_emitted (bound_is.Lifetime lifetime) = fields_back 2 (λ v. bound_is.Lifetime v) bound_lifetime_kept (omega arith) lifetime
bound_emitted (bound_is.Use args) = fields_back 2 (λ v. bound_is.Use v.0) bound_use_kept (omega arith) (args, tt)
bound_emitted bound_is.Error = fields_back 2 (λ v. bound_is.Error) (alone_keeps "Error") (omega arith) tt

pub bound_theorem : Faithful bound 3
bound_theorem = sums of_bound bound_kinds 2 bound_emitted

flat_binding_kept : Kept flat_binding_fields 4
flat_binding_kept =
    keys "args" (maybes counts)
    (keys "bounds" (reads (listing_faithful bound_theorem))
    (keys "name" (reads name_theorem)
    (lasts "type_ref" (maybes type_id_theorem)) (λ d x. refl)) (λ d x. refl)) (λ d x. refl)

pub flat_binding_theorem : Faithful flat_binding 5
flat_binding_theorem =
    makes (λ x. (x.args, (x.bounds, (x.name, x.type_ref)))) (λ v. record {
      name = v.1.1.0;
      args = v.0;
      type_ref = v.1.1.1;
      bounds = v.1.0;
    }) flat_binding_kept (λ x. refl)

flat_args_kept : Kept flat_args_fields 6
flat_args_kept =
    keys "args" (reads (listing_faithful generic_arg_theorem))
    (keys "bindings" (reads (listing_faithful flat_binding_theorem))
    (keys "has_self_type" (reads flags)
    (lasts "parenthesized" (reads parentheses_theorem)) (λ d x. refl)) (λ d x. refl)) (λ d x. refl)

pub flat_args_theorem : Faithful flat_args 7
flat_args_theorem =
    makes (λ x. (x.args, (x.bindings, (x.has_self_type, x.parenthesized)))) (λ v. record {
      args = v.0;
      has_self_type = v.1.1.0;
      bindings =
          v.1.0;
      parenthesized = v.1.1.1;
    }) flat_args_kept (λ x. refl)

pub generic_args_theorem : Faithful generic_args 8
generic_args_theorem = by_mapping flat_list args_of_flat flat_back (listing_faithful flat_args_theorem)

path_bare_path_kept : Kept path_bare_path 1
path_bare_path_kept =
    kind_keeps "BarePath"
    (keys "kind" (reads path_kind_theorem)
    (lasts "segments" (reads (listing_faithful name_theorem))) (λ d x. refl)) (λ d x. refl)

path_normal_kept : Kept path_normal 9
path_normal_kept =
    keys "generic_args" (reads (lists (maybes generic_args_theorem)))
    (kind_keeps "Normal"
    (keys "kind" (reads path_kind_theorem)
    (keys "segments" (reads (listing_faithful name_theorem))
    (lasts "type_anchor" (maybes type_id_theorem)) (λ d x. refl)) (λ d x. refl)) (λ d x. refl)) (λ d x. refl)

path_lang_item_kept : Kept path_lang_item 0
path_lang_item_kept = keys "item" (reads lang_item_theorem) (alone_keeps "LangItem") (λ d x. refl)

path_emitted : (x : Path) → Emitted path_kinds (of_path x) x 9
path_emitted (path_is.BarePath p) =
    fields_back 9 (λ v. path_is.BarePath (record { kind = v.0; segments = v.1 })) path_bare_path_kept (omega arith) (p.kind, p.segments)
path_emitted (path_is.Normal p) =
    fields_back 9 (λ v. path_is.Normal (record {
      type_anchor = v.1.1.1;
      mod_path = record { kind = v.1.0; segments = v.1.1.0 };
      generic_args =
          v.0;
    })) path_normal_kept (omega arith) (p.generic_args, (p.mod_path.kind, (p.mod_path.segments, p.type_anchor)))
path_emitted (path_is.LangItem item_number) = fields_back 9 (λ v. path_is.LangItem v.0) path_lang_item_kept (omega arith) (item_number, tt)

pub path_theorem : Faithful path 10
path_theorem = sums of_path path_kinds 9 path_emitted
