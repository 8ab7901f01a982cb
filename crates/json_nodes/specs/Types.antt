-- Types.
use Rattle.std.specs.Prelude.{codes, Option, Some, None, option_map}
use Rattle.serde_json.specs.Find.{get}
use Rattle.hir_syntax.specs.declared.types.TypeKind.{TypeKind}
use Rattle.hir_syntax.specs.declared.types.TypeKind.TheVariants as type_kinds
use Rattle.hir_syntax.specs.declared.types.PathType.{roll-PathType}
use Rattle.json_errors.specs.ByWord.{or_else}
use Rattle.json_errors.specs.declared.kind.TypeNode.{TypeNode}
use Rattle.json_errors.specs.declared.kind.TypeNode.TheVariants as kind
use Rattle.hir_base.specs.declared.node.NodeId.{NodeId}
use Rattle.hir_base.specs.declared.node.TextRange.{TextRange}
use Rattle.json_nodes.specs.Fields.{flag_of, text_in}
use Rattle.json_nodes.specs.Groups.{as_type, as_pat, as_path, as_lifetime, as_const_arg, as_param, as_ret, as_binder, as_bound}
use Rattle.json_nodes.specs.Groups.{as_macro_call}
use Rattle.json_nodes.specs.Parts.{Here, part_in, list_in, list_if_there}
use Rattle.json_nodes.specs.Any.{TypePart}
use Rattle.json_nodes.specs.declared.type_parts.TypeOf.TheVariants as type_part

-- a type of a kind
abbrev pub type_at : NodeId → TextRange → TypeKind → TypePart
type_at id range x = type_part.Type_ (record { id = id; range = range; kind = x })

abbrev pub whole_type : Here → TypeKind → TypePart
whole_type h x = type_at h.id h.range x

-- what is made of other types
unfoldable pub over_types : Here → TypeNode → Option TypePart
over_types h kind.ParenType = Some (whole_type h (type_kinds.ParenType (part_in h as_type (codes "ty"))))
over_types h kind.SliceType = Some (whole_type h (type_kinds.SliceType (part_in h as_type (codes "ty"))))
over_types h kind.TupleType = Some (whole_type h (type_kinds.TupleType (list_in h as_type (codes "fields"))))
over_types h kind.PtrType =
    Some (whole_type h (type_kinds.PtrType (flag_of (get (codes "mut") h.value)) (part_in h as_type (codes "ty"))))
over_types h _ = None

unfoldable pub function_pointer : Here → TypeKind
function_pointer h = type_kinds.FnPtrType
    (flag_of (get (codes "unsafe") h.value))
    (text_in (codes "abi") h.value)
    (list_if_there h as_param (codes "params"))
    (part_in h as_ret (codes "ret"))

-- what has a part of another group beside its type, or in its place
unfoldable pub beside_types : Here → TypeNode → Option TypePart
beside_types h kind.RefType = Some (whole_type h (type_kinds.RefType
    (part_in h as_lifetime (codes "lifetime"))
    (flag_of (get (codes "mut") h.value))
    (part_in h as_type (codes "ty"))))
beside_types h kind.ArrayType =
    Some (whole_type h (type_kinds.ArrayType (part_in h as_type (codes "ty")) (part_in h as_const_arg (codes "len"))))
beside_types h kind.FnPtrType = Some (whole_type h (function_pointer h))
beside_types h kind.ForType =
    Some (whole_type h (type_kinds.ForType (part_in h as_binder (codes "binder")) (part_in h as_type (codes "ty"))))
beside_types h kind.PatternType =
    Some (whole_type h (type_kinds.PatternType (part_in h as_type (codes "ty")) (part_in h as_pat (codes "pat"))))
beside_types h kind.MacroType = Some (whole_type h (type_kinds.MacroType (part_in h as_macro_call (codes "call"))))
beside_types h _ = None

-- what has bounds, and what is a word
unfoldable pub bounded : Here → TypeNode → Option TypePart
bounded h kind.ImplTraitType = Some (whole_type h (type_kinds.ImplTraitType (list_in h as_bound (codes "bounds"))))
bounded h kind.DynTraitType = Some (whole_type h (type_kinds.DynTraitType (list_in h as_bound (codes "bounds"))))
bounded h kind.NeverType = Some (whole_type h type_kinds.NeverType)
bounded h kind.InferType = Some (whole_type h type_kinds.InferType)
bounded h _ = None

abbrev pub of_type : Here → TypeNode → Option TypePart
of_type h k = or_else (over_types h k) (or_else (beside_types h k) (bounded h k))

-- a path is told from other types, since it may also name a trait
unfoldable pub of_path_type : Here → Option TypePart
of_path_type h = Some (type_part.PathType (roll-PathType (record {
  id = h.id;
  range = h.range;
  path = part_in h as_path (codes "path");
})))
