-- Patterns.
use Rattle.std.specs.Prelude.{codes, Option, Some, None, option_map}
use Rattle.serde_json.specs.Find.{get}
use Rattle.hir_syntax.specs.declared.pats.PatKind.{PatKind}
use Rattle.hir_syntax.specs.declared.pats.PatKind.TheVariants as pat
use Rattle.json_errors.specs.ByWord.{or_else}
use Rattle.json_errors.specs.declared.kind.PatNode.{PatNode}
use Rattle.json_errors.specs.declared.kind.PatNode.TheVariants as kind
use Rattle.hir_base.specs.declared.node.NodeId.{NodeId}
use Rattle.hir_base.specs.declared.node.TextRange.{TextRange}
use Rattle.json_nodes.specs.Exprs.{pred_in}
use Rattle.json_nodes.specs.Fields.{flag_of}
use Rattle.json_nodes.specs.Groups.{as_macro_call, as_pat, as_name, as_path, as_pat_field, as_pat_literal}
use Rattle.json_nodes.specs.Operators.{range_op_in}
use Rattle.json_nodes.specs.Parts.{Here, part_in, list_in}
use Rattle.json_nodes.specs.declared.param_parts.PatPart.{PatPart}
use Rattle.json_nodes.specs.declared.param_parts.PatPart.TheVariants as pat_part

-- a pattern of a kind
abbrev pub pat_at : NodeId → TextRange → PatKind → PatPart
pat_at id range x = pat_part.Pat (record { id = id; range = range; kind = x })

abbrev pub whole_pat : Here → PatKind → PatPart
whole_pat h x = pat_at h.id h.range x

-- names and paths, and tuples behind a path or without one
unfoldable pub named : Here → PatNode → Option PatPart
named h kind.IdentPat = Some (whole_pat h (pat.IdentPat
    (part_in h as_name (codes "name"))
    (flag_of (get (codes "ref") h.value))
    (flag_of (get (codes "mut") h.value))
    (part_in h as_pat (codes "pat"))))
named h kind.TupleStructPat = Some (whole_pat h (pat.TupleStructPat
    (part_in h as_path (codes "path"))
    (flag_of (get (codes "leading_comma") h.value))
    (list_in h as_pat (codes "fields"))))
named h kind.TuplePat =
    Some (whole_pat h (pat.TuplePat (flag_of (get (codes "leading_comma") h.value)) (list_in h as_pat (codes "fields"))))
named h kind.PathPat = Some (whole_pat h (pat.PathPat (part_in h as_path (codes "path"))))
named h _ = None

-- what stands around one pattern, or between some
unfoldable pub around : Here → PatNode → Option PatPart
around h kind.RefPat = Some (whole_pat h (pat.RefPat (flag_of (get (codes "mut") h.value)) (part_in h as_pat (codes "pat"))))
around h kind.OrPat = Some (whole_pat h (pat.OrPat (list_in h as_pat (codes "pats"))))
around h kind.ParenPat = Some (whole_pat h (pat.ParenPat (part_in h as_pat (codes "pat"))))
around h kind.BoxPat = Some (whole_pat h (pat.BoxPat (part_in h as_pat (codes "pat"))))
around h kind.DerefPat = Some (whole_pat h (pat.DerefPat (part_in h as_pat (codes "pat"))))
around h _ = None

-- records and slices
unfoldable pub pieces : Here → PatNode → Option PatPart
pieces h kind.RecordPat = Some (whole_pat h (pat.RecordPat
    (part_in h as_path (codes "path"))
    (list_in h as_pat_field (codes "fields"))
    (flag_of (get (codes "rest") h.value))))
pieces h kind.SlicePat = Some (whole_pat h (pat.SlicePat
    (list_in h as_pat (codes "prefix"))
    (part_in h as_pat (codes "slice"))
    (list_in h as_pat (codes "suffix"))))
pieces h _ = None

-- values, ranges between two, and macro calls
unfoldable pub values : Here → PatNode → Option PatPart
values h kind.LiteralPat =
    Some (whole_pat h (pat.LiteralPat (part_in h as_pat_literal (codes "lit")) (flag_of (get (codes "minus") h.value))))
values h kind.RangePat =
    Some (whole_pat h (pat.RangePat (range_op_in h.value) (part_in h as_pat (codes "start")) (part_in h as_pat (codes "end"))))
values h kind.MacroPat = Some (whole_pat h (pat.MacroPat (part_in h as_macro_call (codes "call"))))
values h _ = None

-- what has no parts
unfoldable pub partless_pat : Here → PatNode → Option PatPart
partless_pat h kind.CfgPredPat = Some (whole_pat h (pat.CfgPredPat (pred_in (get (codes "pred") h.value))))
partless_pat h kind.WildcardPat = Some (whole_pat h pat.WildcardPat)
partless_pat h kind.RestPat = Some (whole_pat h pat.RestPat)
partless_pat h kind.NotNullPat = Some (whole_pat h pat.NotNullPat)
partless_pat h kind.ConstBlockPat = Some (whole_pat h pat.ConstBlockPat)
partless_pat h _ = None

abbrev pub of_pat : Here → PatNode → Option PatPart
of_pat h k = or_else (named h k) (or_else (around h k) (or_else (pieces h k) (or_else (values h k) (partless_pat h k))))
