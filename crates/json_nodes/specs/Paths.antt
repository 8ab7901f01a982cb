-- Paths and their segments.
use Rattle.std.specs.Prelude.{codes, ℕ, List, [], ◌∷◌, Option, Some, None, option_and_then}
use Rattle.serde_json.specs.Find.{get}
use Rattle.hir_syntax.specs.declared.ast.Path.{Path, roll-Path}
use Rattle.hir_syntax.specs.declared.ast.PathSegment.{PathSegment, roll-PathSegment}
use Rattle.hir_syntax.specs.declared.ast.SegmentKind.{SegmentKind}
use Rattle.hir_syntax.specs.declared.ast.SegmentKind.TheVariants as written
use Rattle.json_errors.specs.ByWord.{with_word}
use Rattle.json_errors.specs.declared.kind.PathNode.{PathNode}
use Rattle.json_errors.specs.declared.kind.PathNode.TheVariants as kind
use Rattle.json_nodes.specs.Fields.{flag_of, text_in}
use Rattle.json_nodes.specs.Groups.{as_path, as_segment, as_name, as_generic_args, as_paren_args, as_ret, as_type, as_path_type}
use Rattle.json_nodes.specs.Parts.{Here, part_in, list_with_nulls_in}
use Rattle.json_nodes.specs.Any.{PathPart}
use Rattle.json_nodes.specs.declared.path_parts.PathOf.TheVariants as path_part

-- the word of a kind of segments
abbrev pub segment_word : SegmentKind → List ℕ
segment_word written.Name = codes "name"
segment_word written.SelfKw = codes "self"
segment_word written.CrateKw = codes "crate"
segment_word written.SuperKw = codes "super"
segment_word written.SelfTypeKw = codes "Self"
segment_word written.Qualified = codes "type"

-- all kinds of segments
abbrev pub segment_kinds : List SegmentKind
segment_kinds = written.Name ∷ written.SelfKw ∷ written.CrateKw ∷ written.SuperKw ∷ written.SelfTypeKw ∷ written.Qualified ∷ []

-- the kind of segments whose word it is
abbrev pub segment_kind_of : List ℕ → Option SegmentKind
segment_kind_of word = with_word segment_word segment_kinds word

unfoldable pub segment : Here → PathSegment
segment h = roll-PathSegment (record {
  id = h.id;
  range = h.range;
  seg = option_and_then segment_kind_of (text_in (codes "seg") h.value);
  name = part_in h as_name (codes "name");
  generics = part_in h as_generic_args (codes "generics");
  parens = part_in h as_paren_args (codes "parens");
  ret = part_in h as_ret (codes "ret");
  rtn = flag_of (get (codes "rtn") h.value);
  ty = part_in h as_type (codes "ty");
  trait_ = part_in h as_path_type (codes "trait");
})

unfoldable pub path : Here → Path
path h = roll-Path (record {
  id = h.id;
  range = h.range;
  leading = flag_of (get (codes "leading") h.value);
  in_macro = flag_of (get (codes "in_macro") h.value);
  use_ = part_in h as_path (codes "use");
  segs = list_with_nulls_in h as_segment (codes "segs");
})

-- a path or a segment
abbrev pub of_path : Here → PathNode → Option PathPart
of_path h kind.Path = Some (path_part.Path (path h))
of_path h kind.PathSegment = Some (path_part.Segment (segment h))
of_path h _ = None
