-- The segments of a written path that bear its names: the reverse mappings from the names of a stored path.
use Rattle.std.specs.Prelude.{◌≡◌, codes, bytes_eq, if◌then◌else◌, Bool, true, false, ◌&&◌, not}
use Rattle.std.specs.Prelude.{List, [], ◌∷◌, ◌++◌, map}
use Rattle.std.specs.Prelude.{Option, Some, None, is_some}
use Rattle.hir_syntax.specs.declared.ast.Name.{Name as AstName}
use Rattle.hir_syntax.specs.declared.ast.Path.{Path as AstPath, out-Path}
use Rattle.hir_syntax.specs.declared.ast.PathSegment.{PathSegment as AstSegment, out-PathSegment}
use Rattle.hir_syntax.specs.declared.types.PathType.{PathType as AstPathType, out-PathType}
use Rattle.hir_syntax.specs.declared.ast.SegmentKind.{SegmentKind}
use Rattle.hir_syntax.specs.declared.ast.SegmentKind.TheVariants as kind
use Rattle.hir_store.specs.declared.name.Name.{Name}
use Rattle.hir_store.specs.declared.name.Name.TheVariants as name
use Rattle.hir_env.specs.ResolvedTree as tree
use Rattle.hir_env.specs.Whole.{resolved_path}
use Rattle.hir_env.specs.ResolveCtx.{ResolveCtx}
use Rattle.spec_data.specs.Data.{PathData, path_names}
use Rattle.spec_data.specs.Written.{written_path}

-- a name is its own except for `$crate`, and `Self` is one
abbrev pub name_borne : Option SegmentKind → Option AstName → Option Name
name_borne (Some kind.Name) (Some n) = if bytes_eq n.t (codes "$crate") then None else Some (name.Text n.t)
name_borne (Some kind.SelfTypeKw) n = Some (name.Text (codes "Self"))
name_borne k n = None

abbrev pub segment_name : AstSegment → Option Name
segment_name s = let level = out-PathSegment s in name_borne level.seg level.name

abbrev pub named_among : List (Option AstSegment) → List AstSegment
named_among [] = []
named_among (None ∷ ss) = named_among ss
named_among (Some s ∷ ss) = if is_some (segment_name s) then s ∷ named_among ss else named_among ss

-- the trait of a qualified type, where it has one
abbrev pub trait_of : Option SegmentKind → Option AstPathType → Option AstPathType
trait_of (Some kind.Qualified) t = t
trait_of k t = None

abbrev pub first_trait : List (Option AstSegment) → Option AstPathType
first_trait [] = None
first_trait (None ∷ ss) = None
first_trait (Some s ∷ ss) = let level = out-PathSegment s in trait_of level.seg level.trait_

-- the segments of the trait in front; none where it has no path
abbrev pub behind_trait : Option AstPath → List (Option AstSegment) → List AstSegment
behind_trait None ss = []
behind_trait (Some q) ss = named_among ((out-Path q).segs ++ ss)

abbrev pub all_but_first : {A : Type 0} → List A → List A
all_but_first [] = []
all_but_first (x ∷ xs) = xs

abbrev pub segments_behind : Option AstPathType → List (Option AstSegment) → List AstSegment
segments_behind None ss = named_among ss
segments_behind (Some t) ss = behind_trait (out-PathType t).path (all_but_first ss)

-- Those of the path, with those of its trait in place of a qualified type, and without those of the use trees around it.
-- An absent one bears no name.
abbrev pub named_segments : AstPath → List AstSegment
named_segments p = let ss = (out-Path p).segs in segments_behind (first_trait ss) ss

abbrev pub all_present : List (Option AstSegment) → Bool
all_present [] = true
all_present (s ∷ ss) = is_some s && all_present ss

-- a path without segments has one, which is absent
abbrev pub none_missing : List (Option AstSegment) → Bool
none_missing [] = false
none_missing (s ∷ ss) = all_present (s ∷ ss)

-- no use tree stands around the path, and none of its segments is missing
abbrev pub Whole : AstPath → Type 0
Whole p = ((out-Path p).use_ ≡ None) × (none_missing (out-Path p).segs ≡ true)

abbrev pub is_qualified : Option SegmentKind → Bool
is_qualified (Some kind.Qualified) = true
is_qualified k = false

abbrev pub none_qualified : List (Option AstSegment) → Bool
none_qualified [] = true
none_qualified (None ∷ ss) = none_qualified ss
none_qualified (Some s ∷ ss) = not (is_qualified (out-PathSegment s).seg) && none_qualified ss

abbrev pub PlainPath : Option AstPath → Type 0
PlainPath None = Unit {0}
PlainPath (Some q) = Whole q × (none_qualified (out-Path q).segs ≡ true)

-- the same of a trait, and that none of its segments is a qualified type
abbrev pub PlainTrait : Option AstPathType → Type 0
PlainTrait None = Unit {0}
PlainTrait (Some t) = PlainPath (out-PathType t).path

-- The names of a path are those of its named segments, in their order.
abbrev pub SegmentTheorem : Type 0
SegmentTheorem = (at : ResolveCtx) (p : AstPath) (d : PathData) → Whole p → PlainTrait (first_trait (out-Path p).segs)
    → written_path (tree.some_path (resolved_path at p)) ≡ Some d → map Some (path_names d) ≡ map segment_name (named_segments p)
