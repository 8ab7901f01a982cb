-- What stands beside the names of a path: the arguments that are written behind their segments.
use Rattle.std.specs.Prelude.{◌≡◌, List, [], ◌∷◌, map, Option, Some, None}
use Rattle.hir_syntax.specs.declared.ast.Path.{Path as AstPath, out-Path}
use Rattle.hir_syntax.specs.declared.ast.PathSegment.{PathSegment as AstSegment, out-PathSegment}
use Rattle.hir_syntax.specs.declared.types.PathType.{PathType as AstPathType, out-PathType}
use Rattle.hir_store.specs.Stored.{Stored, store_of, map_of}
use Rattle.hir_store.specs.StoreSink.{Extends}
use Rattle.hir_store.specs.declared.path.Path.{Path}
use Rattle.hir_env.specs.ResolvedTree as tree
use Rattle.hir_env.specs.ResolvedTree.{Segment}
use Rattle.hir_env.specs.Paths.{inside_projection}
use Rattle.hir_env.specs.ResolveCtx.{ResolveCtx}
use Rattle.hir_env.specs.Whole.{resolved_segment, type_part}
use Rattle.spec_data.specs.Data as datum
use Rattle.spec_data.specs.Data.{NamesData, OptionArgsData, PathData, TypeData, no_args}
use Rattle.spec_data.specs.Reading.{stored_path}
use Rattle.spec_data.specs.Rule.{self_first}
use Rattle.spec_data.specs.Segments.{PlainTrait, Whole, all_but_first, first_trait, named_among}
use Rattle.spec_data.specs.Written.{absent_data, segment_args_data, written_type}

abbrev pub beside_names : NamesData → List OptionArgsData
beside_names datum.no_names = []
beside_names (datum.more_names n a ns) = a ∷ beside_names ns

abbrev pub beside : PathData → List OptionArgsData
beside (datum.path_data k t ns bare) = beside_names ns
beside (datum.item_path i) = []

-- of `<..>`, `(A) -> C` and `(..)` behind a name the first that yields any
abbrev pub behind_name : Segment → OptionArgsData
behind_name (tree.name_segment n _ a) = segment_args_data a
behind_name _ = no_args

abbrev pub args_behind : ResolveCtx → AstSegment → OptionArgsData
args_behind at s = behind_name (resolved_segment at s)

abbrev pub all_behind : ResolveCtx → List (Option AstSegment) → List OptionArgsData
all_behind at ss = map (args_behind at) (named_among ss)

-- where the type and the trait of `<T as Trait>` are read
abbrev pub in_projection : ResolveCtx → ResolveCtx
in_projection at = record at { place = inside_projection at.place }

-- T of a path that begins with it
abbrev pub type_in_front : ResolveCtx → List (Option AstSegment) → TypeData
type_in_front at (Some s ∷ ss) = written_type (type_part (in_projection at) (out-PathSegment s).ty)
type_in_front at _ = absent_data

-- What stands beside the names of a trait, then these: what is written, the last behind this type. Where nothing stands behind it, the
-- last has no arguments.
abbrev pub last_behind_type : TypeData → List OptionArgsData → List OptionArgsData → List OptionArgsData
last_behind_type t [] behind = behind
last_behind_type t (a ∷ []) [] = no_args ∷ []
last_behind_type t (a ∷ []) (b ∷ bs) = self_first t a ∷ b ∷ bs
last_behind_type t (a ∷ b ∷ as') behind = a ∷ last_behind_type t (b ∷ as') behind

abbrev pub segments_in : Option AstPath → List (Option AstSegment)
segments_in None = []
segments_in (Some q) = (out-Path q).segs

-- Behind the segments of a path, with those of its trait in place of a qualified type.
abbrev pub args_of_named : ResolveCtx → Option AstPathType → List (Option AstSegment) → List OptionArgsData
args_of_named at None ss = all_behind at ss
args_of_named at (Some t) ss =
    last_behind_type (type_in_front at ss) (all_behind (in_projection at) (segments_in (out-PathType t).path))
    (all_behind at (all_but_first ss))

-- Beside its names are the arguments of the written segments that bear one, of the last one of a trait behind the type that the trait is
-- of, where no use tree stands around it or its trait, no segment of either is missing, and its trait has no qualified type.
abbrev pub TakesArguments : Stored → ResolveCtx → AstPath → Option Path → Type 0
TakesArguments new at x None = Unit {0}
TakesArguments new at x (Some p) = let ss = (out-Path x).segs in
    (later : Stored) → Extends new later → Whole x → PlainTrait (first_trait ss)
    → beside (stored_path (store_of later) (map_of later) p) ≡ args_of_named at (first_trait ss) ss
