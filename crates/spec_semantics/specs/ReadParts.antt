-- What paths that stand alone in a macro call are read as.
use Rattle.std.specs.Prelude.{◌≡◌, ℕ, nat_eq, Bool, true, false, if◌then◌else◌, List, [], ◌∷◌, Option, Some, None, option_map}
use Rattle.hir_syntax.specs.declared.ast.Path.{Path as AstPath, roll-Path}
use Rattle.hir_syntax.specs.declared.ast.PathSegment.{PathSegment as AstPathSegment, roll-PathSegment}
use Rattle.hir_syntax.specs.declared.ast.SegmentKind.{SegmentKind}
use Rattle.hir_syntax.specs.declared.ast.SegmentKind.TheVariants as segment
use Rattle.hir_store.specs.declared.ids.CrateId.{CrateId}
use Rattle.hir_store.specs.declared.name.Name.{Name}
use Rattle.hir_store.specs.declared.name.Name.TheVariants as name
use Rattle.hir_store.specs.declared.path.PathKind.{PathKind}
use Rattle.hir_store.specs.declared.path.PathKind.TheVariants as path
use Rattle.hir_env.specs.declared.ctx.LowerCtx.{LowerCtx}
use Rattle.hir_env.specs.Answers.{Answers}
use Rattle.hir_env.specs.TypeLayers.{PathLayer, PathSegmentLayer}
use Rattle.hir_env.specs.Whole.{resolved_path, written}
use Rattle.hir_env.specs.ResolvedTree as tree
use Rattle.spec_data.specs.Data as datum
use Rattle.spec_data.specs.Data.{PathData}
use Rattle.spec_data.specs.Trees.{node, no_range, ast_name}
use Rattle.spec_data.specs.Examples.{alone}
use Rattle.spec_data.specs.Written.{written_path}
use Rattle.spec_semantics.specs.Reading.{rctx_of}

-- paths

abbrev pub segment_layer : Option SegmentKind → Option (List ℕ) → PathSegmentLayer written
segment_layer k n = record {
  id = node 5;
  range = no_range;
  seg = k;
  name = option_map ast_name n;
  generics = None;
  parens = None;
  ret = None;
  rtn = false;
  ty = None;
  trait_ = None;
}

-- a name of one byte
abbrev pub named : ℕ → AstPathSegment
named n = roll-PathSegment (segment_layer (Some segment.Name) (Some (n ∷ [])))

abbrev pub self_named : AstPathSegment
self_named = roll-PathSegment (segment_layer (Some segment.SelfKw) None)

-- whether it stands alone in a call, whether `::` stands in front, and its segments, of which one may be absent
abbrev pub path_layer : Bool → Bool → List (Option AstPathSegment) → Option AstPath → PathLayer written
path_layer in_call leading ss u =
    record { id = node 8; range = no_range; leading = leading; use_ = u; segs = ss; in_macro = in_call }

abbrev pub written_as : Bool → Bool → List (Option AstPathSegment) → AstPath
written_as in_call leading ss = roll-Path (path_layer in_call leading ss None)

-- where the segments came from a macro that is local to its crate or isn't, and its crate has this root
abbrev pub segment_env : Answers → Bool → Option CrateId → Answers
segment_env env is_local root = record env {
  context = λ s. record { 0 = if nat_eq s.value.0 5 then 3 else 4 };
  local_inner = λ c. if nat_eq c.0 3 then is_local else false;
  crate_root = λ c. if nat_eq c.0 3 then root else None;
}

abbrev pub read_path : Answers → LowerCtx → AstPath → Option PathData
read_path env p x = written_path (tree.some_path (resolved_path (rctx_of env p 0) x))

abbrev pub names : PathKind → List Name → Option PathData
names k ns = Some (datum.path_data k datum.no_type (alone ns) true)

abbrev pub a : Name
a = name.Text (97 ∷ [])

abbrev pub b : Name
b = name.Text (98 ∷ [])

-- `a` alone in a call, of a macro that is local to a crate with a root and without one, and of another macro
pub record NameInCall (env : Answers) (p : LowerCtx) (c : CrateId) : Type 0 where
  pub local : read_path (segment_env env true (Some c)) p (written_as true false (Some (named 97) ∷ []))
      ≡ names (path.DollarCrate c) (a ∷ [])
  pub rootless : read_path (segment_env env true None) p (written_as true false (Some (named 97) ∷ [])) ≡ names path.Crate (a ∷ [])
  pub other : read_path (segment_env env false (Some c)) p (written_as true false (Some (named 97) ∷ [])) ≡ names path.Plain (a ∷ [])

-- elsewhere, `a::b`, `::a` and `self`, all of a macro that is local
pub record OtherPaths (env : Answers) (p : LowerCtx) (c : CrateId) : Type 0 where
  pub outside : read_path (segment_env env true (Some c)) p (written_as false false (Some (named 97) ∷ [])) ≡ names path.Plain (a ∷ [])
  pub two : read_path (segment_env env true (Some c)) p (written_as true false (Some (named 97) ∷ Some (named 98) ∷ []))
      ≡ names path.Plain (a ∷ b ∷ [])
  pub leading : read_path (segment_env env true (Some c)) p (written_as true true (Some (named 97) ∷ [])) ≡ names path.Abs (a ∷ [])
  pub self_alone : read_path (segment_env env true (Some c)) p (written_as true false (Some self_named ∷ [])) ≡ names (path.Super 0) []

-- a segment that is absent, alone in a call and elsewhere, whatever the macro
pub record AbsentInCall (env : Answers) (p : LowerCtx) : Type 0 where
  pub inside : read_path env p (written_as true false (None ∷ [])) ≡ None
  pub outside : read_path env p (written_as false false (None ∷ [])) ≡ names path.Plain (name.Missing ∷ [])

-- this segment in the list of a use tree with this path
abbrev pub with_segment : AstPathSegment → AstPath → AstPath
with_segment s u = roll-Path (path_layer false false (Some s ∷ []) (Some u))

-- a use tree that stands in a call itself: `a::{b}` and `a::{self}` of a macro that is local, and `b` in one whose segment is absent
pub record UseTreeInCall (env : Answers) (p : LowerCtx) (c : CrateId) : Type 0 where
  pub name_inside : read_path (segment_env env true (Some c)) p (with_segment (named 98) (written_as true false (Some (named 97) ∷ [])))
      ≡ names path.Plain (a ∷ b ∷ [])
  pub self_inside : read_path (segment_env env true (Some c)) p (with_segment self_named (written_as true false (Some (named 97) ∷ [])))
      ≡ names path.Plain (a ∷ [])
  pub absent : read_path env p (with_segment (named 98) (written_as true false (None ∷ []))) ≡ names path.Plain (name.Missing ∷ b ∷ [])

-- Alone in a macro call that is local to its crate one name begins at the root of that, and an absent one refuses. A use tree is
-- never alone.
abbrev pub BeginsAtTheLocalRoot : Type 0
BeginsAtTheLocalRoot = (env : Answers) (p : LowerCtx) (c : CrateId)
    → NameInCall env p c × OtherPaths env p c × AbsentInCall env p × UseTreeInCall env p c
