-- A path that may stand directly in a macro call is read as no less than elsewhere.
use Rattle.std.proofs.Common.{arith, ap, ℕ, ◌≤◌, Bool, true, false, Option, Some, None, List, [], ◌∷◌}
use Rattle.std.specs.Prelude.{if◌then◌else◌}
use Rattle.hir_store.specs.declared.ids.CrateId.{CrateId}
use Rattle.hir_syntax.specs.declared.ast.Path.{Path as AstPath, out-Path}
use Rattle.hir_syntax.specs.declared.ast.PathSegment.{PathSegment as AstPathSegment}
use Rattle.hir_env.specs.declared.ctx.LowerCtx.{LowerCtx}
use Rattle.hir_env.specs.Answers.{Answers}
use Rattle.hir_env.specs.ResolvedTree as tree
use Rattle.hir_env.specs.ResolvedTree.{Path, Segment, Segments}
use Rattle.hir_env.specs.Count.{count_path}
use Rattle.hir_env.specs.Folds.{reader}
use Rattle.hir_env.specs.Layers.{Entering, Reader, written}
use Rattle.hir_env.specs.LocalPaths.{at_local_root, behind_root, is_bare, local_root}
use Rattle.hir_env.specs.PathNames.{mod_path_of}
use Rattle.hir_env.specs.Paths as of
use Rattle.hir_env.specs.ResolveCtx.{ResolveCtx}
use Rattle.hir_env.specs.TypeLayers.{PathLayer}
use Rattle.hir_env.specs.Whole.{resolved_path, resolved_use_tree, into}
use Rattle.hir_env.proofs.PathLevels.{path_is_level, use_tree_is_level}

one_counts : (b leading : Bool) (first : Segment) (rest : Segments) (root : Option CrateId)
    → let y = tree.path None leading first rest tree.no_path in
    count_path y ≤ count_path (if b then behind_root root y else y)
one_counts false leading first rest root = omega (arith)
one_counts true leading first rest root = omega (arith)

local_counts : (root : Option (Option CrateId)) (leading : Bool) (first : Segment) (rest : Segments)
    → let y = tree.path None leading first rest tree.no_path in count_path y ≤ count_path (at_local_root root y)
local_counts None leading first rest = omega (arith)
local_counts (Some root) leading first rest =
    one_counts (is_bare (mod_path_of (tree.some_path (tree.path None leading first rest tree.no_path)))) leading first rest root

module _ (env : Answers) (into : Option Entering) where
  abbrev rd : Reader written
  rd = reader env into

  called_counts : (in_macro leading : Bool) (ss : List (Option AstPathSegment)) (u : Option AstPath) (p : LowerCtx)
      → let y = tree.path None leading (of.first_of rd.segment ss p) (of.rest_of rd.segment ss p) (of.path_or_none rd.use_tree u p) in
      count_path y ≤ count_path (of.called_path env rd in_macro leading ss u p y)
  called_counts false leading ss u p = omega (arith)
  called_counts true true [] None p = omega (arith)
  called_counts true false [] None p = omega (arith)
  called_counts true leading [] (Some u) p = omega (arith)
  called_counts true true (None ∷ []) None p = omega (arith)
  called_counts true false (None ∷ []) None p = omega (arith)
  called_counts true leading (None ∷ []) (Some u) p = omega (arith)
  called_counts true leading (Some s ∷ []) None p =
      local_counts (local_root env (of.context_at env p (rd.segment_node s))) leading (rd.segment s p) tree.no_segments
  called_counts true leading (Some s ∷ []) (Some u) p = omega (arith)
  called_counts true leading (None ∷ x ∷ ss) u p = omega (arith)
  called_counts true leading (Some s ∷ x ∷ ss) u p = omega (arith)

  alias_counts : (n : ℕ) (alias : Option (List Bool)) (y : Path) → n ≤ count_path y → n ≤ count_path (of.with_alias alias y)
  alias_counts n alias (tree.path _ leading first rest use_) h = h

  pub path_counts : (x : PathLayer written) (p : LowerCtx) → count_path (of.plain_path env rd x p) ≤ count_path (of.path_step env rd x p)
  path_counts x p =
      let y = of.called_path env rd x.in_macro x.leading x.segs x.use_ p (of.plain_path env rd x p) in
      alias_counts (count_path (of.plain_path env rd x p)) (of.alias_at env p y) y (called_counts x.in_macro x.leading x.segs x.use_ p)

-- as the use tree around another one it is read as no more than by itself
pub use_tree_counts : (at : ResolveCtx) (x : AstPath) → count_path (resolved_use_tree at x) ≤ count_path (resolved_path at x)
use_tree_counts at x =
    let around = ap count_path (use_tree_is_level at x) in
    let own = ap count_path (path_is_level at x) in
    let more = path_counts at.answers (into at) (out-Path x) at.place in
    omega (arith, around, own, more)
