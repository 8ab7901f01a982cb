-- One level of a pattern is framed where its parts are.
use Rattle.std.proofs.Common.{ℕ, Bool, false, ◌&&◌, Option, Some, None}
use Rattle.hir_base.specs.declared.node.AstPtr.{AstPtr}
use Rattle.hir_syntax.specs.declared.ast.ElseBranch.TheOpen.{PatKind-F}
use Rattle.hir_syntax.specs.declared.ast.Name.{Name as AstName}
use Rattle.hir_store.specs.Pointers.{Pointer}
use Rattle.hir_store.specs.declared.ids.HygieneId.{HygieneId}
use Rattle.hir_env.specs.ResolvedTree as tree
use Rattle.hir_env.specs.ResolvedTree.{OptionPat, Pat, Use}
use Rattle.hir_env.specs.Answering.{name_or_missing, name_written, truth}
use Rattle.hir_env.specs.Answers.{Answers}
use Rattle.hir_env.specs.Folds.{entering}
use Rattle.hir_env.specs.Layers.{itself, written}
use Rattle.hir_env.specs.PatLayers.{PatKindLayer, RecordPatFieldLayer}
use Rattle.hir_env.specs.Paths.{mutability}
use Rattle.hir_env.specs.Pats as of
use Rattle.hir_env.specs.ResolveCtx.{in_file, ptr}
use Rattle.hir_env.specs.TypePats.{is_plain}
use Rattle.hir_env.specs.declared.ctx.LowerCtx.{LowerCtx}
use Rattle.hir_env.specs.declared.resolved.Resolved.{Resolved}
use Rattle.hir_env.specs.declared.resolved.BuiltinShadowMode.TheVariants as shadow
use Rattle.hir_env.proofs.Mapped.{mapped_pat_kind, mapped_pat_field}
use Rattle.spec_fold.proofs.Maps.{Maps, map_pat_field, map_pat_kind, drop_claims}
use Rattle.thm_questions.specs.Asked as asked
use Rattle.thm_questions.specs.Areas.{NodeArea}
use Rattle.thm_questions.specs.Lists.{entered_calls}
use Rattle.thm_questions.specs.Nodes as node
use Rattle.thm_questions.proofs.Asks.{cfg_asked, name_by, pred_asked, resolve_asked}
use Rattle.thm_questions.proofs.Called.{pat_called}
use Rattle.thm_questions.proofs.Claims.{Below, claimed, claims, in_asked, in_nodes}
use Rattle.thm_questions.proofs.Framing.{At, one, still, three, two}
use Rattle.thm_questions.proofs.Parts.{elements_by, pat_by, pat_fields_by, path_by, pats_by}

module _ (a : Answers) (area : NodeArea a) (n : ℕ) (below : Below a area n) where
  abbrev bare : Maps (claimed a area n) written
  bare = drop_claims (claims a area n)

  -- with what its name stands for
  abbrev ident : LowerCtx → Pointer → Option AstName → Bool → Bool → HygieneId → Resolved → OptionPat → Pat
  ident p s m is_ref is_mut h r q =
      let u : Use = record { name = name_or_missing m; hygiene = h; mode = of.mode_of is_ref is_mut } in
      of.name_or_bind (is_plain u q && of.is_constant r.values) s u (name_written m) q

  pub pat_kind_by : (y : PatKindLayer (claimed a area n)) (s : AstPtr) (p : LowerCtx)
      → At area p (node.pat_nodes (map_pat_kind in_nodes (map_pat_kind bare y)))
      (λ b. of.pat_kind_step b (itself (entering b n)) (mapped_pat_kind b (entering b n) (map_pat_kind bare y)) s p)
      (asked.pat_asked a n (entered_calls a n) (map_pat_kind (in_asked a n) (map_pat_kind bare y)) p)
  pat_kind_by (PatKind-F.IdentPat m is_ref is_mut x) s p =
      three (ident p (in_file p s) m is_ref is_mut) (name_by a area p m)
      (resolve_asked a area (of.plain_path (name_or_missing m)) shadow.Other) (pat_by a area n x p)
  pat_kind_by (PatKind-F.TupleStructPat x comma xs) s p =
      two (λ x xs. tree.tuple_struct_pat (in_file p s) x comma xs) (path_by a area n x p) (elements_by a area n xs p)
  pat_kind_by (PatKind-F.TuplePat comma xs) s p = one (tree.tuple_pat (in_file p s) comma) (elements_by a area n xs p)
  pat_kind_by (PatKind-F.RefPat is_mut x) s p =
      one (tree.over_pat (in_file p s) (tree.ref_to (mutability is_mut))) (pat_by a area n x p)
  pat_kind_by (PatKind-F.PathPat x) s p = one (tree.path_pat (in_file p s)) (path_by a area n x p)
  pat_kind_by (PatKind-F.OrPat xs) s p = one (tree.or_pat (in_file p s)) (pats_by a area n xs p)
  pat_kind_by (PatKind-F.ParenPat x) s p = one (tree.paren_pat (in_file p s)) (pat_by a area n x p)
  pat_kind_by (PatKind-F.BoxPat x) s p = one (tree.over_pat (in_file p s) tree.box_of) (pat_by a area n x p)
  pat_kind_by (PatKind-F.DerefPat x) s p = one (tree.over_pat (in_file p s) tree.deref_of) (pat_by a area n x p)
  pat_kind_by (PatKind-F.RecordPat x fs dots) s p =
      two (λ x fs. tree.record_pat (in_file p s) x fs dots) (path_by a area n x p) (pat_fields_by a area n fs p)
  pat_kind_by (PatKind-F.SlicePat xs y zs) s p =
      three (tree.slice_pat (in_file p s)) (pats_by a area n xs p) (pat_by a area n y p) (pats_by a area n zs p)
  pat_kind_by (PatKind-F.LiteralPat l minus) s p = still (of.literal_or_broken p (in_file p s) l minus)
  pat_kind_by (PatKind-F.RangePat o x y) s p =
      two (λ x y. tree.range_pat (in_file p s) o (of.side_of x) (of.side_of y)) (pat_by a area n x p) (pat_by a area n y p)
  pat_kind_by (PatKind-F.CfgPredPat pred) s p =
      one (λ x. tree.literal_pat (in_file p s) None (record { minus = false; literal = truth x })) (pred_asked a area pred)
  pat_kind_by (PatKind-F.MacroPat None) s p = still (tree.macro_pat (in_file p s) tree.callless tree.no_pat)
  pat_kind_by (PatKind-F.MacroPat (Some c)) s p = pat_called a area n below c.0 p (in_file p s)
  pat_kind_by PatKind-F.WildcardPat s p = still (tree.leaf_pat (in_file p s) tree.wild_leaf)
  pat_kind_by PatKind-F.RestPat s p = still (tree.leaf_pat (in_file p s) tree.rest_leaf)
  pat_kind_by PatKind-F.NotNullPat s p = still (tree.leaf_pat (in_file p s) tree.not_null_leaf)
  pat_kind_by PatKind-F.ConstBlockPat s p = still (tree.leaf_pat (in_file p s) tree.broken_leaf)

  pub pat_field_by : (y : RecordPatFieldLayer (claimed a area n)) (p : LowerCtx)
      → At area p (node.node_steps.pat_field (map_pat_field in_nodes (map_pat_field bare y)))
      (λ b. of.pat_field_step b (itself (entering b n)) (mapped_pat_field b (entering b n) (map_pat_field bare y)) p)
      (asked.pat_field_asked a n (entered_calls a n) (map_pat_field (in_asked a n) (map_pat_field bare y)) p)
  pat_field_by y p = let s = in_file p (ptr y.id y.range) in
      two (λ c q. of.asked_pat_field s c (of.pat_field_of s y.name q)) (cfg_asked a area y.id) (pat_by a area n y.pat p)
