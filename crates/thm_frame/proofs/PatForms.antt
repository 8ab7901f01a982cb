-- One level of a pattern is framed where its parts are.
use Rattle.std.proofs.Common.{ℕ, Bool, false, ◌&&◌, Option, Some, None}
use Rattle.hir_base.specs.declared.node.AstPtr.{AstPtr}
use Rattle.hir_syntax.specs.declared.ast.ElseBranch.TheOpen.{PatKind-F}
use Rattle.hir_syntax.specs.declared.ast.Name.{Name as AstName}
use Rattle.hir_store.specs.Pointers.{Pointer}
use Rattle.hir_store.specs.declared.ids.HygieneId.{HygieneId}
use Rattle.hir_env.specs.ResolvedTree as tree
use Rattle.hir_env.specs.ResolvedTree.{OptionPat, Pat, Use}
use Rattle.hir_env.specs.Answering.{name_or_missing, name_written, truth}
use Rattle.hir_env.specs.Answers.{Answers}
use Rattle.hir_env.specs.Folds.{entering}
use Rattle.hir_env.specs.Layers.{itself}
use Rattle.hir_env.specs.PatLayers.{PatKindLayer, RecordPatFieldLayer}
use Rattle.hir_env.specs.Paths.{mutability}
use Rattle.hir_env.specs.Pats as of
use Rattle.hir_env.specs.ResolveCtx.{in_file, ptr, site_of}
use Rattle.hir_env.specs.TypePats.{is_plain}
use Rattle.hir_env.specs.declared.ctx.LowerCtx.{LowerCtx}
use Rattle.hir_env.specs.declared.resolved.Resolved.{Resolved}
use Rattle.hir_env.specs.declared.resolved.BuiltinShadowMode.TheVariants as shadow
use Rattle.hir_env.proofs.Mapped.{mapped_pat_kind, mapped_pat_field}
use Rattle.thm_frame.specs.Questions.{Area, Framed, Here}
use Rattle.thm_frame.proofs.Framing.{one, still, two, three}
use Rattle.thm_frame.proofs.Motives.{Below, claimed}
use Rattle.thm_frame.proofs.Bare.{bare_pat_kind, bare_pat_field}
use Rattle.thm_frame.proofs.Asks.{cfg_asked, hygiene_asked, pred_asked, resolve_asked}
use Rattle.thm_frame.proofs.Called.{pat_called}
use Rattle.thm_frame.proofs.Parts.{elements_framed, pat_fields_framed, pat_framed, path_framed, pats_framed}

module _ (a : Answers) (area : Area a) (n : ℕ) (below : Below a area n) where
  pub name_hygiene_framed : (p : LowerCtx) (w : Here area p) (m : Option AstName) → Framed area (λ b. of.name_hygiene b p m) a
  name_hygiene_framed p w None = still _
  name_hygiene_framed p w (Some m) = hygiene_asked a area _ w.0

  -- with what its name stands for
  abbrev ident : LowerCtx → Pointer → Option AstName → Bool → Bool → HygieneId → Resolved → OptionPat → Pat
  ident p s m is_ref is_mut h r q =
      let u : Use = record { name = name_or_missing m; hygiene = h; mode = of.mode_of is_ref is_mut } in
      of.name_or_bind (is_plain u q && of.is_constant r.values) s u (name_written m) q

  pub pat_kind_framed : (y : PatKindLayer (claimed a area n)) (s : AstPtr) (p : LowerCtx) (w : Here area p)
      → Framed area (λ b. of.pat_kind_step b (itself (entering b n)) (mapped_pat_kind b (entering b n) (bare_pat_kind a area n y)) s p) a
  pat_kind_framed (PatKind-F.IdentPat m is_ref is_mut x) s p w =
      three (ident p (in_file p s) m is_ref is_mut) (name_hygiene_framed p w m)
      (resolve_asked a area p.module_id (of.plain_path (name_or_missing m)) shadow.Other w.1) (pat_framed a area n x p w)
  pat_kind_framed (PatKind-F.TupleStructPat x comma xs) s p w =
      two (λ x xs. tree.tuple_struct_pat (in_file p s) x comma xs) (path_framed a area n x p w) (elements_framed a area n xs p w)
  pat_kind_framed (PatKind-F.TuplePat comma xs) s p w = one (tree.tuple_pat (in_file p s) comma) (elements_framed a area n xs p w)
  pat_kind_framed (PatKind-F.RefPat is_mut x) s p w =
      one (tree.over_pat (in_file p s) (tree.ref_to (mutability is_mut))) (pat_framed a area n x p w)
  pat_kind_framed (PatKind-F.PathPat x) s p w = one (tree.path_pat (in_file p s)) (path_framed a area n x p w)
  pat_kind_framed (PatKind-F.OrPat xs) s p w = one (tree.or_pat (in_file p s)) (pats_framed a area n xs p w)
  pat_kind_framed (PatKind-F.ParenPat x) s p w = one (tree.paren_pat (in_file p s)) (pat_framed a area n x p w)
  pat_kind_framed (PatKind-F.BoxPat x) s p w = one (tree.over_pat (in_file p s) tree.box_of) (pat_framed a area n x p w)
  pat_kind_framed (PatKind-F.DerefPat x) s p w = one (tree.over_pat (in_file p s) tree.deref_of) (pat_framed a area n x p w)
  pat_kind_framed (PatKind-F.RecordPat x fs dots) s p w =
      two (λ x fs. tree.record_pat (in_file p s) x fs dots) (path_framed a area n x p w) (pat_fields_framed a area n fs p w)
  pat_kind_framed (PatKind-F.SlicePat xs y zs) s p w =
      three (tree.slice_pat (in_file p s)) (pats_framed a area n xs p w) (pat_framed a area n y p w) (pats_framed a area n zs p w)
  pat_kind_framed (PatKind-F.LiteralPat l minus) s p w = still (of.literal_or_broken p (in_file p s) l minus)
  pat_kind_framed (PatKind-F.RangePat o x y) s p w =
      two (λ x y. tree.range_pat (in_file p s) o (of.side_of x) (of.side_of y)) (pat_framed a area n x p w) (pat_framed a area n y p w)
  pat_kind_framed (PatKind-F.CfgPredPat pred) s p w =
      one (λ x. tree.literal_pat (in_file p s) None (record { minus = false; literal = truth x })) (pred_asked a area pred)
  pat_kind_framed (PatKind-F.MacroPat None) s p w = still (tree.macro_pat (in_file p s) tree.callless tree.no_pat)
  pat_kind_framed (PatKind-F.MacroPat (Some c)) s p w = pat_called a area n below c.0 p w (in_file p s)
  pat_kind_framed PatKind-F.WildcardPat s p w = still (tree.leaf_pat (in_file p s) tree.wild_leaf)
  pat_kind_framed PatKind-F.RestPat s p w = still (tree.leaf_pat (in_file p s) tree.rest_leaf)
  pat_kind_framed PatKind-F.NotNullPat s p w = still (tree.leaf_pat (in_file p s) tree.not_null_leaf)
  pat_kind_framed PatKind-F.ConstBlockPat s p w = still (tree.leaf_pat (in_file p s) tree.broken_leaf)

  pub pat_field_framed : (y : RecordPatFieldLayer (claimed a area n)) (p : LowerCtx) (w : Here area p)
      → Framed area (λ b. of.pat_field_step b (itself (entering b n)) (mapped_pat_field b (entering b n) (bare_pat_field a area n y)) p) a
  pat_field_framed y p w = let s = in_file p (ptr y.id y.range) in
      two (λ c q. of.asked_pat_field s c (of.pat_field_of s y.name q)) (cfg_asked a area (site_of s) w.0) (pat_framed a area n y.pat p w)
