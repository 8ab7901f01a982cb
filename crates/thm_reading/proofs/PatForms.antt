-- One level of a pattern is what the rules allow where its parts are.
use Rattle.std.proofs.Common.{◌≡◌, refl, sym, subst, ℕ, Bool, true, false, if◌then◌else◌, Option, Some, None, Result, Ok, Err}
use Rattle.hir_base.specs.declared.node.AstPtr.{AstPtr}
use Rattle.hir_syntax.specs.declared.ast.ElseBranch.TheOpen.{PatKind-F}
use Rattle.hir_syntax.specs.declared.ast.Name.{Name as AstName}
use Rattle.hir_syntax.specs.declared.pats.Pat.{Pat as AstPat}
use Rattle.hir_syntax.specs.declared.pats.PatLiteral.{PatLiteral}
use Rattle.hir_store.specs.Pointers.{Pointer}
use Rattle.hir_store.specs.declared.ids.CfgId.{CfgId}
use Rattle.hir_env.specs.ResolvedTree as tree
use Rattle.hir_env.specs.ResolvedTree.{OptionPat, Pats, Use}
use Rattle.hir_env.specs.Answering.{name_written}
use Rattle.hir_env.specs.Answers.{Answers}
use Rattle.hir_env.specs.Folds.{entering, fold_pat, fold_path}
use Rattle.hir_env.specs.Layers.{itself}
use Rattle.hir_env.specs.Pats as of
use Rattle.hir_env.specs.Paths.{pat_or_none, path_or_none}
use Rattle.hir_env.specs.PatLayers.{PatKindLayer, RecordPatFieldLayer}
use Rattle.hir_env.specs.ResolveCtx.{in_file, ptr}
use Rattle.hir_env.specs.declared.ctx.LowerCtx.{LowerCtx}
use Rattle.hir_env.proofs.Mapped.{beside, optional, mapped_pat_kind, mapped_pat_field}
use Rattle.thm_reading.specs.Rules as rule
use Rattle.thm_reading.specs.Rules.{PatFieldAs, PatKindAs, PatPartAs, PatsAs}
use Rattle.thm_reading.specs.LowerCtx.{node, site, corresponds_to_value}
use Rattle.thm_reading.proofs.Bare.{bare_pat_kind, bare_pat_field}
use Rattle.thm_reading.proofs.Called.{pat_called}
use Rattle.thm_reading.proofs.Motives.{Below, OfPat, at, claimed}
use Rattle.thm_reading.proofs.Parts.{elements_same, pat_fields_part, pat_part, path_part, pats_part}
use Rattle.thm_reading.proofs.Same.{found_name_same, use_same}

module _ (a : Answers) (n : ℕ) (below : Below a n) where
  plain_by : (m : Option AstName) (p : LowerCtx) (s : Pointer) (b : Bool) → corresponds_to_value a (at n p) m ≡ b
      → PatKindAs a (at n p) s (PatKind-F.IdentPat m false false None)
      (of.name_or_bind b s (of.use_at a (at n p) m false false) (name_written m) tree.no_pat)
  plain_by m p s true is = rule.value_pat is (use_same a (at n p) m false false)
  plain_by m p s false is = rule.plain_pat is (use_same a (at n p) m false false)

  ident_level : (m : Option AstName) (r k : Bool) (x : Option ((y : AstPat) × OfPat a n y)) (p : LowerCtx) (s : Pointer)
      → PatKindAs a (at n p) s (PatKind-F.IdentPat m r k (optional (λ e. e.0) x))
      (of.ident_pat a (at n p) s (of.use_at a (at n p) m r k) (name_written m)
      (pat_or_none (λ y. y.1) (optional (beside (fold_pat a (entering a n))) (optional (λ e. e.0) x)) (at n p)))
  ident_level m true k None p s = ref_by k
    where
      ref_by : (k : Bool) → PatKindAs a (at n p) s (PatKind-F.IdentPat m true k None)
          (of.ident_pat a (at n p) s (of.use_at a (at n p) m true k) (name_written m) tree.no_pat)
      ref_by true = rule.ref_pat_of (use_same a (at n p) m true true) rule.no_pat
      ref_by false = rule.ref_pat_of (use_same a (at n p) m true false) rule.no_pat
  ident_level m true k (Some x) p s = rule.ref_pat_of (use_same a (at n p) m true k) (pat_part a n (Some x) p)
  ident_level m false true None p s = rule.mut_pat (use_same a (at n p) m false true) rule.no_pat
  ident_level m false true (Some x) p s = rule.mut_pat (use_same a (at n p) m false true) (pat_part a n (Some x) p)
  ident_level m false false (Some x) p s = rule.sub_pat (use_same a (at n p) m false false) (pat_part a n (Some x) p)
  ident_level m false false None p s = plain_by m p s _ (sym (found_name_same a (at n p) m))

  literal_by : (l : PatLiteral) (m : Bool) (p : LowerCtx) (s : Pointer) (b : Bool) → of.minus_fits m l.literal.lit ≡ b
      → PatKindAs a (at n p) s (PatKind-F.LiteralPat (Some l) m)
      (if b then tree.literal_pat s (Some (in_file (at n p) (ptr l.id l.range))) (record { minus = m; literal = l.literal }) else
      tree.leaf_pat s tree.broken_leaf)
  literal_by l m p s true is = rule.literal_pat is
  literal_by l m p s false is = rule.broken_literal is

  pub pat_kind_level : (y : PatKindLayer (claimed a n)) (s : AstPtr) (p : LowerCtx)
      → PatKindAs a (at n p) (in_file (at n p) s) (bare_pat_kind a n y)
      (of.pat_kind_step a (itself (entering a n)) (mapped_pat_kind a (entering a n) (bare_pat_kind a n y)) s (at n p))
  pat_kind_level (PatKind-F.IdentPat m r k x) s p = ident_level m r k x p (in_file p s)
  pat_kind_level (PatKind-F.TupleStructPat x c xs) s p = let h = path_part a n x p in
      subst (λ ys. PatKindAs a (at n p) (in_file (at n p) s) (bare_pat_kind a n (PatKind-F.TupleStructPat x c xs))
      (tree.tuple_struct_pat (in_file (at n p) s) (path_or_none (λ y. y.1.alone)
      (optional (beside (fold_path a (entering a n))) (optional (λ e. e.0) x)) (at n p)) c ys))
      (sym (elements_same a n xs p)) (rule.tuple_struct_pat h (pats_part a n xs p))
  pat_kind_level (PatKind-F.TuplePat c xs) s p =
      subst (λ ys. PatKindAs a (at n p) (in_file (at n p) s) (bare_pat_kind a n (PatKind-F.TuplePat c xs))
      (tree.tuple_pat (in_file (at n p) s) c ys))
      (sym (elements_same a n xs p)) (rule.tuple_pat (pats_part a n xs p))
  pat_kind_level (PatKind-F.RefPat m x) s p = rule.ref_pat (pat_part a n x p)
  pat_kind_level (PatKind-F.PathPat x) s p = rule.path_pat (path_part a n x p)
  pat_kind_level (PatKind-F.OrPat xs) s p = rule.or_pat (pats_part a n xs p)
  pat_kind_level (PatKind-F.ParenPat x) s p = rule.paren_pat (pat_part a n x p)
  pat_kind_level (PatKind-F.BoxPat x) s p = rule.box_pat (pat_part a n x p)
  pat_kind_level (PatKind-F.DerefPat x) s p = rule.deref_pat (pat_part a n x p)
  pat_kind_level (PatKind-F.RecordPat x fs d) s p = rule.record_pat (path_part a n x p) (pat_fields_part a n fs p)
  pat_kind_level (PatKind-F.SlicePat xs m zs) s p = rule.slice_pat (pats_part a n xs p) (pat_part a n m p) (pats_part a n zs p)
  pat_kind_level (PatKind-F.LiteralPat None m) s p = rule.lacking_literal
  pat_kind_level (PatKind-F.LiteralPat (Some l) m) s p = literal_by l m p (in_file p s) (of.minus_fits m l.literal.lit) refl
  pat_kind_level (PatKind-F.RangePat o x y) s p = rule.range_pat (pat_part a n x p) (pat_part a n y p)
  pat_kind_level (PatKind-F.CfgPredPat c) s p = rule.cfg_pat
  pat_kind_level (PatKind-F.MacroPat None) s p = rule.callless_pat
  pat_kind_level (PatKind-F.MacroPat (Some c)) s p = pat_called a n below c.0 p (in_file p s)
  pat_kind_level PatKind-F.WildcardPat s p = rule.wild_pat
  pat_kind_level PatKind-F.RestPat s p = rule.rest_pat
  pat_kind_level PatKind-F.NotNullPat s p = rule.not_null_pat
  pat_kind_level PatKind-F.ConstBlockPat s p = rule.const_block_pat

  field_part : (m : Option AstName) (x : Option ((y : AstPat) × OfPat a n y)) (p : LowerCtx) (s : Pointer)
      → PatPartAs a (at n p) s m (optional (λ e. e.0) x)
      (of.pat_field_of s m (pat_or_none (λ y. y.1) (optional (beside (fold_pat a (entering a n))) (optional (λ e. e.0) x)) (at n p)))
  field_part m None p s = rule.partless_pat_field
  field_part m (Some x) p s = rule.pat_field (x.1 p)

  field_by : (m : Option AstName) (x : Option ((y : AstPat) × OfPat a n y)) (p : LowerCtx) (s : Pointer) (r : Result (Unit {0}) CfgId)
      → a.cfg (site s) ≡ r → PatFieldAs a (at n p) s m (optional (λ e. e.0) x) (of.asked_pat_field s r
      (of.pat_field_of s m (pat_or_none (λ y. y.1) (optional (beside (fold_pat a (entering a n))) (optional (λ e. e.0) x)) (at n p))))
  field_by m x p s (Ok u) is = rule.enabled_pat_field is (field_part m x p s)
  field_by m x p s (Err by) is = rule.disabled_pat_field is (field_part m x p s)

  pub pat_field_level : (y : RecordPatFieldLayer (claimed a n)) (p : LowerCtx)
      → (let f = bare_pat_field a n y in PatFieldAs a (at n p) (node (at n p) f.id f.range) f.name f.pat
      (of.pat_field_step a (itself (entering a n)) (mapped_pat_field a (entering a n) f) (at n p)))
  pat_field_level y p = let s = node p y.id y.range in field_by y.name y.pat p s (a.cfg (site s)) refl
