-- A resolved pattern is one level of it around its answered parts.
use Rattle.std.proofs.Common.{◌≡◌, ◌∙◌, refl, List, [], ◌∷◌, Option, Some, None}
use Rattle.hir_base.specs.declared.node.AstPtr.{AstPtr}
use Rattle.hir_syntax.specs.declared.pats.PatKind.{PatKind as AstPatKind, out-PatKind}
use Rattle.hir_syntax.specs.declared.pats.Pat.{Pat as AstPat}
use Rattle.hir_syntax.specs.declared.pats.RecordPatField.{RecordPatField as AstRecordPatField, out-RecordPatField}
use Rattle.hir_syntax.specs.declared.ast.ElseBranch.TheOpen.{PatKind-F}
use Rattle.hir_store.specs.Pointers.{Pointer}
use Rattle.hir_env.specs.declared.ctx.LowerCtx.{LowerCtx}
use Rattle.hir_env.specs.Answers.{Answers}
use Rattle.hir_env.specs.ResolveCtx.{ResolveCtx, in_file, ptr, site_of}
use Rattle.hir_env.specs.Layers.{Reader, itself}
use Rattle.hir_env.specs.PatLayers.{PatKindLayer, RecordPatFieldLayer}
use Rattle.hir_env.specs.Paths.{mutability}
use Rattle.hir_env.specs.Answering.{name_written}
use Rattle.hir_env.specs.Pats as of
use Rattle.hir_env.specs.Folds.{written, reader, read_pat_kind, read_pat, read_pat_field}
use Rattle.hir_env.specs.ResolvedTree as tree
use Rattle.hir_env.specs.ResolvedTree.{Pat, PatField}
use Rattle.hir_env.specs.Whole.{resolved_pat, resolved_pat_field, pat_level, pat_field_level}
use Rattle.hir_env.proofs.Mapped.{beside, map_list, mapped_pat_kind, mapped_pat_field}
use Rattle.hir_env.proofs.Opened.{opened_pat_kind, opened_pat, opened_pat_field}
use Rattle.hir_env.proofs.PathLevels.{path_is, pat_is}
use Rattle.hir_env.specs.Layers.{Entering}
use Rattle.hir_env.specs.Whole.{into}
use Rattle.hir_env.specs.Folds.{fold_pat, fold_pat_field, fold_path}

pats_is : {A : Type 0} (h : A → LowerCtx → Pat) (xs : List A) (p : LowerCtx)
    → of.pats_of (λ y. y.1) (map_list (beside h) xs) p ≡ of.pats_of h xs p
pats_is h [] p = refl
pats_is h (x ∷ xs) p = λ j. tree.more_pats (h x p) (pats_is h xs p j)

elements_is : {A : Type 0} (h : A → LowerCtx → Pat) (xs : List A) (p : LowerCtx)
    → of.elements_of (λ y. y.1) (map_list (beside h) xs) p ≡ of.elements_of h xs p
elements_is h [] p = refl
elements_is h (x ∷ xs) p = λ j. of.element_in (h x p) (elements_is h xs p j)

pat_fields_is : {A : Type 0} (h : A → LowerCtx → PatField) (xs : List A) (p : LowerCtx)
    → of.pat_fields_of (λ y. y.1) (map_list (beside h) xs) p ≡ of.pat_fields_of h xs p
pat_fields_is h [] p = refl
pat_fields_is h (x ∷ xs) p = λ j. tree.more_pat_fields (h x p) (pat_fields_is h xs p j)

module _ (env : Answers) (into : Option Entering) where
  abbrev rd : Reader written
  rd = reader env into

  pat_at_is : (k : PatKindLayer written) (p : LowerCtx) (s : Pointer)
      → of.pat_at env (itself into) (mapped_pat_kind env into k) p s ≡ of.pat_at env rd k p s
  pat_at_is (PatKind-F.IdentPat n is_ref is_mut x) p s = λ j.
      of.ident_pat env p s (of.use_at env p n is_ref is_mut) (name_written n) (pat_is (fold_pat env into) x p j)
  pat_at_is (PatKind-F.TupleStructPat x comma xs) p s = λ j.
      tree.tuple_struct_pat s (path_is (fold_path env into) x p j) comma (elements_is (fold_pat env into) xs p j)
  pat_at_is (PatKind-F.TuplePat comma xs) p s = λ j. tree.tuple_pat s comma (elements_is (fold_pat env into) xs p j)
  pat_at_is (PatKind-F.RefPat is_mut x) p s = λ j. tree.over_pat s (tree.ref_to (mutability is_mut)) (pat_is (fold_pat env into) x p j)
  pat_at_is (PatKind-F.PathPat x) p s = λ j. tree.path_pat s (path_is (fold_path env into) x p j)
  pat_at_is (PatKind-F.OrPat xs) p s = λ j. tree.or_pat s (pats_is (fold_pat env into) xs p j)
  pat_at_is (PatKind-F.ParenPat x) p s = λ j. tree.paren_pat s (pat_is (fold_pat env into) x p j)
  pat_at_is (PatKind-F.BoxPat x) p s = λ j. tree.over_pat s tree.box_of (pat_is (fold_pat env into) x p j)
  pat_at_is (PatKind-F.DerefPat x) p s = λ j. tree.over_pat s tree.deref_of (pat_is (fold_pat env into) x p j)
  pat_at_is (PatKind-F.RecordPat x fs dots) p s = λ j.
      tree.record_pat s (path_is (fold_path env into) x p j) (pat_fields_is (fold_pat_field env into) fs p j) dots
  pat_at_is (PatKind-F.SlicePat xs y zs) p s = λ j.
      tree.slice_pat s (pats_is (fold_pat env into) xs p j) (pat_is (fold_pat env into) y p j) (pats_is (fold_pat env into) zs p j)
  pat_at_is (PatKind-F.LiteralPat l minus) p s = refl
  pat_at_is (PatKind-F.RangePat o x y) p s = λ j.
      tree.range_pat s o (of.side_of (pat_is (fold_pat env into) x p j)) (of.side_of (pat_is (fold_pat env into) y p j))
  pat_at_is (PatKind-F.CfgPredPat pred) p s = refl
  pat_at_is (PatKind-F.MacroPat None) p s = refl
  pat_at_is (PatKind-F.MacroPat (Some c)) p s = refl
  pat_at_is PatKind-F.WildcardPat p s = refl
  pat_at_is PatKind-F.RestPat p s = refl
  pat_at_is PatKind-F.NotNullPat p s = refl
  pat_at_is PatKind-F.ConstBlockPat p s = refl

  pat_kind_step_is : (k : PatKindLayer written) (n : AstPtr) (p : LowerCtx)
      → of.pat_kind_step env (itself into) (mapped_pat_kind env into k) n p ≡ of.pat_kind_step env rd k n p
  pat_kind_step_is k n p = pat_at_is k p (in_file p n)

  pat_field_step_is : (x : RecordPatFieldLayer written) (p : LowerCtx)
      → of.pat_field_step env (itself into) (mapped_pat_field env into x) p ≡ of.pat_field_step env rd x p
  pat_field_step_is x p = λ j. let s = in_file p (ptr x.id x.range) in
      of.asked_pat_field s (env.cfg (site_of s)) (of.pat_field_of s x.name (pat_is (fold_pat env into) x.pat p j))

  read_pat_kind_is : (k : AstPatKind) (n : AstPtr) (p : LowerCtx)
      → read_pat_kind env into k n p ≡ of.pat_kind_step env rd (out-PatKind k) n p
  read_pat_kind_is k n p = (λ j. opened_pat_kind env into k j n p) ∙ pat_kind_step_is (out-PatKind k) n p

  read_pat_is : (x : AstPat) (p : LowerCtx) → read_pat env into x p ≡ of.pat_kind_step env rd (out-PatKind x.kind) (ptr x.id x.range) p
  read_pat_is x p = (λ j. opened_pat env into x j p) ∙ read_pat_kind_is x.kind (ptr x.id x.range) p

  read_pat_field_is : (x : AstRecordPatField) (p : LowerCtx)
      → read_pat_field env into x p ≡ of.pat_field_step env rd (out-RecordPatField x) p
  read_pat_field_is x p = (λ j. opened_pat_field env into x j p) ∙ pat_field_step_is (out-RecordPatField x) p

pub pat_is_level : (at : ResolveCtx) (x : AstPat) → resolved_pat at x ≡ pat_level at x
pat_is_level at x = read_pat_is at.answers (into at) x at.place

pub pat_field_is_level : (at : ResolveCtx) (x : AstRecordPatField) → resolved_pat_field at x ≡ pat_field_level at x
pat_field_is_level at x = read_pat_field_is at.answers (into at) x at.place
