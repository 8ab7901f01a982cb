-- The parts of a level are smaller than the whole, as they are answered.
use Rattle.std.proofs.Common.{arith, ◌≡◌, ◌∙◌, ap, refl, ℕ, ◌<◌, ◌≤◌, Bool, ◌&&◌}
use Rattle.std.proofs.Common.{List, [], ◌∷◌, Option, Some, None}
use Rattle.std.specs.Prelude.{Result, Ok, Err}
use Rattle.hir_syntax.specs.declared.ast.ElseBranch.TheOpen.{PatKind-F}
use Rattle.hir_syntax.specs.declared.ast.Name.{Name as AstName}
use Rattle.hir_syntax.specs.declared.ast.Path.{Path as AstPath}
use Rattle.hir_syntax.specs.declared.macros.MacroCall.{MacroCall as AstMacroCall}
use Rattle.hir_syntax.specs.declared.pats.Pat.{Pat as AstPat}
use Rattle.hir_syntax.specs.declared.pats.RecordPatField.{RecordPatField as AstPatField, out-RecordPatField}
use Rattle.hir_store.specs.Names.{IsWritten}
use Rattle.hir_store.specs.Pointers.{Pointer}
use Rattle.hir_store.specs.declared.ids.CfgId.{CfgId}
use Rattle.hir_env.specs.ResolveCtx.{ResolveCtx, site_of}
use Rattle.hir_env.specs.ResolvedTree.{PatField, Use}
use Rattle.hir_env.specs.Answering.{name_written}
use Rattle.hir_env.specs.Count.{count_option_pat, count_pat, count_pat_field, count_pat_fields, count_pats}
use Rattle.hir_env.specs.PatLayers.{PatKindLayer}
use Rattle.hir_env.specs.Pats.{asked_pat_field, name_or_bind, pat_at, pat_field_of, use_at}
use Rattle.hir_env.specs.TypePats.{is_plain}
use Rattle.hir_env.specs.Whole.{resolved_pat, resolved_pat_field, elements_part, into, pat_fields_part, pat_part, pats_part}
use Rattle.hir_env.specs.Whole.{pointer_at, reader, written}
use Rattle.hir_env.proofs.PatLevels.{pat_field_is_level}
use Rattle.hir_lower_builder.specs.Nests.{Each, IfPresent, KidsOfPat, KidsPatFields}
use Rattle.hir_lower_pat.specs.Methods.{AnyCall}
use Rattle.hir_lower_pat.proofs.Elements.{count_in}

-- a condition counts for nothing
count_kept : (s : Pointer) (r : Result (Unit {0}) CfgId) (f : PatField) → count_pat_field (asked_pat_field s r f) ≡ count_pat_field f
count_kept s (Ok _) f = refl
count_kept s (Err by) f = refl

-- with what may be handed in to one lowering, as far as it is smaller, and to another
module _ (at : ResolveCtx) (pattern inside : AstPat → Type 0) (path : AstPath → Type 0) (call : AstMacroCall → Type 0) (n : ℕ)
    (below : (x : AstPat) → pattern x → count_pat (resolved_pat at x) < n → inside x) where
  part : (o : Option AstPat) → IfPresent pattern o → count_option_pat (pat_part at o) < n → IfPresent inside o
  part None c h = tt
  part (Some x) c h = below x c h

  each : (xs : List AstPat) → Each pattern xs → count_pats (pats_part at xs) < n → Each inside xs
  each [] c h = tt
  each (x ∷ xs) c h = (below x c.0 (omega (arith, h)), each xs c.1 (omega (arith, h)))

  each_element : (xs : List AstPat) → Each pattern xs → count_pats (elements_part at xs) < n → Each inside xs
  each_element [] c h = tt
  each_element (x ∷ xs) c h =
      let same = count_in (resolved_pat at x) (elements_part at xs) in
      (below x c.0 (omega (arith, h, same)), each_element xs c.1 (omega (arith, h, same)))

  -- a field without its part counts for nothing
  own : (s : Pointer) (m : Option AstName) (o : Option AstPat) → IfPresent pattern o
      → count_pat_field (pat_field_of s m (pat_part at o)) < n → IfPresent inside o
  own s m None c h = tt
  own s m (Some x) c h = below x c h

  field : (f : AstPatField) → IfPresent pattern (out-RecordPatField f).pat → count_pat_field (resolved_pat_field at f) < n
      → IfPresent inside (out-RecordPatField f).pat
  field f c h =
      let y = out-RecordPatField f in
      let s = pointer_at at y.id y.range in
      let read = pat_field_of s y.name (pat_part at y.pat) in
      let same : count_pat_field (resolved_pat_field at f) ≡ count_pat_field read =
      ap count_pat_field (pat_field_is_level at f) ∙ count_kept s (at.answers.cfg (site_of s)) read in
      own s y.name y.pat c (omega (arith, h, same))

  fields : (fs : List AstPatField) → KidsPatFields pattern fs → count_pat_fields (pat_fields_part at fs) < n → KidsPatFields inside fs
  fields [] c h = tt
  fields (f ∷ fs) c h = (field f c.0 (omega (arith, h)), fields fs c.1 (omega (arith, h)))

  -- a name with something behind `@` binds
  ident : (s : Pointer) (u : Use) (w : IsWritten u.name) (found : Bool) (o : Option AstPat) → IfPresent pattern o
      → count_pat (name_or_bind (is_plain u (pat_part at o) && found) s u w (pat_part at o)) ≤ n → IfPresent inside o
  ident s u w found None c h = tt
  ident s u w found (Some x) c h = below x c (omega (arith, h))

  pub kids : (s : Pointer) (k : PatKindLayer written) → KidsOfPat pattern path call k
      → count_pat (pat_at at.answers (reader at.answers (into at)) k at.place s) ≤ n → KidsOfPat inside path AnyCall k
  kids s (PatKind-F.IdentPat m is_ref is_mut x) c h = ident s (use_at at.answers at.place m is_ref is_mut) (name_written m) _ x c h
  kids s (PatKind-F.TupleStructPat x comma ps) c h = (c.0, each_element ps c.1 (omega (arith, h)))
  kids s (PatKind-F.TuplePat comma ps) c h = each_element ps c (omega (arith, h))
  kids s (PatKind-F.RefPat is_mut x) c h = part x c (omega (arith, h))
  kids s (PatKind-F.PathPat x) c h = c
  kids s (PatKind-F.OrPat ps) c h = each ps c (omega (arith, h))
  kids s (PatKind-F.ParenPat x) c h = part x c (omega (arith, h))
  kids s (PatKind-F.BoxPat x) c h = part x c (omega (arith, h))
  kids s (PatKind-F.DerefPat x) c h = part x c (omega (arith, h))
  kids s (PatKind-F.RecordPat x fs dots) c h = (c.0, fields fs c.1 (omega (arith, h)))
  kids s (PatKind-F.SlicePat before x after) c h =
      (each before c.0 (omega (arith, h)), part x c.1 (omega (arith, h)), each after c.2 (omega (arith, h)))
  kids s (PatKind-F.LiteralPat l minus) c h = tt
  kids s (PatKind-F.RangePat op low high) c h = c
  kids s (PatKind-F.CfgPredPat pred) c h = tt
  kids s (PatKind-F.MacroPat None) c h = tt
  kids s (PatKind-F.MacroPat (Some x)) c h = tt
  kids s PatKind-F.WildcardPat c h = tt
  kids s PatKind-F.RestPat c h = tt
  kids s PatKind-F.NotNullPat c h = tt
  kids s PatKind-F.ConstBlockPat c h = tt
