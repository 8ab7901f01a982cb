-- What patterns are in types.
use Rattle.std.proofs.Common.{◌≡◌, ◌∙◌, ap, refl, sym, suc, ◌+◌, slice_index_or}
use Rattle.std.proofs.Common.{Bool, true, false, List, [], ◌∷◌, ◌++◌, Option, Some, None, Ok, Err}
use Rattle.std.specs.Prelude.{◌≤◌, ◌-◌, ◌≢◌, drop, length, take, IsErrAnd}
use Rattle.hir_syntax.specs.declared.ast.ElseBranch.TheOpen.{PatKind-F}
use Rattle.hir_syntax.specs.declared.ast.Name.{Name as AstName}
use Rattle.hir_syntax.specs.declared.ast.Path.{Path as AstPath}
use Rattle.hir_syntax.specs.declared.macros.MacroCall.{MacroCall as AstMacroCall}
use Rattle.hir_syntax.specs.declared.pats.Pat.{Pat as AstPat}
use Rattle.hir_syntax.specs.declared.pats.PatKind.{PatKind as AstPatKind, out-PatKind, out-roll-PatKind}
use Rattle.hir_syntax.specs.declared.pats.PatKind.{roll-PatKind, roll-out-PatKind}
use Rattle.hir_syntax.specs.declared.pats.PatKind.TheVariants as kind
use Rattle.hir_syntax.specs.declared.pats.PatLiteral.{PatLiteral}
use Rattle.hir_base.specs.declared.op.RangeOp.{RangeOp}
use Rattle.hir_store.specs.Pointers.{Pointer}
use Rattle.hir_env.specs.Answers.{Answers}
use Rattle.hir_env.specs.Calls.{entered_pat}
use Rattle.hir_env.specs.Layers.{Entering}
use Rattle.hir_env.specs.ResolveCtx.{ResolveCtx}
use Rattle.hir_env.specs.declared.ctx.LowerCtx.{LowerCtx}
use Rattle.hir_env.specs.ResolvedTree as tree
use Rattle.hir_env.specs.ResolvedTree.{OptionPat, Pat, Side, Use}
use Rattle.hir_env.specs.Answering.{name_written}
use Rattle.hir_env.specs.PatLayers.{PatKindLayer}
use Rattle.hir_env.specs.Pats.{is_found, minus_fits, name_or_bind, pat_at, plain_side, side_of, use_at}
use Rattle.hir_env.specs.TypePats.{end_at, end_limit, is_plain, start_limit, type_pat_of, type_pats_of}
use Rattle.hir_env.specs.Count.{count_pat, count_pats}
use Rattle.hir_env.specs.Whole.{resolved_pat, into, pat_level, pat_part, pats_part, pointer_at, reader, written}
use Rattle.hir_env.proofs.PatLevels.{pat_is_level}
use Rattle.hir_env.specs.declared.lang.LangItems.{LangItems}
use Rattle.hir_store.specs.Names.{IsWritten}
use Rattle.hir_store.specs.Stored.{Stored}
use Rattle.hir_store.specs.declared.error.StoreError.{StoreError}
use Rattle.hir_store.specs.declared.error.StoreError.TheVariants.{Memory}
use Rattle.hir_store.specs.declared.ids.PatId.{PatId}
use Rattle.hir_store.specs.declared.name.Name.{Name}
use Rattle.hir_lower_builder.specs.Builder.{Builder}
use Rattle.hir_lower_builder.specs.Lower.{limit_side, lower_type_pat, lower_type_pats, missing}
use Rattle.hir_lower_builder.specs.Lowering.{Checked, Lowering, Lowers, SomeEnd, go_on}
use Rattle.hir_lower_pat.specs.TypePats.{IsOther}
use Rattle.hir_lower_pat.proofs.KindLemmas.{first_of, named_side, of_either}

abbrev level : ResolveCtx → PatKindLayer written → Pointer → Pat
level at k s = pat_at at.answers (reader at.answers (into at)) k at.place s

-- ends

-- a side that is written
abbrev IsSide : Side → Type 0
IsSide tree.no_side = ⊥
IsSide s = Unit {0}

plain_is_side : (b : Bool) (s : Pointer) (n : Name) (w : IsWritten n) → IsSide (plain_side b s n w)
plain_is_side true s n w = tt
plain_is_side false s n w = tt

is_side : (q : Pat) → IsSide (side_of (tree.some_pat q))
is_side (tree.leaf_pat s l) = tt
is_side (tree.bind_pat s u w q) = plain_is_side (is_plain u q) s u.name w
is_side (tree.name_pat s u _) = tt
is_side (tree.path_pat s x) = tt
is_side (tree.tuple_struct_pat s x comma ps) = tt
is_side (tree.tuple_pat s comma ps) = tt
is_side (tree.record_pat s x fs dots) = tt
is_side (tree.or_pat s ps) = tt
is_side (tree.paren_pat s q) = tt
is_side (tree.macro_pat s c q) = tt
is_side (tree.barred_pat s) = tt
is_side (tree.slice_pat s ps q qs) = tt
is_side (tree.over_pat s form q) = tt
is_side (tree.literal_pat s None l) = tt
is_side (tree.literal_pat s (Some from) l) = tt
is_side (tree.range_pat s o a b) = tt

start_written : (items : LangItems) (s : Side) → IsSide s → start_limit items s ≡ tree.side_limit s
start_written items tree.no_side h = absurd h
start_written items (tree.literal_side s l) h = refl
start_written items (tree.name_side s n _) h = refl
start_written items (tree.path_side s x) h = refl
start_written items tree.other_side h = refl

end_written : (items : LangItems) (o : Option RangeOp) (s : Side) → IsSide s → end_limit items o s ≡ end_at items o s
end_written items o tree.no_side h = absurd h
end_written items o (tree.literal_side s l) h = refl
end_written items o (tree.name_side s n _) h = refl
end_written items o (tree.path_side s x) h = refl
end_written items o tree.other_side h = refl

-- a start that is written is what is written
pub start_is_side : (items : LangItems) (q : Pat)
    → start_limit items (side_of (tree.some_pat q)) ≡ tree.side_limit (side_of (tree.some_pat q))
start_is_side items q = start_written items (side_of (tree.some_pat q)) (is_side q)

-- and so is an end, or the last before it
pub end_is_side : (items : LangItems) (o : Option RangeOp) (q : Pat)
    → end_limit items o (side_of (tree.some_pat q)) ≡ end_at items o (side_of (tree.some_pat q))
end_is_side items o q = end_written items o (side_of (tree.some_pat q)) (is_side q)

-- sides

made : (k : AstPatKind) (l : PatKindLayer written) → out-PatKind k ≡ l → k ≡ roll-PatKind l
made k l h = sym (roll-out-PatKind k) ∙ ap roll-PatKind h

-- a name that isn't plain is no side
no_name : (at : ResolveCtx) (s : Pointer) (n : Option AstName) (is_ref is_mut : Bool) (x : Option AstPat)
    → is_plain (use_at at.answers at.place n is_ref is_mut) (pat_part at x) ≡ false
    → limit_side (side_of (tree.some_pat (level at (PatKind-F.IdentPat n is_ref is_mut x) s))) ≡ missing
no_name at s n is_ref is_mut x h =
    let u = use_at at.answers at.place n is_ref is_mut in
    let q = pat_part at x in
    let w = name_written n in
    ap limit_side (named_side (is_plain u q) (is_found at.answers at.place u.name) s u w q refl
    ∙ ap (λ b. plain_side b s u.name w) h)

no_plain_name : (at : ResolveCtx) (s : Pointer) (n : Option AstName) (is_ref is_mut : Bool) (x : Option AstPat)
    → ((is_ref ≡ false) × (is_mut ≡ false) × (x ≡ None) → ⊥)
    → limit_side (side_of (tree.some_pat (level at (PatKind-F.IdentPat n is_ref is_mut x) s))) ≡ missing
no_plain_name at s n false false None other = absurd (other (refl, refl, refl))
no_plain_name at s n false true None other = no_name at s n false true None refl
no_plain_name at s n true false None other = no_name at s n true false None refl
no_plain_name at s n true true None other = no_name at s n true true None refl
no_plain_name at s n is_ref is_mut (Some y) other = no_name at s n is_ref is_mut (Some y) refl

-- and neither is a call
call_is_no_side : (env : Answers) (o : Option Entering) (c : AstMacroCall) (p : LowerCtx) (s : Pointer)
    → side_of (tree.some_pat (entered_pat env o c p s)) ≡ tree.other_side
call_is_no_side env None c p s = refl
call_is_no_side env (Some into) c p s = refl

pub no_limit_left : (at : ResolveCtx) (p : AstPat)
    → ((l : PatLiteral) (minus : Bool) → p.kind ≡ kind.LiteralPat (Some l) minus → ⊥)
    → ((n : Option AstName) → p.kind ≡ kind.IdentPat n false false None → ⊥)
    → ((x : Option AstPath) → p.kind ≡ kind.PathPat x → ⊥)
    → limit_side (side_of (tree.some_pat (pat_level at p))) ≡ missing
no_limit_left at p no_literal no_ident no_path = by (out-PatKind p.kind) refl
  where
    s : Pointer
    s = pointer_at at p.id p.range

    by : (l : PatKindLayer written) → out-PatKind p.kind ≡ l → limit_side (side_of (tree.some_pat (level at l s))) ≡ missing
    by (PatKind-F.LiteralPat None minus) h = refl
    by (PatKind-F.LiteralPat (Some l) minus) h = absurd (no_literal l minus (made p.kind _ h ∙ kind.rolls-LiteralPat (Some l) minus))
    by (PatKind-F.IdentPat n is_ref is_mut x) h = no_plain_name at s n is_ref is_mut x
        (λ e. no_ident n (made p.kind _ h ∙ (kind.rolls-IdentPat n is_ref is_mut x ∙ (λ j. kind.IdentPat n (e.0 j) (e.1 j) (e.2 j)))))
    by (PatKind-F.PathPat x) h = absurd (no_path x (made p.kind _ h ∙ kind.rolls-PathPat x))
    by (PatKind-F.TupleStructPat x comma ps) h = refl
    by (PatKind-F.TuplePat comma ps) h = refl
    by (PatKind-F.RefPat is_mut x) h = refl
    by (PatKind-F.OrPat ps) h = refl
    by (PatKind-F.ParenPat x) h = refl
    by (PatKind-F.MacroPat None) h = refl
    by (PatKind-F.MacroPat (Some c)) h = ap limit_side (call_is_no_side at.answers (into at) c at.place s)
    by (PatKind-F.BoxPat x) h = refl
    by (PatKind-F.DerefPat x) h = refl
    by (PatKind-F.RecordPat x fs dots) h = refl
    by (PatKind-F.SlicePat before x after) h = refl
    by (PatKind-F.RangePat o low high) h = refl
    by (PatKind-F.CfgPredPat pred) h = refl
    by PatKind-F.WildcardPat h = refl
    by PatKind-F.RestPat h = refl
    by PatKind-F.NotNullPat h = refl
    by PatKind-F.ConstBlockPat h = refl

-- patterns that no type has

name_is_other : (items : LangItems) (b : Bool) (s : Pointer) (u : Use) (w : IsWritten u.name) (q : OptionPat)
    → type_pat_of items (name_or_bind b s u w q) ≡ tree.other_type_pat s
name_is_other items true s u w q = refl
name_is_other items false s u w q = refl

other_at : (items : LangItems) (at : ResolveCtx) (k : PatKindLayer written) (s : Pointer) → IsOther k
    → type_pat_of items (level at k s) ≡ tree.other_type_pat s
other_at items at (PatKind-F.IdentPat n is_ref is_mut x) s h = name_is_other items _ s _ _ _
other_at items at (PatKind-F.TupleStructPat x comma ps) s h = refl
other_at items at (PatKind-F.TuplePat comma ps) s h = refl
other_at items at (PatKind-F.RefPat is_mut x) s h = refl
other_at items at (PatKind-F.PathPat x) s h = refl
other_at items at (PatKind-F.ParenPat x) s h = refl
other_at items at (PatKind-F.BoxPat x) s h = refl
other_at items at (PatKind-F.DerefPat x) s h = refl
other_at items at (PatKind-F.RecordPat x fs dots) s h = refl
other_at items at (PatKind-F.SlicePat before x after) s h = refl
other_at items at (PatKind-F.LiteralPat None minus) s h = refl
other_at items at (PatKind-F.LiteralPat (Some l) minus) s h =
    of_either (type_pat_of items) (minus_fits minus l.literal.lit) _ _ (tree.other_type_pat s) refl refl
other_at items at (PatKind-F.CfgPredPat pred) s h = refl
other_at items at PatKind-F.WildcardPat s h = refl
other_at items at PatKind-F.RestPat s h = refl
other_at items at PatKind-F.ConstBlockPat s h = refl
other_at items at PatKind-F.NotNullPat s h = absurd h
other_at items at (PatKind-F.OrPat ps) s h = absurd h
other_at items at (PatKind-F.MacroPat c) s h = absurd h
other_at items at (PatKind-F.RangePat o low high) s h = absurd h

pub other_is : (items : LangItems) (at : ResolveCtx) (p : AstPat) → IsOther (out-PatKind p.kind)
    → type_pat_of items (pat_level at p) ≡ tree.other_type_pat (pointer_at at p.id p.range)
other_is items at p h = other_at items at (out-PatKind p.kind) (pointer_at at p.id p.range) h

-- none of those is left where each was taken
pub others_left : (k : AstPatKind) → (k ≡ kind.NotNullPat → ⊥) → ((ps : List AstPat) → k ≡ kind.OrPat ps → ⊥)
    → ((o : Option RangeOp) (low high : Option AstPat) → k ≡ kind.RangePat o low high → ⊥)
    → ((c : Option AstMacroCall) → k ≡ kind.MacroPat c → ⊥) → IsOther (out-PatKind k)
others_left k no_null no_or no_range no_call = by (out-PatKind k) refl
  where
    by : (l : PatKindLayer written) → out-PatKind k ≡ l → IsOther l
    by PatKind-F.NotNullPat h = absurd (no_null (made k _ h ∙ kind.rolls-NotNullPat))
    by (PatKind-F.OrPat ps) h = absurd (no_or ps (made k _ h ∙ kind.rolls-OrPat ps))
    by (PatKind-F.RangePat o low high) h = absurd (no_range o low high (made k _ h ∙ kind.rolls-RangePat o low high))
    by (PatKind-F.MacroPat c) h = absurd (no_call c (made k _ h ∙ kind.rolls-MacroPat c))
    by _ h = tt

-- sizes

pub opened : {k : AstPatKind} {l : PatKindLayer written} → roll-PatKind l ≡ k → out-PatKind k ≡ l
opened {k} {l} h = ap out-PatKind (sym h) ∙ out-roll-PatKind l

-- alternatives are smaller than what they stand in
pub or_size : (at : ResolveCtx) (p : AstPat) (ps : List AstPat) → out-PatKind p.kind ≡ PatKind-F.OrPat ps
    → count_pat (resolved_pat at p) ≡ suc (count_pats (pats_part at ps))
or_size at p ps h = ap count_pat (pat_is_level at p) ∙ ap (λ k. count_pat (level at k (pointer_at at p.id p.range))) h

-- the first of a list, and what is behind it
pub first_size : (at : ResolveCtx) (xs : List AstPat) (x : AstPat) → x ≡ slice_index_or xs 0 x → 1 ≤ length xs
    → count_pats (pats_part at xs) ≡ count_pat (resolved_pat at x) + count_pats (pats_part at (take (length xs - 1) (drop 1 xs)))
first_size at xs x h le = ap (λ ys. count_pats (pats_part at ys)) (first_of xs x h le)

-- alternatives, one after another

module _ (items : LangItems) (at : ResolveCtx) (done : List PatId) (xs : List AstPat) (x : AstPat) (b c : Builder) where
  abbrev behind : List AstPat
  behind = take (length xs - 1) (drop 1 xs)

  abbrev left : List PatId → Builder → Checked (List PatId) × Builder
  left ids = lower_type_pats ids (type_pats_of items (pats_part at behind))

  iteration : x ≡ slice_index_or xs 0 x → 1 ≤ length xs
      → lower_type_pats done (type_pats_of items (pats_part at xs)) b
      ≡ go_on (lower_type_pat (type_pat_of items (resolved_pat at x)) b).0 (lower_type_pat (type_pat_of items (resolved_pat at x)) b).1
      (λ i. left (done ++ i ∷ []))
  iteration h le = ap (λ ys. lower_type_pats done (type_pats_of items (pats_part at ys)) b) (first_of xs x h le)

  pub refused : (e : StoreError) → x ≡ slice_index_or xs 0 x → 1 ≤ length xs
      → lower_type_pat (type_pat_of items (resolved_pat at x)) b ≡ (Err e, c)
      → lower_type_pats done (type_pats_of items (pats_part at xs)) b ≡ (Err e, c)
  refused e h le is = iteration h le ∙ ap (λ r. go_on r.0 r.1 (λ i. left (done ++ i ∷ []))) is

  pub one_more : (i : PatId) (ids : List PatId) → x ≡ slice_index_or xs 0 x → 1 ≤ length xs
      → lower_type_pat (type_pat_of items (resolved_pat at x)) b ≡ (Ok i, c) → ids ≡ done ++ i ∷ []
      → lower_type_pats done (type_pats_of items (pats_part at xs)) b ≡ left ids c
  one_more i ids h le is pushed =
      iteration h le ∙ (ap (λ r. go_on r.0 r.1 (λ j. left (done ++ j ∷ []))) is ∙ ap (λ js. left js c) (sym pushed))

-- what is refused is refused in what it stands in
pub handed_on : {A : Type 0} (Has : Stored → A → Type 0) (steps : Lowering A) (old : Builder) (e : StoreError) (r : Checked A)
    (new : Builder) → IsErrAnd r (λ f. f ≡ e) → (e ≢ Memory → (steps old ≡ (Err e, new)) × SomeEnd new)
    → Lowers Has steps old r new
handed_on Has steps old e (Ok a) new is h = absurd is
handed_on Has steps old e (Err f) new is h = rw is h
