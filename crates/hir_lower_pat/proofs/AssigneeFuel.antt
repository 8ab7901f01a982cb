-- The lists of parts of targets, one part after another.
use Rattle.std.proofs.Common.{◌≡◌, ◌∙◌, ap, arith, slice_index_or, sym, List, [], ◌∷◌, ◌++◌, Option, Some, None, Ok, Err}
use Rattle.std.specs.Prelude.{◌≤◌, ◌-◌, drop, length, take}
use Rattle.hir_syntax.specs.declared.ast.RecordExprField.{RecordExprField as AstField}
use Rattle.hir_store.specs.Past.{Past, join, past_pat_field, past_pat_fields}
use Rattle.hir_store.specs.Range.{Grows, HasPatFields}
use Rattle.hir_store.specs.Stored.{Stored}
use Rattle.hir_store.specs.declared.error.StoreError.{StoreError}
use Rattle.hir_store.specs.declared.pat.RecordFieldPat.{RecordFieldPat}
use Rattle.hir_env.specs.ResolveCtx.{ResolveCtx}
use Rattle.hir_env.specs.Targets.{target_field_of, target_fields}
use Rattle.hir_env.specs.Whole.{resolved_field, fields_part}
use Rattle.hir_lower_builder.specs.Builder.{Builder}
use Rattle.hir_lower_builder.specs.Forms.{push_some}
use Rattle.hir_lower_builder.specs.Lowering.{Checked, Lowering, Lowers, ◌>>=◌, go_on}
use Rattle.hir_lower_builder.specs.Lower.{lower_target_field, lower_target_fields}
use Rattle.hir_lower_pat.specs.Assignees.{found_at}
use Rattle.hir_lower_pat.specs.Methods.{HasPatField}
use Rattle.hir_lower_pat.proofs.KindLemmas.{first_of}

-- no arena is shorter by two steps
pub grows_on : (a b c : Stored) → Grows a b → Grows b c → Grows a c
grows_on a b c g h = (
  omega (arith, g.0, h.0),
  omega (arith, g.1, h.1),
  omega (arith, g.2, h.2),
  omega (arith, g.3, h.3),
  omega (arith, g.4, h.4),
  omega (arith, g.5, h.5),
)

-- what is so of the steps behind a first step, which answered, is so of both
pub behind_first : {A B : Type 0} (Has : Stored → B → Type 0) (p : Lowering A) (q : A → Lowering B) (a : A) (old mid : Builder)
    (r : Checked B) (new : Builder) → p old ≡ (Ok a, mid) → Grows old.stored mid.stored → Lowers Has (q a) mid r new
    → Lowers Has (p >>= q) old r new
behind_first Has p q a old mid (Ok b) new is grown h =
    (ap (λ o. go_on o.0 o.1 q) is ∙ h.0, grows_on old.stored mid.stored new.stored grown h.1, h.2)
behind_first Has p q a old mid (Err x) new is grown h = λ no. (ap (λ o. go_on o.0 o.1 q) is ∙ (h no).0, (h no).1)

-- a field more
pub fields_has : (old new : Stored) (done more : List RecordFieldPat) (x : RecordFieldPat)
    → past_pat_fields more ≡ join (past_pat_fields done) (past_pat_field x) → Grows old new → HasPatFields old done
    → HasPatField new (Some x) → HasPatFields new more
fields_has old new done more x is g h k = (
  omega (arith, ap (λ (p : Past). p.exprs) is, g.0, h.0, k.0),
  omega (arith, ap (λ (p : Past). p.types) is, g.2, h.1, k.1),
  omega (arith, ap (λ (p : Past). p.lifetimes) is, g.3, h.2, k.2),
  omega (arith, ap (λ (p : Past). p.pats) is, g.4, h.3, k.3),
)

-- those that were there
pub fields_stay : (old new : Stored) (done : List RecordFieldPat) → Grows old new → HasPatFields old done → HasPatFields new done
fields_stay old new done g h =
    (omega (arith, g.0, h.0), omega (arith, g.2, h.1), omega (arith, g.3, h.2), omega (arith, g.4, h.3))

module _ (rctx : ResolveCtx) (xs : List AstField) (x : AstField) (b c : Builder) (done : List RecordFieldPat) where
  abbrev fields_behind : List AstField
  fields_behind = take (length xs - 1) (drop 1 xs)

  abbrev read : List AstField → List RecordFieldPat → Builder → Checked (List RecordFieldPat) × Builder
  read ys ds = lower_target_fields ds (target_fields (found_at rctx) (fields_part rctx ys))

  abbrev step : Builder → Checked (Option RecordFieldPat) × Builder
  step = lower_target_field (target_field_of (found_at rctx) (resolved_field rctx x))

  iteration : x ≡ slice_index_or xs 0 x → 1 ≤ length xs
      → read xs done b ≡ go_on (step b).0 (step b).1 (λ o. read fields_behind (push_some done o))
  iteration h le = ap (λ ys. read ys done b) (first_of xs x h le)

  pub field_refused : (e : StoreError) → x ≡ slice_index_or xs 0 x → 1 ≤ length xs → step b ≡ (Err e, c) → read xs done b ≡ (Err e, c)
  field_refused e h le is =
      iteration h le
      ∙ ap (λ (r : Checked (Option RecordFieldPat) × Builder). go_on r.0 r.1 (λ o. read fields_behind (push_some done o))) is

  pub field_more : (f : RecordFieldPat) (more : List RecordFieldPat) → x ≡ slice_index_or xs 0 x → 1 ≤ length xs
      → step b ≡ (Ok (Some f), c) → more ≡ done ++ f ∷ [] → read xs done b ≡ read fields_behind more c
  field_more f more h le is pushed =
      iteration h le
      ∙ (ap (λ (r : Checked (Option RecordFieldPat) × Builder). go_on r.0 r.1 (λ o. read fields_behind (push_some done o))) is
      ∙ ap (λ ds. read fields_behind ds c) (sym pushed))

  pub field_left_out : x ≡ slice_index_or xs 0 x → 1 ≤ length xs → step b ≡ (Ok None, c) → read xs done b ≡ read fields_behind done c
  field_left_out h le is =
      iteration h le
      ∙ ap (λ (r : Checked (Option RecordFieldPat) × Builder). go_on r.0 r.1 (λ o. read fields_behind (push_some done o))) is
