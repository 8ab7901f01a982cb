-- What is done of a call as the pattern of a type, one step after another.
use Rattle.std.proofs.Common.{◌≡◌, ◌∙◌, ap, Some, None, Ok, Err}
use Rattle.hir_syntax.specs.declared.macros.MacroCall.{MacroCall as AstMacroCall}
use Rattle.hir_syntax.specs.declared.pats.Pat.{Pat as AstPat}
use Rattle.hir_store.specs.Pointers.{Pointer}
use Rattle.hir_store.specs.Range.{Grows, HasPat}
use Rattle.hir_store.specs.declared.error.StoreError.{StoreError}
use Rattle.hir_store.specs.declared.ids.PatId.{PatId}
use Rattle.hir_env.specs.ResolveCtx.{ResolveCtx}
use Rattle.hir_env.specs.TypePats.{type_pat_of}
use Rattle.hir_env.specs.declared.expand.FragmentKind.TheVariants as kind
use Rattle.hir_env.specs.declared.ctx.LowerCtx.{LowerCtx}
use Rattle.hir_lower_builder.specs.Builder.{Builder}
use Rattle.hir_lower_builder.specs.Calls.{Found, entered_at}
use Rattle.hir_lower_builder.specs.Lower.{lower_type_pat}
use Rattle.hir_lower_builder.specs.Lowering.{Checked, Lowering, Lowers, ◌>>=◌, go_on}
use Rattle.hir_lower_pat.specs.Calls.{There, missing_led, pat_there, point_lone, type_pat_there, written_call}
use Rattle.hir_lower_pat.proofs.AssigneeFuel.{grows_on}
use Rattle.hir_lower_pat.proofs.CallLemmas.{type_pat_on}

module _ (at : ResolveCtx) (s : Pointer) (c : AstMacroCall) (old mid : Builder) where
  abbrev steps : Lowering PatId
  steps = lower_type_pat (type_pat_of at.answers.lang_items (written_call at s c))

  abbrev behind : Found → Lowering PatId
  behind f = type_pat_there at (pat_there f) >>= point_lone s

  -- refused where it is asked about
  pub type_unasked : (e : StoreError) → entered_at at kind.Pat c old ≡ (Err e, mid) → steps old ≡ (Err e, mid)
  type_unasked e h = type_pat_on at s c old ∙ ap (λ r. go_on r.0 r.1 behind) h

  found : (f : Found) (x : There) → entered_at at kind.Pat c old ≡ (Ok f, mid) → pat_there f ≡ x
      → steps old ≡ (type_pat_there at x >>= point_lone s) mid
  found f x h k =
      type_pat_on at s c old ∙ (ap (λ r. go_on r.0 r.1 behind) h ∙ ap (λ y. (type_pat_there at y >>= point_lone s) mid) k)

  -- that it stands for no pattern
  pub type_missing : (f : Found) → entered_at at kind.Pat c old ≡ (Ok f, mid) → pat_there f ≡ None → (r : Checked PatId) (new : Builder)
      → Grows old.stored mid.stored → Lowers HasPat (missing_led s) mid r new → Lowers HasPat steps old r new
  type_missing f h k (Ok i) new grown l =
      (found f None h k ∙ l.0, grows_on old.stored mid.stored new.stored grown l.1, l.2)
  type_missing f h k (Err e) new grown l = λ other. let m = l other in (found f None h k ∙ m.0, m.1)

  -- that it stands for one
  module _ (f : Found) (q : LowerCtx) (x : AstPat) (h : entered_at at kind.Pat c old ≡ (Ok f, mid)) (k : pat_there f ≡ Some (q, x)) where
    pub type_refused : (e : StoreError) (new : Builder) → type_pat_there at (Some (q, x)) mid ≡ (Err e, new) → steps old ≡ (Err e, new)
    type_refused e new l = found f (Some (q, x)) h k ∙ ap (λ r. go_on r.0 r.1 (point_lone s)) l

    led : (i : PatId) (low new : Builder) (r : Checked PatId) → type_pat_there at (Some (q, x)) mid ≡ (Ok i, low)
        → point_lone s i low ≡ (r, new) → steps old ≡ (r, new)
    led i low new r l m = found f (Some (q, x)) h k ∙ (ap (λ z. go_on z.0 z.1 (point_lone s)) l ∙ m)

    pub type_led : (i : PatId) (low new : Builder) (r : Checked PatId) → Grows old.stored mid.stored
        → Lowers HasPat (type_pat_there at (Some (q, x))) mid (Ok i) low → Lowers HasPat (point_lone s i) low r new
        → Lowers HasPat steps old r new
    type_led i low new (Ok j) grown l m = (
      led i low new (Ok j) l.0 m.0,
      grows_on old.stored low.stored new.stored (grows_on old.stored mid.stored low.stored grown l.1) m.1,
      m.2,
    )
    type_led i low new (Err e) grown l m = λ other. let n = m other in (led i low new (Err e) l.0 n.0, n.1)
