-- What is done of a pattern where only a plain name or `_` may stand, by its kind.
use Rattle.std.proofs.Common.{◌≡◌, ◌∙◌, ap, subst, sym, Ok, Err}
use Rattle.hir_syntax.specs.declared.macros.MacroCall.{MacroCall as AstMacroCall}
use Rattle.hir_syntax.specs.declared.pats.Pat.{Pat as AstPat}
use Rattle.hir_syntax.specs.declared.pats.PatKind.{out-PatKind}
use Rattle.hir_store.specs.Pointers.{Pointer}
use Rattle.hir_store.specs.declared.error.StoreError.{StoreError}
use Rattle.hir_store.specs.declared.ids.PatId.{PatId}
use Rattle.hir_env.specs.ResolveCtx.{ResolveCtx}
use Rattle.hir_env.specs.TypePats.{bare_pat}
use Rattle.hir_env.specs.declared.expand.FragmentKind.TheVariants as kind
use Rattle.hir_lower_builder.specs.Builder.{Builder}
use Rattle.hir_lower_builder.specs.Calls.{Found, entered_at}
use Rattle.hir_lower_builder.specs.Lower.{lower_pat}
use Rattle.hir_lower_builder.specs.Lowering.{Checked, Lowering, ◌>>=◌, go_on}
use Rattle.hir_lower_builder.specs.Pats.{Table}
use Rattle.hir_lower_pat.specs.Bare.{Bare, bare_as, bare_kind, bare_there}
use Rattle.hir_lower_pat.specs.Calls.{There, pat_there, point_named, written_call}
use Rattle.hir_lower_pat.specs.Methods.{LowersPat}
use Rattle.hir_lower_pat.specs.declared.bindings.Bindings.{Bindings}
use Rattle.hir_lower_pat.proofs.BarePats.{bare_on}

-- one of this kind
pub bare_lowers : (at : ResolveCtx) (p : AstPat) (b : Bare) (was is : Bindings) (old : Builder) (r : Checked PatId) (new : Builder)
    → bare_kind (out-PatKind p.kind) ≡ b → LowersPat (bare_as at p b) was old r is new
    → LowersPat (bare_as at p (bare_kind (out-PatKind p.kind))) was old r is new
bare_lowers at p b was is old r new h = subst (λ c. LowersPat (bare_as at p c) was old r is new) (sym h)

-- calls, one step after another

module _ (at : ResolveCtx) (s : Pointer) (c : AstMacroCall) (old mid : Builder) where
  abbrev steps : Table → Lowering (PatId × Table)
  steps = lower_pat (bare_pat (written_call at s c))

  abbrev behind : Table → Found → Lowering (PatId × Table)
  behind t f = bare_there at (pat_there f) t >>= point_named s

  -- refused where it is asked about
  pub bare_unasked : (t : Table) (e : StoreError) → entered_at at kind.Pat c old ≡ (Err e, mid) → steps t old ≡ (Err e, mid)
  bare_unasked t e h = bare_on at s c t old ∙ ap (λ r. go_on r.0 r.1 (behind t)) h

  -- found, and refused where it is lowered
  pub bare_refused : (t : Table) (f : Found) (x : There) (e : StoreError) (new : Builder) → entered_at at kind.Pat c old ≡ (Ok f, mid)
      → pat_there f ≡ x → bare_there at x t mid ≡ (Err e, new) → steps t old ≡ (Err e, new)
  bare_refused t f x e new h k l =
      bare_on at s c t old
      ∙ (ap (λ r. go_on r.0 r.1 (behind t)) h
      ∙ (ap (λ y. (bare_there at y t >>= point_named s) mid) k ∙ ap (λ r. go_on r.0 r.1 (point_named s)) l))
