-- A call that may be entered is asked about, and what is told of it is what entering it tells.
use Rattle.std.proofs.Common.{arith, ◌≡◌, ◌∙◌, ap, refl, subst, sym, ℕ, zero, suc, ◌-◌, ◌≢◌}
use Rattle.hir_syntax.specs.declared.macros.MacroCall.{MacroCall as AstMacroCall}
use Rattle.hir_base.specs.declared.node.InFile.{InFile}
use Rattle.hir_base.specs.declared.node.NodeId.{NodeId}
use Rattle.hir_store.specs.Pointers.{Pointer}
use Rattle.hir_env.specs.Answers.{Expanding}
use Rattle.hir_env.specs.Calls.{asked_call, call_pointer}
use Rattle.hir_env.specs.ResolveCtx.{ResolveCtx, site_of}
use Rattle.hir_env.specs.declared.expand.FragmentKind.{FragmentKind}
use Rattle.hir_env.specs.declared.expand.FragmentKind.TheVariants as kind
use Rattle.hir_env.specs.declared.ctx.LowerCtx.{LowerCtx}
use Rattle.hir_lower_builder.specs.Builder.{Builder}
use Rattle.hir_lower_builder.specs.Calls.{Found, enter_left, entered_at, splice_entered, splice_left, splice_step, emitted_step}
use Rattle.hir_lower_builder.specs.Lowering.{Checked, Lowering, Lowers}
use Rattle.hir_lower_builder.specs.Methods.{HasRead}

-- one less than what isn't none is one of which it is the next
next : (n : ℕ) → n ≢ 0 → suc (n - 1) ≡ n
next zero h = absurd (h refl)
next (suc n) h = omega arith

module _ (at : ResolveCtx) (c : AstMacroCall) (p : LowerCtx) (s : Pointer) (n : InFile NodeId) (is_place : p ≡ at.place)
    (is_node : s ≡ call_pointer at.place c) (is_site : n ≡ site_of s) (left : p.left ≢ 0) where
  left_is : suc (p.left - 1) ≡ at.place.left
  left_is = next p.left left ∙ ap (λ q. q.left) is_place

  asked_is : (k : FragmentKind) (x : Expanding) → x ≡ at.answers.expand n c at.place.module_id k → x ≡ asked_call at.answers k c at.place
  asked_is k x is_asked = is_asked ∙ ap (λ m. at.answers.expand m c at.place.module_id k) (is_site ∙ ap site_of is_node)

  step_is : (step : Pointer → ℕ → LowerCtx → Expanding → Lowering Found) (k : FragmentKind) (x : Expanding)
      → x ≡ at.answers.expand n c at.place.module_id k
      → step s (p.left - 1) p x ≡ step (call_pointer at.place c) (p.left - 1) at.place (asked_call at.answers k c at.place)
  step_is step k x is_asked =
      ap (λ y. step y (p.left - 1) p x) is_node
      ∙ (ap (λ q. step (call_pointer at.place c) (p.left - 1) q x) is_place
      ∙ ap (λ y. step (call_pointer at.place c) (p.left - 1) at.place y) (asked_is k x is_asked))

  module _ (old : Builder) (r : Checked Found) (new : Builder) where
    pub entered_on : (k : FragmentKind) (x : Expanding) → x ≡ at.answers.expand n c at.place.module_id k
        → Lowers HasRead (emitted_step s (p.left - 1) p x) old r new → Lowers HasRead (entered_at at k c) old r new
    entered_on k x is_asked =
        subst (λ m. Lowers HasRead m old r new)
        (step_is emitted_step k x is_asked ∙ ap (λ m. enter_left at.answers k c m at.place) left_is)

    pub splice_on : (x : Expanding) → x ≡ at.answers.expand n c at.place.module_id kind.Stmts
        → Lowers HasRead (splice_step s (p.left - 1) p x) old r new → Lowers HasRead (splice_entered at c) old r new
    splice_on x is_asked =
        subst (λ m. Lowers HasRead m old r new)
        (step_is splice_step kind.Stmts x is_asked ∙ ap (λ m. splice_left at.answers c m at.place) left_is)
