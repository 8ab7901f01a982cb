-- What is done of an element and of a callee that is a call, one step after another.
use Rattle.std.proofs.Common.{◌≡◌, ◌∙◌, ap, sym, Option, Some, None, Ok, Err, true, false}
use Rattle.std.specs.Prelude.{if◌then◌else◌}
use Rattle.hir_syntax.specs.declared.ast.ElseBranch.TheOpen.{ExprKind-F}
use Rattle.hir_syntax.specs.declared.ast.Expr.{Expr as AstExpr}
use Rattle.hir_syntax.specs.declared.ast.ExprKind.{out-ExprKind}
use Rattle.hir_syntax.specs.declared.macros.MacroCall.{MacroCall as AstMacroCall}
use Rattle.hir_store.specs.Pointers.{Pointer}
use Rattle.hir_store.specs.Range.{Grows, HasPat, HasPatOption}
use Rattle.hir_store.specs.Stored.{Stored}
use Rattle.hir_store.specs.declared.error.StoreError.{StoreError}
use Rattle.hir_store.specs.declared.ids.PatId.{PatId}
use Rattle.hir_store.specs.declared.pat.Pat.TheVariants as pat
use Rattle.hir_env.specs.ResolveCtx.{ResolveCtx}
use Rattle.hir_env.specs.Targets.{element_of, origin, outermost, place_of, target_or}
use Rattle.hir_env.specs.Whole.{resolved_expr, own_pointer, pointer_at}
use Rattle.hir_env.specs.declared.expand.FragmentKind.TheVariants as kind
use Rattle.hir_env.proofs.Pointers.{pointer_is_own}
use Rattle.hir_lower_builder.specs.Builder.{Builder}
use Rattle.hir_lower_builder.specs.Calls.{Found, entered_at}
use Rattle.hir_lower_builder.specs.Families.{IsNoCall}
use Rattle.hir_lower_builder.specs.Forms.{some}
use Rattle.hir_lower_builder.specs.Lower.{lower_target}
use Rattle.hir_lower_builder.specs.Lowering.{Checked, Lowering, Lowers, ◌>>=◌, ◌>>◌, go_on, pure}
use Rattle.hir_lower_builder.specs.Targets.{alloc_target, missing_target}
use Rattle.hir_lower_pat.specs.Assignees.{Assignees, assignee_of, dots_kind, element_found, found_at, pat_of_assignee, assignee_pat}
use Rattle.hir_lower_pat.specs.Assignees.{track_calls}
use Rattle.hir_lower_pat.specs.Calls.{ExprThere, expr_there, target_element_there}
use Rattle.hir_lower_pat.specs.TargetLists.{element_call}
use Rattle.hir_lower_pat.specs.declared.assignees.Assignee.{Assignee}
use Rattle.hir_lower_pat.proofs.AssigneeLemmas.{dots_are, lands}
use Rattle.hir_lower_pat.proofs.AssigneeSteps.{same_steps}
use Rattle.hir_lower_pat.proofs.AssigneeFuel.{behind_first, grows_on}
use Rattle.hir_lower_pat.proofs.ElementSteps.{some_has}
use Rattle.hir_lower_pat.proofs.TargetElements.{dots_alone, element_is, lacking_element, no_emitted}

-- a pattern that is lowered is an element
pub some_lowers : (p : Lowering PatId) (old : Builder) (i : PatId) (new : Builder) → Lowers HasPat p old (Ok i) new
    → Lowers HasPatOption (some p) old (Ok (Some i)) new
some_lowers p old i new h = (ap (λ r. go_on r.0 r.1 (λ j. pure (Some j))) h.0, h.1, some_has new.stored i h.2)

pub some_refused : (p : Lowering PatId) (old : Builder) (e : StoreError) (new : Builder) → p old ≡ (Err e, new)
    → some p old ≡ (Err e, new)
some_refused p old e new h = ap (λ r. go_on r.0 r.1 (λ j. pure (Some j))) h

-- what is told of a call, and then what is there

module _ {A : Type 0} (Has : Stored → A → Type 0) (at : ResolveCtx) (c : AstMacroCall) (there : ExprThere → Lowering A)
    (old mid : Builder) where
  abbrev steps : Lowering A
  steps = entered_at at kind.Expr c >>= (λ f. there (expr_there f))

  -- refused where it is asked about
  pub unasked : (e : StoreError) → entered_at at kind.Expr c old ≡ (Err e, mid) → steps old ≡ (Err e, mid)
  unasked e h = ap (λ r. go_on r.0 r.1 (λ f. there (expr_there f))) h

  pub found : (f : Found) (x : ExprThere) → entered_at at kind.Expr c old ≡ (Ok f, mid) → expr_there f ≡ x → steps old ≡ there x mid
  found f x h k = ap (λ r. go_on r.0 r.1 (λ g. there (expr_there g))) h ∙ ap (λ y. there y mid) k

  pub found_lowers : (f : Found) (x : ExprThere) → entered_at at kind.Expr c old ≡ (Ok f, mid) → expr_there f ≡ x
      → (r : Checked A) (new : Builder) → Grows old.stored mid.stored → Lowers Has (there x) mid r new → Lowers Has steps old r new
  found_lowers f x h k (Ok a) new grown l =
      (found f x h k ∙ l.0, grows_on old.stored mid.stored new.stored grown l.1, l.2)
  found_lowers f x h k (Err e) new grown l = λ other. let m = l other in (found f x h k ∙ m.0, m.1)

-- an element that is a call

-- one that the text lacks
pub lacking_lowers : (at : ResolveCtx) (call : Option Pointer) (e : AstExpr) (s : Pointer) (old new : Builder) (i : PatId)
    → out-ExprKind e.kind ≡ ExprKind-F.MacroExpr None → s ≡ pointer_at at e.id e.range
    → Lowers HasPat (alloc_target pat.Missing (origin call s)) old (Ok i) new
    → Lowers HasPatOption (element_found (found_at at) call (resolved_expr at e)) old (Ok (Some i)) new
lacking_lowers at call e s old new i h own l =
    let steps = alloc_target pat.Missing (origin call s) in
    same_steps HasPatOption (element_found (found_at at) call (resolved_expr at e)) (some steps) old (Ok (Some i)) new
    (lacking_element at call e old h ∙ ap (λ p. some (alloc_target pat.Missing (origin call p)) old) (sym own))
    (some_lowers steps old i new l)

-- an element that is no call

module _ (at : ResolveCtx) (call : Option Pointer) (e : AstExpr) (alone : IsNoCall (out-ExprKind e.kind)) where
  pub dots_found : (b : Builder) → dots_kind (out-ExprKind e.kind) ≡ true
      → element_found (found_at at) call (resolved_expr at e) b ≡ (Ok None, b)
  dots_found b h =
      let dots = dots_alone at e alone ∙ (dots_are at e ∙ h) in
      let part = some (lower_target (element_of (found_at at) call (resolved_expr at e))) in
      ap (λ c. (if c then track_calls (resolved_expr at e) >> pure None else part) b) dots
      ∙ ap (λ m. (m >> pure None) b) (no_emitted at e alone)

  pub part_found : (b : Builder) → dots_kind (out-ExprKind e.kind) ≡ false
      → element_found (found_at at) call (resolved_expr at e) b
      ≡ some (assignee_pat (found_at at) call (outermost call (own_pointer at e)) (resolved_expr at e)) b
  part_found b h =
      let dots = dots_alone at e alone ∙ (dots_are at e ∙ h) in
      let x = resolved_expr at e in
      ap (λ c. (if c then track_calls x >> pure None else some (lower_target (element_of (found_at at) call x))) b) dots
      ∙ (ap (λ t. some (lower_target t) b) (element_is at e alone (found_at at) call (target_or (found_at at) call (place_of call x) x))
      ∙ (ap (λ r. go_on r.0 r.1 (λ i. pure (Some i))) (lands (found_at at) call x b)
      ∙ ap (λ s. some (assignee_pat (found_at at) call (outermost call s) x) b) (pointer_is_own at e)))

  -- what comes of it, and then its pattern
  module _ (aimed_at : Assignee) (source : Pointer) (old mid new : Builder) (h : dots_kind (out-ExprKind e.kind) ≡ false)
      (own : source ≡ outermost call (own_pointer at e)) where
    abbrev steps_of : Lowering (Option PatId)
    steps_of = element_found (found_at at) call (resolved_expr at e)

    part_at : steps_of old ≡ some (assignee_pat (found_at at) call source (resolved_expr at e)) old
    part_at = part_found old h ∙ ap (λ s. some (assignee_pat (found_at at) call s (resolved_expr at e)) old) (sym own)

    pub part_landed : (i : PatId) → Assignees at call (resolved_expr at e) old (Ok aimed_at) mid
        → Lowers HasPat (pat_of_assignee source aimed_at) mid (Ok i) new
        → Lowers HasPatOption steps_of old (Ok (Some i)) new
    part_landed i a l =
        same_steps HasPatOption steps_of (some (assignee_pat (found_at at) call source (resolved_expr at e))) old (Ok (Some i)) new part_at
        (some_lowers (assignee_pat (found_at at) call source (resolved_expr at e)) old i new
        (behind_first HasPat (assignee_of (found_at at) call (resolved_expr at e)) (pat_of_assignee source) aimed_at old mid (Ok i)
        new a.0 a.1 l))

    pub part_unlanded : (x : StoreError) → Assignees at call (resolved_expr at e) old (Ok aimed_at) mid
        → pat_of_assignee source aimed_at mid ≡ (Err x, new)
        → steps_of old ≡ (Err x, new)
    part_unlanded x a l =
        part_at ∙ some_refused (assignee_pat (found_at at) call source (resolved_expr at e)) old x new
        (ap (λ r. go_on r.0 r.1 (pat_of_assignee source)) a.0 ∙ l)

    pub part_unaimed : (x : StoreError) → assignee_of (found_at at) call (resolved_expr at e) old ≡ (Err x, new)
        → steps_of old ≡ (Err x, new)
    part_unaimed x a =
        part_at ∙ some_refused (assignee_pat (found_at at) call source (resolved_expr at e)) old x new
        (ap (λ r. go_on r.0 r.1 (pat_of_assignee source)) a)
