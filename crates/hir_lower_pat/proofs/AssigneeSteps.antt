-- The forms of targets: that the steps of each are those of what it is.
use Rattle.std.proofs.Common.{◌≡◌, ◌∙◌, ap, refl, subst, sym, Bool, true, false, Option, Some, None, Ok, Err}
use Rattle.hir_syntax.specs.declared.ast.Expr.{Expr as AstExpr}
use Rattle.hir_syntax.specs.declared.ast.Name.{Name as AstName}
use Rattle.hir_syntax.specs.declared.ast.Path.{Path as AstPath}
use Rattle.hir_syntax.specs.declared.ast.RecordExprFieldList.{RecordExprFieldList as AstFieldList}
use Rattle.hir_store.specs.Pointers.{Pointer}
use Rattle.hir_store.specs.Range.{HasPat}
use Rattle.hir_store.specs.Stored.{Stored}
use Rattle.hir_store.specs.declared.ids.HygieneId.{HygieneId}
use Rattle.hir_store.specs.declared.ids.PatId.{PatId}
use Rattle.hir_store.specs.declared.pat.RecordFieldPat.{RecordFieldPat}
use Rattle.hir_env.specs.ResolveCtx.{ResolveCtx}
use Rattle.hir_env.specs.ResolvedTree as tree
use Rattle.hir_env.specs.ResolvedTree.{Expr, OptionPath, Path, Target}
use Rattle.hir_env.specs.Answering.{field_of}
use Rattle.hir_env.specs.Targets.{is_dots, origin, pointer_of, spread_pointer, target_field_of, target_of, target_or}
use Rattle.hir_env.specs.Whole.{resolved_expr, expr_part, own_pointer, path_part, record_part, spread_part, target_part}
use Rattle.hir_env.proofs.Levels.{record_is_level}
use Rattle.hir_env.proofs.Pointers.{pointer_is_own}
use Rattle.hir_lower_builder.specs.Builder.{Builder}
use Rattle.hir_lower_builder.specs.Lowering.{Checked, Lowering, Lowers, go_on}
use Rattle.hir_lower_builder.specs.Lower.{lower_target, lower_target_field}
use Rattle.hir_lower_builder.specs.Methods.{LowersTarget}
use Rattle.hir_lower_pat.specs.Assignees.{Assignees, HasAssignee, assignee_of, target_or_place, dots_tuple, found_at, pat_of_assignee}
use Rattle.hir_lower_pat.specs.Assignees.{assignee_pat, path_steps}
use Rattle.hir_lower_pat.specs.Assignees.{target_assignee, place_assignee}
use Rattle.hir_lower_pat.specs.Assignees.{record_with, through_parens}
use Rattle.hir_lower_pat.specs.declared.assignees.Assignee.{Assignee}
use Rattle.hir_lower_pat.specs.Methods.{HasPatField, field_name}
use Rattle.hir_lower_pat.proofs.AssigneeLemmas.{lands, paren_assignees, paren_dots, path_assignees}

-- what is so of steps is so of steps that do the same
pub same_steps : {A : Type 0} (Has : Stored → A → Type 0) (p q : Lowering A) (old : Builder) (r : Checked A) (new : Builder)
    → p old ≡ q old → Lowers Has q old r new → Lowers Has p old r new
same_steps Has p q old (Ok a) new e h = (e ∙ h.0, h.1, h.2)
same_steps Has p q old (Err x) new e h = λ no. (e ∙ (h no).0, (h no).1)

module _ (f : Path → Bool) where
  -- what comes of a whole target

  pub target_lands : (e : Expr) (at : Pointer) (old : Builder) (r : Checked PatId) (new : Builder) → pointer_of e ≡ at
      → Lowers HasPat (assignee_pat f None at e) old r new → LowersTarget (target_of f (tree.some_expr e)) old r new
  target_lands e at old r new is h =
      same_steps HasPat (lower_target (target_of f (tree.some_expr e))) (assignee_pat f None at e) old r new
      (lands f None e old ∙ ap (λ s. go_on (assignee_of f None e old).0 (assignee_of f None e old).1 (pat_of_assignee s)) is) h

  module _ (call : Option Pointer) where
    -- targets of their own and places

    pub place_assignees : (e : Expr) (old : Builder) (r : Checked Assignee) (new : Builder)
        → target_or f call (tree.absent_target None) e ≡ tree.absent_target None
        → Lowers HasAssignee (place_assignee e) old r new → Lowers HasAssignee (assignee_of f call e) old r new
    place_assignees e old r new is h =
        same_steps HasAssignee (assignee_of f call e) (place_assignee e) old r new (ap (λ t. target_or_place t e old) is) h

    -- parentheses

    pub dots_in_parens : (at : Pointer) (e : Expr) (old : Builder) (r : Checked Assignee) (new : Builder) → is_dots e ≡ true
        → Lowers HasAssignee (target_assignee (dots_tuple (origin call at))) old r new
        → Lowers HasAssignee (assignee_of f call (tree.paren_expr at (tree.some_expr e))) old r new
    dots_in_parens at e old r new is h =
        same_steps HasAssignee (assignee_of f call (tree.paren_expr at (tree.some_expr e)))
        (target_assignee (dots_tuple (origin call at))) old r new
        (ap (λ p. p old) (paren_dots f call at e is)) h

    pub goes_through_parens : (at : Pointer) (e : Expr) (old : Builder) (r : Checked Assignee) (new : Builder) → is_dots e ≡ false
        → Lowers HasAssignee (through_parens f call at e) old r new
        → Lowers HasAssignee (assignee_of f call (tree.paren_expr at (tree.some_expr e))) old r new
    goes_through_parens at e old r new is h =
        same_steps HasAssignee (assignee_of f call (tree.paren_expr at (tree.some_expr e))) (through_parens f call at e) old r new
        (paren_assignees f call at e old is) h

  -- fields

  partless : (s : Pointer) (n : Option AstName) → target_field_of f (field_of s n tree.no_expr) ≡ tree.partless_target_field
  partless s None = refl
  partless s (Some m) = refl

  with_part : (s : Pointer) (n : Option AstName) (e : Expr)
      → target_field_of f (field_of s n (tree.some_expr e)) ≡ tree.target_field s (field_name n) (target_of f (tree.some_expr e))
  with_part s None e = refl
  with_part s (Some m) e = refl

-- where they are read

pub target_lowers : (rctx : ResolveCtx) (part : Option AstExpr) (e x : AstExpr) (old : Builder) (r : Checked PatId) (new : Builder)
    → part ≡ Some e → x ≡ e → Lowers HasPat (assignee_pat (found_at rctx) None (own_pointer rctx x) (resolved_expr rctx x)) old r new
    → LowersTarget (target_part rctx part) old r new
target_lowers rctx part e x old r new is same h =
    let own : pointer_of (resolved_expr rctx e) ≡ own_pointer rctx x = pointer_is_own rctx e ∙ ap (own_pointer rctx) (sym same) in
    subst (λ o. LowersTarget (target_part rctx o) old r new) (sym is)
    (target_lands (found_at rctx) (resolved_expr rctx e) (own_pointer rctx x) old r new own
    (subst (λ y. Lowers HasPat (assignee_pat (found_at rctx) None (own_pointer rctx x) (resolved_expr rctx y)) old r new) same h))

-- what is written behind two dots has its own node
pub spread_is : (rctx : ResolveCtx) (part : Option AstExpr) (dots : Bool) (e x : AstExpr) (node : Pointer)
    → part ≡ Some e → x ≡ e → node ≡ own_pointer rctx x → spread_pointer (spread_part rctx part dots) ≡ Some node
spread_is rctx part dots e x node is same at =
    ap (λ o. spread_pointer (spread_part rctx o dots)) is
    ∙ ap Some (pointer_is_own rctx e ∙ (ap (own_pointer rctx) (sym same) ∙ sym at))

module _ (rctx : ResolveCtx) (call : Option Pointer) (at : Pointer) where
  pub path_lowers : (h k : HygieneId) (p : OptionPath) (old : Builder) (r : Checked Assignee) (new : Builder) → h ≡ k
      → Lowers HasAssignee (path_steps rctx (origin call at) h p) old r new → Assignees rctx call (tree.path_expr at p k) old r new
  path_lowers h k p old r new is q =
      same_steps HasAssignee (assignee_of (found_at rctx) call (tree.path_expr at p k)) (path_steps rctx (origin call at) h p) old r new
      (path_assignees rctx call at k p old ∙ ap (λ x. path_steps rctx (origin call at) x p old) (sym is)) q

  pub paren_lowers : (part : Option AstExpr) (e x : AstExpr) (old : Builder) (r : Checked Assignee) (new : Builder)
      → part ≡ Some e → x ≡ e → Assignees rctx call (tree.paren_expr at (tree.some_expr (resolved_expr rctx x))) old r new
      → Assignees rctx call (tree.paren_expr at (expr_part rctx part)) old r new
  paren_lowers part e x old r new is same h =
      subst (λ o. Assignees rctx call (tree.paren_expr at (expr_part rctx o)) old r new) (sym is)
      (subst (λ y. Assignees rctx call (tree.paren_expr at (tree.some_expr (resolved_expr rctx y))) old r new) same h)

  -- records

  abbrev is_record : Option AstPath → Option AstFieldList → Expr
  is_record p o =
      let read = record_part rctx o in
      tree.record_expr at (path_part rctx p) read.head read.fields read.spread

  abbrev aimed_at : Expr → Target
  aimed_at e = target_or (found_at rctx) call (tree.absent_target None) e

  pub record_lowers : (e : Expr) (p : Option AstPath) (o : Option AstFieldList) (l : AstFieldList) (old : Builder) (r : Checked Assignee)
      (new : Builder) → e ≡ is_record p o → o ≡ Some l
      → Lowers HasAssignee (target_assignee (record_with rctx (origin call at) p l)) old r new → Assignees rctx call e old r new
  record_lowers e p o l old r new is some q =
      let t : aimed_at e ≡ record_with rctx (origin call at) p l =
      ap aimed_at (is ∙ ap (is_record p) some)
      ∙ ap (λ x. aimed_at (tree.record_expr at (path_part rctx p) x.head x.fields x.spread)) (record_is_level rctx l) in
      same_steps HasAssignee (assignee_of (found_at rctx) call e) (target_assignee (record_with rctx (origin call at) p l)) old r new
      (ap (λ x. target_or_place x e old) t) q

  -- without a list it is a place
  pub listless_lowers : (e : Expr) (p : Option AstPath) (o : Option AstFieldList) (old : Builder) (r : Checked Assignee) (new : Builder)
      → e ≡ is_record p o → o ≡ None → Lowers HasAssignee (place_assignee e) old r new → Assignees rctx call e old r new
  listless_lowers e p o old r new is none q =
      place_assignees (found_at rctx) call e old r new (ap aimed_at (is ∙ ap (is_record p) none)) q

-- fields

module _ (rctx : ResolveCtx) (at : Pointer) where
  pub partless_lowers : (n : Option AstName) (part : Option AstExpr) (old : Builder) (r : Checked (Option RecordFieldPat)) (new : Builder)
      → part ≡ None → Lowers HasPatField (lower_target_field tree.partless_target_field) old r new
      → Lowers HasPatField (lower_target_field (target_field_of (found_at rctx) (field_of at n (expr_part rctx part)))) old r new
  partless_lowers n part old r new is h =
      let t : target_field_of (found_at rctx) (field_of at n (expr_part rctx part)) ≡ tree.partless_target_field =
      ap (λ o. target_field_of (found_at rctx) (field_of at n (expr_part rctx o))) is ∙ partless (found_at rctx) at n in
      subst (λ x. Lowers HasPatField (lower_target_field x) old r new) (sym t) h

  pub part_lowers : (n : Option AstName) (part : Option AstExpr) (e x : AstExpr) (old : Builder) (r : Checked (Option RecordFieldPat))
      (new : Builder) → part ≡ Some e → x ≡ e
      → Lowers HasPatField (lower_target_field (tree.target_field at (field_name n) (target_part rctx (Some x)))) old r new
      → Lowers HasPatField (lower_target_field (target_field_of (found_at rctx) (field_of at n (expr_part rctx part)))) old r new
  part_lowers n part e x old r new is same h =
      let t : target_field_of (found_at rctx) (field_of at n (expr_part rctx part))
      ≡ tree.target_field at (field_name n) (target_part rctx (Some x)) =
      ap (λ o. target_field_of (found_at rctx) (field_of at n (expr_part rctx o))) is
      ∙ (with_part (found_at rctx) at n (resolved_expr rctx e)
      ∙ ap (λ y. tree.target_field at (field_name n) (target_part rctx (Some y))) (sym same)) in
      subst (λ y. Lowers HasPatField (lower_target_field y) old r new) (sym t) h
