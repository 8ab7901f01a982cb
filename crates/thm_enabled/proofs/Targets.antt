-- The assignee expression is the same where each path in it that may be a pattern is found alike.
use Rattle.std.proofs.Common.{◌≡◌, ◌∙◌, sym, refl, Option, Some, None, if◌then◌else◌}
use Rattle.hir_store.specs.Pointers.{Pointer}
use Rattle.hir_store.specs.declared.path.ModPath.{ModPath}
use Rattle.hir_env.specs.ResolvedTree as tree
use Rattle.hir_env.specs.ResolvedTree.{Expr, Exprs, Field, Fields, OptionExpr, Target}
use Rattle.hir_env.specs.Answers.{Answers}
use Rattle.hir_env.specs.Targets as of
use Rattle.hir_env.specs.declared.ctx.LowerCtx.{LowerCtx}
use Rattle.thm_reading.specs.Targets.{OptTargetAs}
use Rattle.thm_reading.proofs.Targets.{targets_decided}
use Rattle.thm_enabled.specs.Own as own
use Rattle.thm_enabled.proofs.Agreed.{Agree}

module _ (env other : Answers) (p : LowerCtx) where
  found_same : (x : Option ModPath) → Agree env other (own.found_asked p x) → of.names_target env p x ≡ of.names_target other p x
  found_same None g = refl
  found_same (Some x) g = λ i. of.is_target (g i)

  mutual
    or_same : (call : Option Pointer) (place : Target) (e : Expr) → Agree env other (own.target_of p e)
        → of.target_or (of.resolves env p) call place e ≡ of.target_or (of.resolves other p) call place e
    or_same call place (tree.disabled_expr why e) g = refl
    or_same call place (tree.paren_expr at tree.no_expr) g = refl
    or_same call place (tree.paren_expr at (tree.some_expr e)) g = λ i.
        if of.is_dots e then tree.tuple_target (of.origin call at) (tree.dots_targets tree.no_targets) else or_same call place e g i
    or_same call place (tree.macro_expr s c e) g = λ i. tree.macro_target (Some s) c (in_same call e g i)
    or_same call place (tree.list_expr at (tree.tuple_of comma) es) g =
        λ i. tree.tuple_target (of.origin call at) (elements_same es g i)
    or_same call place (tree.list_expr at tree.array_of es) g =
        λ i. tree.array_target (of.origin call at) (before_same es g i) (of.dots_pointer es) (behind_same es g i)
    or_same call place (tree.call_expr at f has_list es) g =
        λ i. of.called_or place (of.origin call at) f has_list (elements_same es g i)
    or_same call place (tree.path_expr at tree.no_path h) g = refl
    or_same call place (tree.path_expr at (tree.some_path x) h) g =
        λ i. if found_same (own.names x) g i then tree.path_target (of.origin call at) x h else place
    or_same call place (tree.record_expr at x head fs s) g =
        λ i. if head.has_list then tree.record_target (of.origin call at) x (fields_same fs g i) head.has_dots (of.spread_pointer s)
        else place
    or_same call place (tree.leaf_expr at tree.underscore) g = refl
    or_same call place _ g = refl

    in_same : (call : Option Pointer) (e : OptionExpr) → Agree env other (own.target_asked p e)
        → of.target_in (of.resolves env p) call e ≡ of.target_in (of.resolves other p) call e
    in_same call tree.no_expr g = refl
    in_same call (tree.some_expr e) g = or_same call (of.place_of call e) e g

    element_same : (call : Option Pointer) {x y : Target} → x ≡ y → (e : Expr) → Agree env other (own.target_of p e)
        → of.element_or (of.resolves env p) call x e ≡ of.element_or (of.resolves other p) call y e
    element_same call h (tree.disabled_expr why e) g = element_same call h e g
    element_same call h (tree.macro_expr s c e) g =
        λ i. tree.macro_target (of.node_of_lacking c s) c (in_element_same (of.outermost call s) e g i)
    element_same call h _ g = h

    in_element_same : (call : Pointer) (e : OptionExpr) → Agree env other (own.target_asked p e)
        → of.element_in (of.resolves env p) call e ≡ of.element_in (of.resolves other p) call e
    in_element_same call tree.no_expr g = refl
    in_element_same call (tree.some_expr e) g =
        element_same (Some call) (or_same (Some call) (of.place_of (Some call) e) e g) e g

    elements_same : (es : Exprs) → Agree env other (own.targets_of p es)
        → of.elements (of.resolves env p) es ≡ of.elements (of.resolves other p) es
    elements_same tree.no_exprs g = refl
    elements_same (tree.more_exprs e es) g = λ i.
        if of.comes_to_dots e then of.tracked_in e (tree.dots_targets (elements_same es g.1 i))
        else tree.more_targets (element_same None (or_same None (of.place_of None e) e g.0) e g.0 i) (elements_same es g.1 i)

    before_same : (es : Exprs) → Agree env other (own.targets_of p es)
        → of.before_dots (of.resolves env p) es ≡ of.before_dots (of.resolves other p) es
    before_same tree.no_exprs g = refl
    before_same (tree.more_exprs e es) g = λ i.
        if of.comes_to_dots e then of.tracked_in e tree.no_targets
        else tree.more_targets (element_same None (or_same None (of.place_of None e) e g.0) e g.0 i) (before_same es g.1 i)

    behind_same : (es : Exprs) → Agree env other (own.targets_of p es)
        → of.behind_dots (of.resolves env p) es ≡ of.behind_dots (of.resolves other p) es
    behind_same tree.no_exprs g = refl
    behind_same (tree.more_exprs e es) g = λ i. if of.comes_to_dots e then each_same es g.1 i else behind_same es g.1 i

    each_same : (es : Exprs) → Agree env other (own.targets_of p es)
        → of.each_target (of.resolves env p) es ≡ of.each_target (of.resolves other p) es
    each_same tree.no_exprs g = refl
    each_same (tree.more_exprs e es) g =
        λ i. tree.more_targets (or_same None (of.place_of None e) e g.0 i) (each_same es g.1 i)

    fields_same : (fs : Fields) → Agree env other (own.target_fields_of p fs)
        → of.target_fields (of.resolves env p) fs ≡ of.target_fields (of.resolves other p) fs
    fields_same tree.no_fields g = refl
    fields_same (tree.more_fields f fs) g = λ i. tree.more_target_fields (field_same f g.0 i) (fields_same fs g.1 i)

    field_same : (f : Field) → Agree env other (own.target_field_of p f)
        → of.target_field_of (of.resolves env p) f ≡ of.target_field_of (of.resolves other p) f
    field_same (tree.disabled_field at by f) g = refl
    field_same (tree.nameless_field at tree.no_expr) g = refl
    field_same (tree.nameless_field at (tree.some_expr e)) g = λ i. tree.target_field at None (or_same None (of.place_of None e) e g i)
    field_same (tree.named_field at m tree.no_expr) g = refl
    field_same (tree.named_field at m (tree.some_expr e)) g =
        λ i. tree.target_field at (Some m) (or_same None (of.place_of None e) e g i)

  pub target_same : (e : OptionExpr) → Agree env other (own.target_asked p e)
      → of.target_of (of.resolves env p) e ≡ of.target_of (of.resolves other p) e
  target_same e g = in_same None e g

  -- What the rules allow as something that is assigned to they allow by the answers of the other environment.
  pub moved_target : (e : OptionExpr) (t : Target) → Agree env other (own.target_asked p e) → OptTargetAs env p None e t
      → OptTargetAs other p None e t
  moved_target e t g h = (targets_decided other p e t).0 (sym (target_same e g) ∙ (targets_decided env p e t).1 h)
