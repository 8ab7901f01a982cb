-- What an expression is as something that is assigned to: the paths in it are asked about.
use Rattle.std.proofs.Common.{Bool, true, false, Option, Some, None, if◌then◌else◌}
use Rattle.hir_store.specs.Pointers.{Pointer}
use Rattle.hir_store.specs.declared.ids.HygieneId.{HygieneId}
use Rattle.hir_store.specs.declared.path.ModPath.{ModPath}
use Rattle.hir_env.specs.ResolvedTree as tree
use Rattle.hir_env.specs.ResolvedTree.{Expr, Exprs, Field, Fields, OptionExpr, OptionPath, Origin, Path, Target, Targets}
use Rattle.hir_env.specs.Answers.{Answers}
use Rattle.hir_env.specs.PathNames.{mod_path_of}
use Rattle.hir_env.specs.Targets as of
use Rattle.hir_env.specs.declared.ctx.LowerCtx.{LowerCtx}
use Rattle.hir_env.specs.declared.resolved.BuiltinShadowMode.TheVariants as shadow
use Rattle.thm_frame.specs.Questions.{Area, Framed, Here}
use Rattle.thm_frame.proofs.Asks.{resolve_asked}
use Rattle.thm_frame.proofs.Framing.{one, still, two}

module _ (a : Answers) (area : Area a) (p : LowerCtx) (w : Here area p) where
  names_framed : (x : Option ModPath) → Framed area (λ b. of.names_target b p x) a
  names_framed None = still false
  names_framed (Some m) = one of.is_target (resolve_asked a area p.module_id m shadow.Local w.1)

  resolves_framed : (x : Path) → Framed area (λ b. of.resolves b p x) a
  resolves_framed x = names_framed (mod_path_of (tree.some_path x))

  path_or_framed : (place : Target) (at : Origin) (x : OptionPath) (h : HygieneId)
      → Framed area (λ b. of.path_or (of.resolves b p) place at x h) a
  path_or_framed place at tree.no_path h = still place
  path_or_framed place at (tree.some_path x) h = one (λ r. if r then tree.path_target at x h else place) (resolves_framed x)

  -- where it depends on what isn't asked
  by_case : {f g : Answers → Target} (c : Bool) → Framed area f a → Framed area g a → Framed area (λ b. if c then f b else g b) a
  by_case true x y = x
  by_case false x y = y

  by_cases : {f g : Answers → Targets} (c : Bool) → Framed area f a → Framed area g a → Framed area (λ b. if c then f b else g b) a
  by_cases true x y = x
  by_cases false x y = y

  mutual
    pub target_or_framed : (call : Option Pointer) (place : Target) (e : Expr)
        → Framed area (λ b. of.target_or (of.resolves b p) call place e) a
    target_or_framed call place (tree.disabled_expr why e) = still (of.gone_or call place e)
    target_or_framed call place (tree.paren_expr at tree.no_expr) = still place
    target_or_framed call place (tree.paren_expr at (tree.some_expr e)) =
        by_case (of.is_dots e) (still (tree.tuple_target (of.origin call at) (tree.dots_targets tree.no_targets)))
        (target_or_framed call place e)
    target_or_framed call place (tree.macro_expr s c e) = one (tree.macro_target (Some s) c) (target_in_framed call e)
    target_or_framed call place (tree.list_expr at (tree.tuple_of comma) es) =
        one (tree.tuple_target (of.origin call at)) (elements_framed es)
    target_or_framed call place (tree.list_expr at tree.array_of es) =
        two (λ x y. tree.array_target (of.origin call at) x (of.dots_pointer es) y) (before_framed es) (behind_framed es)
    target_or_framed call place (tree.call_expr at f has_list es) =
        one (of.called_or place (of.origin call at) f has_list) (elements_framed es)
    target_or_framed call place (tree.path_expr at x h) = path_or_framed place (of.origin call at) x h
    target_or_framed call place (tree.record_expr at x head fs s) =
        one (λ ts. if head.has_list then tree.record_target (of.origin call at) x ts head.has_dots (of.spread_pointer s) else place)
        (target_fields_framed fs)
    target_or_framed call place (tree.leaf_expr at tree.underscore) = still (tree.wild_target (of.origin call at))
    target_or_framed call place _ = still place

    target_in_framed : (call : Option Pointer) (e : OptionExpr) → Framed area (λ b. of.target_in (of.resolves b p) call e) a
    target_in_framed call tree.no_expr = still (tree.absent_target call)
    target_in_framed call (tree.some_expr e) = target_or_framed call (of.place_of call e) e

    element_or_framed : (call : Option Pointer) (other : Answers → Target) (e : Expr) → Framed area other a
        → Framed area (λ b. of.element_or (of.resolves b p) call (other b) e) a
    element_or_framed call other (tree.disabled_expr why e) h = element_or_framed call other e h
    element_or_framed call other (tree.macro_expr s c e) h =
        one (tree.macro_target (of.node_of_lacking c s) c) (element_in_framed (of.outermost call s) e)
    element_or_framed call other _ h = h

    element_in_framed : (call : Pointer) (e : OptionExpr) → Framed area (λ b. of.element_in (of.resolves b p) call e) a
    element_in_framed call tree.no_expr = still (tree.absent_target (Some call))
    element_in_framed call (tree.some_expr e) =
        element_or_framed (Some call) _ e (target_or_framed (Some call) (of.place_of (Some call) e) e)

    elements_framed : (es : Exprs) → Framed area (λ b. of.elements (of.resolves b p) es) a
    elements_framed tree.no_exprs = still tree.no_targets
    elements_framed (tree.more_exprs e es) = by_cases (of.comes_to_dots e)
        (one (λ ts. of.tracked_in e (tree.dots_targets ts)) (elements_framed es))
        (two tree.more_targets (element_or_framed None _ e (target_or_framed None (of.place_of None e) e)) (elements_framed es))

    before_framed : (es : Exprs) → Framed area (λ b. of.before_dots (of.resolves b p) es) a
    before_framed tree.no_exprs = still tree.no_targets
    before_framed (tree.more_exprs e es) = by_cases (of.comes_to_dots e)
        (still (of.tracked_in e tree.no_targets))
        (two tree.more_targets (element_or_framed None _ e (target_or_framed None (of.place_of None e) e)) (before_framed es))

    behind_framed : (es : Exprs) → Framed area (λ b. of.behind_dots (of.resolves b p) es) a
    behind_framed tree.no_exprs = still tree.no_targets
    behind_framed (tree.more_exprs e es) = by_cases (of.comes_to_dots e) (each_framed es) (behind_framed es)

    each_framed : (es : Exprs) → Framed area (λ b. of.each_target (of.resolves b p) es) a
    each_framed tree.no_exprs = still tree.no_targets
    each_framed (tree.more_exprs e es) = two tree.more_targets (target_or_framed None (of.place_of None e) e) (each_framed es)

    target_fields_framed : (fs : Fields) → Framed area (λ b. of.target_fields (of.resolves b p) fs) a
    target_fields_framed tree.no_fields = still tree.no_target_fields
    target_fields_framed (tree.more_fields f fs) = two tree.more_target_fields (target_field_framed f) (target_fields_framed fs)

    target_field_framed : (f : Field) → Framed area (λ b. of.target_field_of (of.resolves b p) f) a
    target_field_framed (tree.disabled_field at by f) = still (tree.disabled_target_field at by)
    target_field_framed (tree.nameless_field at tree.no_expr) = still tree.partless_target_field
    target_field_framed (tree.nameless_field at (tree.some_expr e)) =
        one (tree.target_field at None) (target_or_framed None (of.place_of None e) e)
    target_field_framed (tree.named_field at m tree.no_expr) = still tree.partless_target_field
    target_field_framed (tree.named_field at m (tree.some_expr e)) =
        one (tree.target_field at (Some m)) (target_or_framed None (of.place_of None e) e)

  pub target_framed : (e : OptionExpr) → Framed area (λ b. of.target_of (of.resolves b p) e) a
  target_framed e = target_in_framed None e
