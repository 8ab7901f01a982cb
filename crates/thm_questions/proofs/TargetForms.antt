-- What an expression is as something that is assigned to: the paths in it are asked about.
use Rattle.std.proofs.Common.{Bool, true, false, List, [], Option, Some, None, if◌then◌else◌}
use Rattle.hir_store.specs.Pointers.{Pointer}
use Rattle.hir_store.specs.declared.ids.HygieneId.{HygieneId}
use Rattle.hir_store.specs.declared.ids.ModuleId.{ModuleId}
use Rattle.hir_store.specs.declared.path.ModPath.{ModPath}
use Rattle.hir_env.specs.ResolvedTree as tree
use Rattle.hir_env.specs.ResolvedTree.{Expr, Exprs, Field, Fields, OptionExpr, OptionPath, Origin, Path, Target, Targets}
use Rattle.hir_env.specs.Answers.{Answers}
use Rattle.hir_env.specs.PathNames.{mod_path_of}
use Rattle.hir_env.specs.Targets as of
use Rattle.hir_env.specs.declared.ctx.LowerCtx.{LowerCtx}
use Rattle.hir_env.specs.declared.resolved.BuiltinShadowMode.TheVariants as shadow
use Rattle.thm_frame.specs.Questions.{Question}
use Rattle.thm_questions.specs.Decided as asked
use Rattle.thm_questions.specs.Areas.{NodeArea}
use Rattle.thm_questions.proofs.Asks.{resolve_asked}
use Rattle.thm_questions.proofs.Framing.{At, one, still, two}

module _ (a : Answers) (area : NodeArea a) (p : LowerCtx) where
  abbrev Free : {X : Type 0} → (Answers → X) → List Question → Type 0
  Free made qs = At area p [] made qs

  abbrev m : ModuleId
  m = p.module_id

  names_by : (x : Option ModPath) → Free (λ b. of.names_target b p x) (asked.of_names m x)
  names_by None = still false
  names_by (Some x) = one of.is_target (resolve_asked a area x shadow.Local)

  resolves_by : (x : Path) → Free (λ b. of.resolves b p x) (asked.of_names m (mod_path_of (tree.some_path x)))
  resolves_by x = names_by (mod_path_of (tree.some_path x))

  path_or_by : (place : Target) (at : Origin) (x : OptionPath) (h : HygieneId)
      → Free (λ b. of.path_or (of.resolves b p) place at x h) (asked.of_target_path m x)
  path_or_by place at tree.no_path h = still place
  path_or_by place at (tree.some_path x) h = one (λ r. if r then tree.path_target at x h else place) (resolves_by x)

  -- where it depends on what isn't asked
  by_case : {f g : Answers → Target} {qs rs : List Question} (c : Bool) → Free f qs → Free g rs
      → Free (λ b. if c then f b else g b) (if c then qs else rs)
  by_case true x y = x
  by_case false x y = y

  by_cases : {f g : Answers → Targets} {qs rs : List Question} (c : Bool) → Free f qs → Free g rs
      → Free (λ b. if c then f b else g b) (if c then qs else rs)
  by_cases true x y = x
  by_cases false x y = y

  mutual
    pub target_or_by : (call : Option Pointer) (place : Target) (e : Expr)
        → Free (λ b. of.target_or (of.resolves b p) call place e) (asked.of_target m e)
    target_or_by call place (tree.disabled_expr why e) = still (of.gone_or call place e)
    target_or_by call place (tree.paren_expr at tree.no_expr) = still place
    target_or_by call place (tree.paren_expr at (tree.some_expr e)) =
        by_case (of.is_dots e) (still (tree.tuple_target (of.origin call at) (tree.dots_targets tree.no_targets)))
        (target_or_by call place e)
    target_or_by call place (tree.macro_expr s c e) = one (tree.macro_target (Some s) c) (target_in_by call e)
    target_or_by call place (tree.list_expr at (tree.tuple_of comma) es) =
        one (tree.tuple_target (of.origin call at)) (elements_by es)
    target_or_by call place (tree.list_expr at tree.array_of es) =
        two (λ x y. tree.array_target (of.origin call at) x (of.dots_pointer es) y) (before_by es) (behind_by es)
    target_or_by call place (tree.call_expr at f has_list es) =
        one (of.called_or place (of.origin call at) f has_list) (elements_by es)
    target_or_by call place (tree.path_expr at x h) = path_or_by place (of.origin call at) x h
    target_or_by call place (tree.record_expr at x head fs s) =
        one (λ ts. if head.has_list then tree.record_target (of.origin call at) x ts head.has_dots (of.spread_pointer s) else place)
        (target_fields_by fs)
    target_or_by call place (tree.leaf_expr at tree.underscore) = still (tree.wild_target (of.origin call at))
    target_or_by call place _ = still place

    target_in_by : (call : Option Pointer) (e : OptionExpr) → Free (λ b. of.target_in (of.resolves b p) call e) (asked.of_target_part m e)
    target_in_by call tree.no_expr = still (tree.absent_target call)
    target_in_by call (tree.some_expr e) = target_or_by call (of.place_of call e) e

    element_or_by : (call : Option Pointer) (other : Answers → Target) {qs : List Question} (e : Expr) → Free other qs
        → Free (λ b. of.element_or (of.resolves b p) call (other b) e) (asked.of_element m qs e)
    element_or_by call other (tree.disabled_expr why e) h = element_or_by call other e h
    element_or_by call other (tree.macro_expr s c e) h =
        one (tree.macro_target (of.node_of_lacking c s) c) (element_in_by (of.outermost call s) e)
    element_or_by call other _ h = h

    element_in_by : (call : Pointer) (e : OptionExpr) → Free (λ b. of.element_in (of.resolves b p) call e) (asked.of_element_part m e)
    element_in_by call tree.no_expr = still (tree.absent_target (Some call))
    element_in_by call (tree.some_expr e) =
        element_or_by (Some call) _ e (target_or_by (Some call) (of.place_of (Some call) e) e)

    elements_by : (es : Exprs) → Free (λ b. of.elements (of.resolves b p) es) (asked.of_elements m es)
    elements_by tree.no_exprs = still tree.no_targets
    elements_by (tree.more_exprs e es) = by_cases (of.comes_to_dots e)
        (one (λ ts. of.tracked_in e (tree.dots_targets ts)) (elements_by es))
        (two tree.more_targets (element_or_by None _ e (target_or_by None (of.place_of None e) e)) (elements_by es))

    before_by : (es : Exprs) → Free (λ b. of.before_dots (of.resolves b p) es) (asked.of_elements_before m es)
    before_by tree.no_exprs = still tree.no_targets
    before_by (tree.more_exprs e es) = by_cases (of.comes_to_dots e)
        (still (of.tracked_in e tree.no_targets))
        (two tree.more_targets (element_or_by None _ e (target_or_by None (of.place_of None e) e)) (before_by es))

    behind_by : (es : Exprs) → Free (λ b. of.behind_dots (of.resolves b p) es) (asked.of_elements_behind m es)
    behind_by tree.no_exprs = still tree.no_targets
    behind_by (tree.more_exprs e es) = by_cases (of.comes_to_dots e) (each_by es) (behind_by es)

    each_by : (es : Exprs) → Free (λ b. of.each_target (of.resolves b p) es) (asked.of_each_element m es)
    each_by tree.no_exprs = still tree.no_targets
    each_by (tree.more_exprs e es) = two tree.more_targets (target_or_by None (of.place_of None e) e) (each_by es)

    target_fields_by : (fs : Fields) → Free (λ b. of.target_fields (of.resolves b p) fs) (asked.of_target_fields m fs)
    target_fields_by tree.no_fields = still tree.no_target_fields
    target_fields_by (tree.more_fields f fs) = two tree.more_target_fields (target_field_by f) (target_fields_by fs)

    target_field_by : (f : Field) → Free (λ b. of.target_field_of (of.resolves b p) f) (asked.of_target_field m f)
    target_field_by (tree.disabled_field at by f) = still (tree.disabled_target_field at by)
    target_field_by (tree.nameless_field at tree.no_expr) = still tree.partless_target_field
    target_field_by (tree.nameless_field at (tree.some_expr e)) =
        one (tree.target_field at None) (target_or_by None (of.place_of None e) e)
    target_field_by (tree.named_field at m tree.no_expr) = still tree.partless_target_field
    target_field_by (tree.named_field at m (tree.some_expr e)) =
        one (tree.target_field at (Some m)) (target_or_by None (of.place_of None e) e)

  pub target_by : (e : OptionExpr) → Free (λ b. of.target_of (of.resolves b p) e) (asked.of_target_part m e)
  target_by e = target_in_by None e
