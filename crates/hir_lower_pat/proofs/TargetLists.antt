-- The parts of tuples, calls and arrays that are assigned to, one after another: that the steps of each are those of what it is.
use Rattle.std.proofs.Common.{◌≡◌, ◌∙◌, ap, refl, slice_index_or, sym, Bool, true, false, List, [], ◌∷◌, ◌++◌, Option}
use Rattle.std.proofs.Common.{Some, None, Ok, Err, ◌≤◌, length}
use Rattle.std.specs.Prelude.{◌-◌, drop, if◌then◌else◌, is_some, take}
use Rattle.hir_syntax.specs.declared.ast.Expr.{Expr as AstExpr}
use Rattle.hir_store.specs.Pointers.{Pointer}
use Rattle.hir_store.specs.Range.{HasPat}
use Rattle.hir_store.specs.declared.error.StoreError.{StoreError}
use Rattle.hir_store.specs.declared.ids.PatId.{PatId}
use Rattle.hir_store.specs.declared.path.Path.{Path as HirPath}
use Rattle.hir_env.specs.ResolveCtx.{ResolveCtx}
use Rattle.hir_env.specs.ResolvedTree as tree
use Rattle.hir_env.specs.ResolvedTree.{Expr, Exprs, OptionExpr, OptionPath, Origin, Path, Targets}
use Rattle.hir_env.specs.Targets.{around_callee, before_dots, behind_dots, call_or, callee_path, called_or, comes_to_dots, dots_pointer}
use Rattle.hir_env.specs.Targets.{each_target, element_of, elements, tracked_in, origin, pointer_of, target_of, target_or}
use Rattle.hir_env.specs.Whole.{resolved_expr, args_part, expr_part, exprs_part}
use Rattle.hir_lower_builder.specs.Builder.{Builder}
use Rattle.hir_lower_builder.specs.Lowering.{Checked, Lowering, Lowers, ◌>>=◌, ◌>>◌, go_on, pure}
use Rattle.hir_lower_builder.specs.Lower.{lower_path, lower_target, lower_targets}
use Rattle.hir_lower_builder.specs.Methods.{LowersTarget}
use Rattle.hir_lower_builder.specs.Pats.{Elements, no_elements}
use Rattle.hir_lower_builder.specs.Targets.{add_target, add_target_dots, array_target_form, call_target_form, call_target_of}
use Rattle.hir_lower_pat.specs.Assignees.{Assignees, HasAssignee, assignee_of, target_or_place, element_found, found_at, track_calls}
use Rattle.hir_lower_pat.specs.Assignees.{place_assignee}
use Rattle.hir_lower_pat.specs.Methods.{HasElements, add_element}
use Rattle.hir_lower_pat.specs.TargetLists.{ArrayParts, array_front, array_made, array_of, array_read, array_steps}
use Rattle.hir_lower_pat.specs.TargetLists.{callee_read, called_steps, elements_read, part_behind, part_steps}
use Rattle.hir_lower_pat.specs.declared.assignees.Assignee.{Assignee}
use Rattle.hir_lower_pat.specs.declared.assignees.Assignee.TheVariants as assignee
use Rattle.hir_lower_pat.proofs.AssigneeSteps.{place_assignees, same_steps}
use Rattle.hir_lower_pat.proofs.KindLemmas.{first_of}
use Rattle.hir_lower_pat.proofs.TargetElements.{callee_assignees, callee_lowers, tracked_lowers}

module _ (f : Path → Bool) where
  -- tuples and calls

  abbrev more : Exprs → Elements → Lowering Elements
  more es d = lower_targets d (elements f es)

  abbrev added : Elements → Option PatId → Lowering Elements
  added done o = pure (add_element done o)

  abbrev absent : Lowering (Option PatId)
  absent = pure None

  -- what is told, and then two dots
  dots_behind : (o : Checked (Unit {0})) (b : Builder) (done : Elements) (es : Exprs)
      → go_on o b (λ _. lower_targets (add_target_dots done) (elements f es))
      ≡ go_on (go_on (go_on o b (λ _. absent)).0 (go_on o b (λ _. absent)).1 (added done)).0
      (go_on (go_on o b (λ _. absent)).0 (go_on o b (λ _. absent)).1 (added done)).1 (more es)
  dots_behind (Ok _) b done es = refl
  dots_behind (Err e) b done es = refl

  -- a part, and then it is one of them
  one_behind : (o : Checked PatId) (b : Builder) (done : Elements) (es : Exprs)
      → go_on o b (λ i. lower_targets (add_target done i) (elements f es))
      ≡ go_on (go_on (go_on o b (λ i. pure (Some i))).0 (go_on o b (λ i. pure (Some i))).1 (added done)).0
      (go_on (go_on o b (λ i. pure (Some i))).0 (go_on o b (λ i. pure (Some i))).1 (added done)).1 (more es)
  one_behind (Ok i) b done es = refl
  one_behind (Err e) b done es = refl

  one_element : (done : Elements) (e : Expr) (es : Exprs) (b : Builder)
      → lower_targets done (elements f (tree.more_exprs e es)) b ≡ (part_behind done (element_found f None e) >>= more es) b
  one_element done e es b = by (comes_to_dots e) refl
    where
      part : Lowering PatId
      part = lower_target (element_of f None e)

      by : (c : Bool) → comes_to_dots e ≡ c
          → lower_targets done (if c then tracked_in e (tree.dots_targets (elements f es))
          else tree.more_targets (element_of f None e) (elements f es)) b
          ≡ (part_behind done (if c then track_calls e >> pure None else (part >>= (λ i. pure (Some i)))) >>= more es) b
      by true h =
          let o = track_calls e b in tracked_lowers e (tree.dots_targets (elements f es)) done b h ∙ dots_behind o.0 o.1 done es
      by false h = let o = part b in one_behind o.0 o.1 done es

  elements_are : (done : Elements) (es : Exprs) (b : Builder) → lower_targets done (elements f es) b ≡ elements_read f done es b
  elements_are done tree.no_exprs b = refl
  elements_are done (tree.more_exprs e es) b =
      let o = part_behind done (element_found f None e) b in
      one_element done e es b ∙ (λ j. go_on o.0 o.1 (λ d c. elements_are d es c j))

  pub elements_lower : (es : Exprs) (old : Builder) (r : Checked Elements) (new : Builder)
      → Lowers HasElements (elements_read f no_elements es) old r new
      → Lowers HasElements (lower_targets no_elements (elements f es)) old r new
  elements_lower es old r new h =
      same_steps HasElements (lower_targets no_elements (elements f es)) (elements_read f no_elements es) old r new
      (elements_are no_elements es old) h

  -- arrays

  -- by those that are lowered
  abbrev array_rest : List PatId → Option Pointer → List PatId → Exprs → Lowering ArrayParts
  array_rest before None behind es = do
    b ← lower_targets (before, None) (before_dots f es)
    a ← lower_targets (behind, None) (behind_dots f es)
    pure (b.0, dots_pointer es, a.0)
  array_rest before (Some at) behind es = do
    a ← lower_targets (behind, None) (each_target f es)
    pure (before, Some at, a.0)

  abbrev rest_of : Exprs → ArrayParts → Lowering ArrayParts
  rest_of es d = array_rest d.0 d.1 d.2 es

  -- what stands behind those in front of the dots
  abbrev behind_steps : Targets → List PatId → Option Pointer → Elements → Lowering ArrayParts
  behind_steps us behind at r = lower_targets (behind, None) us >>= (λ a. pure (r.0, at, a.0))

  abbrev fronted : List PatId → Pointer → List PatId → Option PatId → Lowering ArrayParts
  fronted before at behind o = pure (array_front before at behind o)

  abbrev front : List PatId → Lowering Elements
  front before = pure (before, None)

  dots_found : (o : Checked (Unit {0})) (b : Builder) (before behind : List PatId) (at : Pointer) (es : Exprs)
      → go_on (go_on o b (λ _. front before)).0 (go_on o b (λ _. front before)).1
      (behind_steps (each_target f es) behind (Some at))
      ≡ go_on (go_on (go_on o b (λ _. absent)).0 (go_on o b (λ _. absent)).1 (fronted before at behind)).0
      (go_on (go_on o b (λ _. absent)).0 (go_on o b (λ _. absent)).1 (fronted before at behind)).1 (rest_of es)
  dots_found (Ok _) b before behind at es = refl
  dots_found (Err e) b before behind at es = refl

  in_front : (o : Checked PatId) (b : Builder) (before behind : List PatId) (at : Pointer) (es : Exprs)
      → go_on (go_on o b (λ i. lower_targets (add_target (before, None) i) (before_dots f es))).0
      (go_on o b (λ i. lower_targets (add_target (before, None) i) (before_dots f es))).1
      (behind_steps (behind_dots f es) behind (dots_pointer es))
      ≡ go_on (go_on (go_on o b (λ i. pure (Some i))).0 (go_on o b (λ i. pure (Some i))).1 (fronted before at behind)).0
      (go_on (go_on o b (λ i. pure (Some i))).0 (go_on o b (λ i. pure (Some i))).1 (fronted before at behind)).1 (rest_of es)
  in_front (Ok i) b before behind at es = refl
  in_front (Err e) b before behind at es = refl

  abbrev backed : List PatId → Pointer → List PatId → PatId → Lowering ArrayParts
  backed before at behind i = pure (before, Some at, behind ++ i ∷ [])

  in_back : (o : Checked PatId) (b : Builder) (before behind : List PatId) (at : Pointer) (es : Exprs)
      → go_on (go_on o b (λ i. lower_targets (add_target (behind, None) i) (each_target f es))).0
      (go_on o b (λ i. lower_targets (add_target (behind, None) i) (each_target f es))).1 (λ a. pure (before, Some at, a.0))
      ≡ go_on (go_on o b (backed before at behind)).0 (go_on o b (backed before at behind)).1 (rest_of es)
  in_back (Ok i) b before behind at es = refl
  in_back (Err e) b before behind at es = refl

  one_of_array : (before : List PatId) (dots : Option Pointer) (behind : List PatId) (e : Expr) (es : Exprs) (b : Builder)
      → array_rest before dots behind (tree.more_exprs e es) b ≡ (part_steps f before dots behind e >>= rest_of es) b
  one_of_array before (Some at) behind e es b =
      let o = lower_target (target_of f (tree.some_expr e)) b in in_back o.0 o.1 before behind at es
  one_of_array before None behind e es b = by (comes_to_dots e) refl
    where
      at : Pointer
      at = pointer_of e

      part : Lowering PatId
      part = lower_target (element_of f None e)

      by : (c : Bool) → comes_to_dots e ≡ c
          → (lower_targets (before, None) (if c then tracked_in e tree.no_targets
          else tree.more_targets (element_of f None e) (before_dots f es))
          >>= behind_steps (if c then each_target f es else behind_dots f es) behind (if c then Some at else dots_pointer es)) b
          ≡ (((if c then track_calls e >> pure None else (part >>= (λ i. pure (Some i)))) >>= fronted before at behind) >>= rest_of es) b
      by true h =
          let o = track_calls e b in
          ap (λ r. go_on r.0 r.1 (behind_steps (each_target f es) behind (Some at))) (tracked_lowers e tree.no_targets (before, None) b h)
          ∙ dots_found o.0 o.1 before behind at es
      by false h = let o = part b in in_front o.0 o.1 before behind at es

  array_end : (before : List PatId) (dots : Option Pointer) (behind : List PatId) (b : Builder)
      → array_rest before dots behind tree.no_exprs b ≡ pure (before, dots, behind) b
  array_end before None behind b = refl
  array_end before (Some at) behind b = refl

  array_are : (done : ArrayParts) (es : Exprs) (b : Builder) → array_rest done.0 done.1 done.2 es b ≡ array_read f done es b
  array_are done tree.no_exprs b = array_end done.0 done.1 done.2 b
  array_are done (tree.more_exprs e es) b =
      let o = array_steps f done e b in
      one_of_array done.0 done.1 done.2 e es b ∙ (λ j. go_on o.0 o.1 (λ d c. array_are d es c j))

  module _ (at : Origin) (dots : Option Pointer) where
    behind_of : (before : Elements) (o : Checked Elements) (b : Builder)
        → go_on o b (λ a. array_of at (before.0, dots, a.0))
        ≡ go_on (go_on {B = ArrayParts} o b (λ a. pure (before.0, dots, a.0))).0
        (go_on {B = ArrayParts} o b (λ a. pure (before.0, dots, a.0))).1 (array_of at)
    behind_of before (Ok a) b = refl
    behind_of before (Err x) b = refl

    parts_of : (us : Targets) (o : Checked Elements) (b : Builder)
        → go_on o b (λ r. lower_targets no_elements us >>= (λ a. array_of at (r.0, dots, a.0)))
        ≡ go_on (go_on o b (behind_steps us [] dots)).0 (go_on o b (behind_steps us [] dots)).1 (array_of at)
    parts_of us (Ok r) b = let a = lower_targets no_elements us b in behind_of r a.0 a.1
    parts_of us (Err x) b = refl

  array_is : (at : Origin) (es : Exprs) (b : Builder)
      → lower_target (tree.array_target at (before_dots f es) (dots_pointer es) (behind_dots f es)) b
      ≡ (array_rest [] None [] es >>= array_of at) b
  unfolding array_target_form
  array_is at es b =
      let r = lower_targets no_elements (before_dots f es) b in parts_of at (dots_pointer es) (behind_dots f es) r.0 r.1

  pub array_lowers : (at : Origin) (es : Exprs) (old : Builder) (r : Checked PatId) (new : Builder)
      → Lowers HasPat (array_made f at es) old r new
      → LowersTarget (tree.array_target at (before_dots f es) (dots_pointer es) (behind_dots f es)) old r new
  array_lowers at es old r new h =
      same_steps HasPat (lower_target (tree.array_target at (before_dots f es) (dots_pointer es) (behind_dots f es)))
      (array_made f at es) old r new
      (array_is at es old ∙ ap (λ x. go_on x.0 x.1 (array_of at)) (array_are ([], None, []) es old)) h

  -- calls

  -- whose callee is no path, or without a list of arguments
  abbrev none : Option Pointer → Pointer → OptionExpr → Bool → Exprs → Type 0
  none call at g has_list es =
      called_or (tree.absent_target None) (origin call at) g has_list (elements f es) ≡ tree.absent_target None

  pub place_called : (call : Option Pointer) (e : Expr) (at : Pointer) (g : OptionExpr) (has_list : Bool) (es : Exprs) (old : Builder)
      (r : Checked Assignee) (new : Builder) → e ≡ tree.call_expr at g has_list es → none call at g has_list es
      → Lowers HasAssignee (place_assignee e) old r new → Lowers HasAssignee (assignee_of f call e) old r new
  place_called call e at g has_list es old r new is lack h =
      place_assignees f call e old r new (ap (target_or f call (tree.absent_target None)) is ∙ lack) h

  no_list : (call : Option Pointer) (at : Pointer) (g : OptionExpr) (es : Exprs) → none call at g false es
  no_list call at tree.no_expr es = refl
  no_list call at (tree.some_expr e) es = refl

  no_callee : (call : Option Pointer) (at : Pointer) (b : Bool) (es : Exprs) → none call at tree.no_expr b es
  no_callee call at true es = refl
  no_callee call at false es = refl

  no_path : (call : Option Pointer) (at : Pointer) (g : Expr) (b : Bool) (es : Exprs) → callee_path g ≡ None
      → none call at (tree.some_expr g) b es
  no_path call at g true es h = ap (λ o. call_or (tree.absent_target None) (origin call at) g o (elements f es)) h
  no_path call at g false es h = refl

  -- the calls of the callee are told, then its path is read, and then the rest
  path_behind : (o : Checked (Unit {0})) (b : Builder) (p : OptionPath) (q : Option HirPath → Lowering PatId)
      → go_on (go_on o b (λ _. lower_path p >>= q)).0 (go_on o b (λ _. lower_path p >>= q)).1 (λ i. pure (assignee.Pat i))
      ≡ go_on (go_on (go_on o b (λ _. lower_path p)).0 (go_on o b (λ _. lower_path p)).1 q).0
      (go_on (go_on o b (λ _. lower_path p)).0 (go_on o b (λ _. lower_path p)).1 q).1 (λ i. pure (assignee.Pat i))
  path_behind (Ok _) b p q = refl
  path_behind (Err e) b p q = refl

  call_is : (at : Origin) (g : Expr) (p : OptionPath) (ts : Targets) (x : Expr) (b : Builder) → callee_path g ≡ Some p
      → target_or_place (around_callee g (tree.call_target at p ts)) x b ≡ called_steps at g (lower_targets no_elements ts) b
  unfolding call_target_form
  call_is at g p ts x b h =
      let o = track_calls g b in
      let rest = call_target_of at (lower_targets no_elements ts) in
      ap (λ m. m b) (callee_assignees g at p ts x p h)
      ∙ (ap (λ r. go_on r.0 r.1 (λ i. pure (assignee.Pat i))) (callee_lowers g (tree.call_target at p ts) p b h)
      ∙ (path_behind o.0 o.1 p rest
      ∙ ap (λ c. (((track_calls g >> callee_read c) >>= rest) >>= (λ i. pure (assignee.Pat i))) b) (sym h)))

  pub path_called : (call : Option Pointer) (e : Expr) (at : Pointer) (g : Expr) (es : Exprs) (p : OptionPath) (old : Builder)
      (r : Checked Assignee) (new : Builder) → e ≡ tree.call_expr at (tree.some_expr g) true es → callee_path g ≡ Some p
      → Lowers HasAssignee (called_steps (origin call at) g (lower_targets no_elements (elements f es))) old r new
      → Lowers HasAssignee (assignee_of f call e) old r new
  path_called call e at g es p old r new is some h =
      let ts = elements f es in
      let t : target_or f call (tree.absent_target None) e ≡ around_callee g (tree.call_target (origin call at) p ts) =
      ap (target_or f call (tree.absent_target None)) is
      ∙ ap (λ o. call_or (tree.absent_target None) (origin call at) g o ts) some in
      same_steps HasAssignee (assignee_of f call e) (called_steps (origin call at) g (lower_targets no_elements ts)) old r new
      (ap (λ x. target_or_place x e old) t ∙ call_is (origin call at) g p ts e old some) h

-- where they are read

module _ (rctx : ResolveCtx) (call : Option Pointer) (at : Pointer) where
  abbrev is_call : Option AstExpr → Option (List AstExpr) → Expr
  is_call callee args = tree.call_expr at (expr_part rctx callee) (is_some args) (args_part rctx args)

  -- without a callee, without a list of arguments, and where the callee is no path
  pub calleeless_lowers : (e : Expr) (callee : Option AstExpr) (args : Option (List AstExpr)) (old : Builder) (r : Checked Assignee)
      (new : Builder) → e ≡ is_call callee args → callee ≡ None → Lowers HasAssignee (place_assignee e) old r new
      → Assignees rctx call e old r new
  calleeless_lowers e callee args old r new is lack h =
      place_called (found_at rctx) call e at tree.no_expr (is_some args) (args_part rctx args) old r new
      (is ∙ ap (λ o. is_call o args) lack) (no_callee (found_at rctx) call at (is_some args) (args_part rctx args)) h

  pub argless_lowers : (e : Expr) (callee : Option AstExpr) (args : Option (List AstExpr)) (old : Builder) (r : Checked Assignee)
      (new : Builder) → e ≡ is_call callee args → args ≡ None → Lowers HasAssignee (place_assignee e) old r new
      → Assignees rctx call e old r new
  argless_lowers e callee args old r new is lack h =
      place_called (found_at rctx) call e at (expr_part rctx callee) false (args_part rctx None) old r new
      (is ∙ ap (is_call callee) lack) (no_list (found_at rctx) call at (expr_part rctx callee) (args_part rctx None)) h

  no_some : {A : Type 0} (o : Option A) → false ≡ is_some o → o ≡ None
  no_some None h = refl
  no_some (Some x) h = cc

  pub pathless_lowers : (e : Expr) (callee : Option AstExpr) (args : Option (List AstExpr)) (f x : AstExpr) (old : Builder)
      (r : Checked Assignee) (new : Builder) → e ≡ is_call callee args → callee ≡ Some f → x ≡ f
      → false ≡ is_some (callee_path (resolved_expr rctx x)) → Lowers HasAssignee (place_assignee e) old r new
      → Assignees rctx call e old r new
  pathless_lowers e callee args f x old r new is some same lack h =
      let path : callee_path (resolved_expr rctx f)
      ≡ None = no_some _ (lack ∙ ap (λ y. is_some (callee_path (resolved_expr rctx y))) same) in
      place_called (found_at rctx) call e at (tree.some_expr (resolved_expr rctx f)) (is_some args) (args_part rctx args) old r new
      (is ∙ ap (λ o. is_call o args) some)
      (no_path (found_at rctx) call at (resolved_expr rctx f) (is_some args) (args_part rctx args) path) h

  some_path : {A : Type 0} (o : Option A) (P : Type 0) → true ≡ is_some o → ((p : A) → o ≡ Some p → P) → P
  some_path None P h q = absurd (apart h)
    where
      apart : true ≡ false → ⊥
      apart h = cc
  some_path (Some p) P h q = q p refl

  pub call_lowers : (e : Expr) (callee : Option AstExpr) (args : Option (List AstExpr)) (f x : AstExpr) (es : List AstExpr)
      (old : Builder) (r : Checked Assignee) (new : Builder) → e ≡ is_call callee args → callee ≡ Some f → args ≡ Some es → x ≡ f
      → true ≡ is_some (callee_path (resolved_expr rctx x))
      → Lowers HasAssignee (called_steps (origin call at) (resolved_expr rctx x)
      (lower_targets no_elements (elements (found_at rctx) (exprs_part rctx es)))) old r new
      → Assignees rctx call e old r new
  call_lowers e callee args f x es old r new is some list same path h =
      let own : e ≡ tree.call_expr at (tree.some_expr (resolved_expr rctx x)) true (exprs_part rctx es) =
      is ∙ (ap (λ o. is_call o args) (some ∙ ap Some (sym same)) ∙ ap (is_call (Some x)) list) in
      some_path (callee_path (resolved_expr rctx x)) (Assignees rctx call e old r new) path
      (λ p found. path_called (found_at rctx) call e at (resolved_expr rctx x) (exprs_part rctx es) p old r new own found h)

-- one part after another

module _ (rctx : ResolveCtx) (xs : List AstExpr) (x : AstExpr) (b c : Builder) where
  abbrev behind : List AstExpr
  behind = take (length xs - 1) (drop 1 xs)

  pub element_refused : (done : Elements) (e : StoreError) → x ≡ slice_index_or xs 0 x → 1 ≤ length xs
      → part_behind done (element_found (found_at rctx) None (resolved_expr rctx x)) b ≡ (Err e, c)
      → elements_read (found_at rctx) done (exprs_part rctx xs) b ≡ (Err e, c)
  element_refused done e h le is =
      ap (λ ys. elements_read (found_at rctx) done (exprs_part rctx ys) b) (first_of xs x h le)
      ∙ ap (λ r. go_on r.0 r.1 (λ d. elements_read (found_at rctx) d (exprs_part rctx behind))) is

  pub array_refused : (done : ArrayParts) (e : StoreError) → x ≡ slice_index_or xs 0 x → 1 ≤ length xs
      → array_steps (found_at rctx) done (resolved_expr rctx x) b ≡ (Err e, c)
      → array_read (found_at rctx) done (exprs_part rctx xs) b ≡ (Err e, c)
  array_refused done e h le is =
      ap (λ ys. array_read (found_at rctx) done (exprs_part rctx ys) b) (first_of xs x h le)
      ∙ ap (λ r. go_on r.0 r.1 (λ d. array_read (found_at rctx) d (exprs_part rctx behind))) is
