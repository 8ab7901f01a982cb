-- The elements of the assignee expression, and callees: what is told of the calls that they come out of, and what these come to.
use Rattle.std.proofs.Common.{sym, true≢false, is_some}
use Rattle.std.proofs.Common.{◌≡◌, ◌∙◌, ap, refl, ℕ, zero, suc, Bool, true, false, [], Option, Some, None, Ok, Err}
use Rattle.std.specs.Prelude.{Result, if◌then◌else◌, option_map}
use Rattle.hir_base.specs.declared.node.HirFileId.{HirFileId}
use Rattle.hir_base.specs.declared.op.BinaryOp.TheVariants as op
use Rattle.hir_syntax.specs.declared.ast.BlockExpr.{out-BlockExpr}
use Rattle.hir_syntax.specs.declared.ast.ElseBranch.TheOpen.{ExprKind-F}
use Rattle.hir_syntax.specs.declared.ast.Expr.{Expr as AstExpr}
use Rattle.hir_syntax.specs.declared.ast.ExprKind.{out-ExprKind}
use Rattle.hir_syntax.specs.declared.ast.Path.{Path as AstPath}
use Rattle.hir_syntax.specs.declared.macros.Fragment.TheVariants as fragment
use Rattle.hir_syntax.specs.declared.macros.MacroCall.{MacroCall as AstMacroCall}
use Rattle.hir_store.specs.Pointers.{Pointer}
use Rattle.hir_store.specs.declared.ids.CfgId.{CfgId}
use Rattle.hir_store.specs.declared.ids.PatId.{PatId}
use Rattle.hir_store.specs.declared.pat.Pat.TheVariants as pat
use Rattle.hir_store.specs.declared.path.ModPath.{ModPath}
use Rattle.hir_env.specs.Answers.{Expanding, unresolved, no_expansion, expanded}
use Rattle.hir_env.specs.ResolvedTree as tree
use Rattle.hir_env.specs.ResolvedTree.{Called, Entered, Expr, Gone, OptionExpr, OptionPath, Origin, Path, Target, Targets}
use Rattle.hir_env.specs.Answering.{asked, coroutine_kind, expr_at, for_items, question_items}
use Rattle.hir_env.specs.Calls.{around, around_if, asked_call, call_pointer, called, entered_expr, expr_in, gone_in, inside_file}
use Rattle.hir_env.specs.Calls.{lacking_call}
use Rattle.hir_env.specs.Layers.{Entering, ExprKindLayer}
use Rattle.hir_env.specs.PathNames.{mod_path_of}
use Rattle.hir_env.specs.ResolveCtx.{ResolveCtx, site_of}
use Rattle.hir_env.specs.Targets.{around_callee, callee_path, comes_to_dots, element_of, element_or, is_dots, names_target, tracked_in}
use Rattle.hir_env.specs.Targets.{origin, outermost}
use Rattle.hir_env.specs.Whole.{resolved_expr, entering, into, kept_expr, path_part, pointer_at, reader, written}
use Rattle.hir_env.specs.declared.expand.FragmentKind.TheVariants as kind
use Rattle.hir_env.proofs.Levels.{block_is_level, expr_is_level}
use Rattle.hir_lower_builder.specs.Builder.{Builder}
use Rattle.hir_lower_builder.specs.Calls.{Found, enter_left, found_in, track, emitted}
use Rattle.hir_lower_builder.specs.Families.{IsNoCall}
use Rattle.hir_lower_builder.specs.Forms.{some}
use Rattle.hir_lower_builder.specs.Lowering.{Checked, Lowering, ◌>>=◌, ◌>>◌, go_on, pure}
use Rattle.hir_lower_builder.specs.Lower.{lower_target, lower_targets}
use Rattle.hir_lower_builder.specs.Methods.{at_place}
use Rattle.hir_lower_builder.specs.Pats.{Elements}
use Rattle.hir_lower_builder.specs.Targets.{alloc_target, missing_target}
use Rattle.hir_lower_pat.specs.Assignees.{target_or_place, element_found, found_at, track_calls, target_assignee}
use Rattle.hir_lower_pat.specs.Calls.{expr_there, target_element_there, written_expr}
use Rattle.hir_lower_pat.specs.TargetLists.{element_call}
use Rattle.hir_lower_pat.proofs.CallLemmas.{found_on, fresh}
use Rattle.hir_lower_pat.proofs.OfKinds.{of_closure, of_for, of_own, of_question, through_asked}

-- steps behind what is told

-- the same steps, one behind the other
pub after_emitted : {A : Type 0} (o : Checked (Unit {0})) (b : Builder) (p : Lowering (Unit {0})) (q m : Lowering A)
    → ((c : Builder) → m c ≡ (p >> q) c)
    → go_on o b (λ _. m) ≡ go_on (go_on o b (λ _. p)).0 (go_on o b (λ _. p)).1 (λ _. q)
after_emitted (Ok _) b p q m h = h b
after_emitted (Err e) b p q m h = refl

-- steps behind steps behind what is told
pub then_on : {A B : Type 0} (o : Checked (Unit {0})) (b : Builder) (p : Lowering A) (q : A → Lowering B)
    → go_on (go_on o b (λ _. p)).0 (go_on o b (λ _. p)).1 q ≡ go_on o b (λ _. p >>= q)
then_on (Ok _) b p q = refl
then_on (Err e) b p q = refl

-- what is told in front of two dots, and in front of the path of a callee

pub tracked_lowers : (e : Expr) (ts : Targets) (done : Elements) (b : Builder) → comes_to_dots e ≡ true
    → lower_targets done (tracked_in e ts) b ≡ (track_calls e >> lower_targets done ts) b
tracked_lowers (tree.disabled_expr why e) ts done b h = tracked_lowers e ts done b h
tracked_lowers (tree.macro_expr s c tree.no_expr) ts done b h = absurd (true≢false (sym h))
tracked_lowers (tree.macro_expr s c (tree.some_expr e)) ts done b h =
    let o = emitted c b in
    after_emitted o.0 o.1 (track_calls e) (lower_targets done ts) (lower_targets done (tracked_in e ts)) (λ d. tracked_lowers e ts done d h)
tracked_lowers (tree.range_expr at form tree.no_expr tree.no_expr) ts done b h = refl
tracked_lowers _ ts done b h = absurd (true≢false (sym h))

pub callee_lowers : (e : Expr) (t : Target) (p : OptionPath) (b : Builder) → callee_path e ≡ Some p
    → lower_target (around_callee e t) b ≡ (track_calls e >> lower_target t) b
callee_lowers (tree.disabled_expr why e) t p b h = callee_lowers e t p b h
callee_lowers (tree.macro_expr s c tree.no_expr) t p b h = absurd (true≢false (sym (ap is_some h)))
callee_lowers (tree.macro_expr s c (tree.some_expr e)) t p b h =
    let o = emitted c b in
    after_emitted o.0 o.1 (track_calls e) (lower_target t) (lower_target (around_callee e t)) (λ d. callee_lowers e t p d h)
callee_lowers (tree.path_expr at x k) t p b h = refl
callee_lowers _ t p b h = absurd (true≢false (sym (ap is_some h)))

-- a call through calls is a target of its own
pub callee_assignees : (e : Expr) (at : Origin) (q : OptionPath) (ts : Targets) (x : Expr) (p : OptionPath) → callee_path e ≡ Some p
    → target_or_place (around_callee e (tree.call_target at q ts)) x ≡ target_assignee (around_callee e (tree.call_target at q ts))
callee_assignees (tree.disabled_expr why e) at q ts x p h = callee_assignees e at q ts x p h
callee_assignees (tree.macro_expr s c tree.no_expr) at q ts x p h = absurd (true≢false (sym (ap is_some h)))
callee_assignees (tree.macro_expr s c (tree.some_expr e)) at q ts x p h = refl
callee_assignees (tree.path_expr s y k) at q ts x p h = refl
callee_assignees _ at q ts x p h = absurd (true≢false (sym (ap is_some h)))

-- an element that is a call, whatever disables it

module _ (f : Path → Bool) (call : Option Pointer) where
  around_if_found : (o : Option Gone) (s : Pointer) (c : Called) (x : OptionExpr)
      → element_found f call (around_if o s c x) ≡ element_found f call (tree.macro_expr s c x)
  around_if_found None s c x = refl
  around_if_found (Some why) s c x = refl

  pub around_found : (s : Pointer) (c : Called) (x : OptionExpr)
      → element_found f call (around s c x) ≡ element_found f call (tree.macro_expr s c x)
  around_found s c tree.no_expr = refl
  around_found s c (tree.some_expr e) = around_if_found (gone_in e) s c (tree.some_expr e)

  gone_if_found : (why : Gone) (o : Option Gone) (s : Pointer) (c : Called) (x : OptionExpr)
      → element_found f call (tree.disabled_expr why (around_if o s c x)) ≡ element_found f call (around_if o s c x)
  gone_if_found why None s c x = refl
  gone_if_found why (Some other) s c x = refl

  gone_found : (why : Gone) (s : Pointer) (c : Called) (x : OptionExpr)
      → element_found f call (tree.disabled_expr why (around s c x)) ≡ element_found f call (around s c x)
  gone_found why s c tree.no_expr = refl
  gone_found why s c (tree.some_expr e) = gone_if_found why (gone_in e) s c (tree.some_expr e)

  pub asked_found : (at : ResolveCtx) (s t : Pointer) (c : AstMacroCall) (r : Result (Unit {0}) CfgId)
      → element_found f call (asked t r (written_expr at s c)) ≡ element_found f call (written_expr at s c)
  asked_found at s t c (Ok _) = refl
  asked_found at s t c (Err by) = entered_found (into at)
    where
      why : Gone
      why = record { entered = []; condition = Some (t, by) }

      entered_found : (o : Option Entering)
          → element_found f call (tree.disabled_expr why (entered_expr at.answers o c at.place s))
          ≡ element_found f call (entered_expr at.answers o c at.place s)
      entered_found None = refl
      entered_found (Some i) =
          let x = asked_call at.answers kind.Expr c at.place in
          gone_found why s (called (call_pointer at.place c) x) (expr_in i at.place x)

  -- told, and then the element inside of it
  pub inner_found : (s : Pointer) (c : Entered) (e : Expr) (b : Builder)
      → element_found f call (tree.macro_expr s (tree.entered c) (tree.some_expr e)) b
      ≡ (track c >> element_found f (Some (outermost call s)) e) b
  inner_found s c e b = by (comes_to_dots e)
    where
      inner : Lowering PatId
      inner = lower_target (element_of f (Some (outermost call s)) e)

      by : (d : Bool)
          → (if d then (track c >> track_calls e) >> pure None else some (track c >> inner)) b
          ≡ (track c >> (if d then track_calls e >> pure None else some inner)) b
      by true = then_on (track c b).0 (track c b).1 (track_calls e) (λ _. pure None)
      by false = then_on (track c b).0 (track c b).1 inner (λ i. pure (Some i))

-- a path that is read inside of a call stands for the same
pub found_inside : (at : ResolveCtx) (f : HirFileId) (n : ℕ) → found_at (at_place at (inside_file f n at.place)) ≡ found_at at
found_inside at f n = λ j x. by (mod_path_of (tree.some_path x)) j
  where
    by : (o : Option ModPath)
        → names_target at.answers (inside_file f n at.place) o ≡ names_target at.answers at.place o
    by None = refl
    by (Some names) = refl

module _ (at : ResolveCtx) (call : Option Pointer) (s : Pointer) where
  abbrev outer : Pointer
  outer = outermost call s

  abbrev there : Found → Lowering (Option PatId)
  there f = target_element_there at outer (expr_there f)

  -- what stands for no expression is missing at the outermost call
  none_found : (o : Checked (Unit {0})) (b : Builder) (x : Found) → there x ≡ some (missing_target (Some outer))
      → go_on (go_on o b (λ _. missing_target (Some outer))).0 (go_on o b (λ _. missing_target (Some outer))).1 (λ i. pure (Some i))
      ≡ go_on (go_on o b (λ _. pure x)).0 (go_on o b (λ _. pure x)).1 there
  none_found o b x is =
      then_on o b (missing_target (Some outer)) (λ i. pure (Some i)) ∙ found_on o b x there (some (missing_target (Some outer))) is

  found_by : (c : Pointer) (n : ℕ) (x : Expanding) (b : Builder)
      → element_found (found_at at) call (around s (called c x) (expr_in (fresh at.answers n) at.place x)) b
      ≡ ((emitted (called c x) >> pure (found_in n at.place x)) >>= there) b
  found_by c n (unresolved y) b = let o = emitted (tree.unresolved c y) b in none_found o.0 o.1 None refl
  found_by c n no_expansion b = none_found (Ok tt) b None refl
  found_by c n (expanded f None es) b =
      let o = track (record { call = c; file = f; eager = es }) b in none_found o.0 o.1 (Some (inside_file f n at.place, None)) refl
  found_by c n (expanded f (Some (fragment.Expr e)) es) b =
      let entered : Entered = record { call = c; file = f; eager = es } in
      let o = track entered b in
      let place = inside_file f n at.place in
      let inner = resolved_expr (at_place at place) e in
      ap (λ m. m b) (around_found (found_at at) call s (tree.entered entered) (tree.some_expr inner))
      ∙ (inner_found (found_at at) call s entered inner b
      ∙ found_on o.0 o.1 (Some (place, Some (fragment.Expr e))) there (element_found (found_at at) (Some outer) inner)
      (ap (λ g. element_found g (Some outer) inner) (found_inside at f n)))
  found_by c n (expanded f (Some (fragment.Stmts e)) es) b =
      let o = track (record { call = c; file = f; eager = es }) b in
      none_found o.0 o.1 (Some (inside_file f n at.place, Some (fragment.Stmts e))) refl
  found_by c n (expanded f (Some (fragment.Pat e)) es) b =
      let o = track (record { call = c; file = f; eager = es }) b in
      none_found o.0 o.1 (Some (inside_file f n at.place, Some (fragment.Pat e))) refl
  found_by c n (expanded f (Some (fragment.Type_ e)) es) b =
      let o = track (record { call = c; file = f; eager = es }) b in
      none_found o.0 o.1 (Some (inside_file f n at.place, Some (fragment.Type_ e))) refl

  pub element_on : (c : AstMacroCall) (b : Builder)
      → element_found (found_at at) call (written_expr at s c) b ≡ element_call at outer c b
  element_on c b = by at.place.left
    where
      by : (l : ℕ) → element_found (found_at at) call (entered_expr at.answers (entering at.answers l) c at.place s) b
          ≡ (enter_left at.answers kind.Expr c l at.place >>= there) b
      by zero = none_found (Ok tt) b None refl
      by (suc n) = found_by (call_pointer at.place c) n (asked_call at.answers kind.Expr c at.place) b

-- by their kinds

abbrev level : ResolveCtx → ExprKindLayer written → Pointer → Expr
level at k s = expr_at at.answers (reader at.answers (into at)) k at.place s

module _ (at : ResolveCtx) (call : Option Pointer) (e : AstExpr) where
  abbrev node : Pointer
  node = pointer_at at e.id e.range

  abbrev condition : Result (Unit {0}) CfgId
  condition = at.answers.cfg (site_of node)

  pub leveled : (k : ExprKindLayer written) → out-ExprKind e.kind ≡ k → resolved_expr at e ≡ asked node condition (level at k node)
  leveled k h = expr_is_level at e ∙ ap (λ l. asked node condition (level at l node)) h

  pub call_element : (c : AstMacroCall) (b : Builder) → out-ExprKind e.kind ≡ ExprKind-F.MacroExpr (Some c)
      → element_found (found_at at) call (resolved_expr at e) b ≡ element_call at (outermost call node) c b
  call_element c b h =
      ap (λ x. element_found (found_at at) call x b) (leveled _ h)
      ∙ (ap (λ m. m b) (asked_found (found_at at) call at node node c condition) ∙ element_on at call node c b)

  -- one that the text lacks
  pub lacking_element : (b : Builder) → out-ExprKind e.kind ≡ ExprKind-F.MacroExpr None
      → element_found (found_at at) call (resolved_expr at e) b ≡ some (alloc_target pat.Missing (origin call node)) b
  unfolding alloc_target
  lacking_element b h = ap (λ x. element_found (found_at at) call x b) (leveled _ h) ∙ by condition
    where
      by : (r : Result (Unit {0}) CfgId) → element_found (found_at at) call (asked node r (lacking_call node)) b
          ≡ some (alloc_target pat.Missing (origin call node)) b
      by (Ok _) = refl
      by (Err _) = refl

-- what is no call

abbrev is_called : Expr → Bool
is_called (tree.disabled_expr why e) = is_called e
is_called (tree.macro_expr s c e) = true
is_called _ = false

abbrev own_path : Expr → Option OptionPath
own_path (tree.disabled_expr why e) = own_path e
own_path (tree.path_expr at p h) = Some p
own_path _ = None

own_dots : (e : Expr) → is_called e ≡ false → comes_to_dots e ≡ is_dots e
own_dots (tree.disabled_expr why e) h = own_dots e h
own_dots (tree.macro_expr s c e) h = absurd (true≢false h)
own_dots (tree.range_expr at form tree.no_expr tree.no_expr) h = refl
own_dots _ h = refl

untold : (e : Expr) → is_called e ≡ false → track_calls e ≡ pure tt
untold (tree.disabled_expr why e) h = untold e h
untold (tree.macro_expr s c e) h = absurd (true≢false h)
untold _ h = refl

element_alone : (f : Path → Bool) (call : Option Pointer) (t : Target) (e : Expr) → is_called e ≡ false → element_or f call t e ≡ t
element_alone f call t (tree.disabled_expr why e) h = element_alone f call t e h
element_alone f call t (tree.macro_expr s c e) h = absurd (true≢false h)
element_alone f call t _ h = refl

callee_alone : (e : Expr) → is_called e ≡ false → callee_path e ≡ own_path e
callee_alone (tree.disabled_expr why e) h = callee_alone e h
callee_alone (tree.macro_expr s c e) h = absurd (true≢false h)
callee_alone (tree.path_expr at p k) h = refl
callee_alone _ h = refl

-- the path of a callee that is a path as it stands
abbrev pub path_of_callee : ExprKindLayer written → Option (Option AstPath)
path_of_callee (ExprKind-F.PathExpr x) = Some x
path_of_callee _ = None

-- whether it is a call, and the path that it is as it stands
abbrev standing : Expr → Bool × Option OptionPath
standing e = (is_called e, own_path e)

abbrev nothing : Bool × Option OptionPath
nothing = (false, None)

corresponds_at : (at : ResolveCtx) (k : ExprKindLayer written) (s : Pointer) → IsNoCall k
    → standing (level at k s) ≡ (false, option_map (path_part at) (path_of_callee k))
corresponds_at at (ExprKind-F.MacroExpr c) s h = absurd h
corresponds_at at (ExprKind-F.BlockExpr b) s h =
    ap standing (block_is_level at b)
    ∙ of_own standing nothing (λ x. refl) (λ t item y number ss e. refl) (λ t c. refl) (λ t mapping moves number ss e. refl)
    at (out-BlockExpr b).mod_ b
corresponds_at at (ExprKind-F.TryExpr e) s h = of_question standing nothing s _ (λ items. refl) refl (question_items at.answers.lang_items)
corresponds_at at (ExprKind-F.ForExpr l q e b) s h =
    of_for standing nothing (λ t items x w p j y. refl) (λ t. refl) (for_items at.answers.lang_items) s _ _ _ _ _
corresponds_at at (ExprKind-F.ClosureExpr ps r e is_async is_gen moves is_static) s h =
    of_closure standing nothing (λ t m st xs y b. refl) (λ t mapping m xs y b. refl) (coroutine_kind is_async is_gen) s moves
    is_static _ _ _
corresponds_at at (ExprKind-F.PrefixExpr None e) s h = refl
corresponds_at at (ExprKind-F.PrefixExpr (Some o) e) s h = refl
corresponds_at at (ExprKind-F.BinExpr None a b) s h = refl
corresponds_at at (ExprKind-F.BinExpr (Some (op.LogicOp o)) a b) s h = refl
corresponds_at at (ExprKind-F.BinExpr (Some (op.ArithOp o)) a b) s h = refl
corresponds_at at (ExprKind-F.BinExpr (Some (op.CmpOp o)) a b) s h = refl
corresponds_at at (ExprKind-F.BinExpr (Some (op.Assignment o)) a b) s h = refl
corresponds_at at (ExprKind-F.BinExpr (Some op.Assign) a b) s h = refl
corresponds_at at _ s h = refl

module _ (at : ResolveCtx) (e : AstExpr) (h : IsNoCall (out-ExprKind e.kind)) where
  corresponds : standing (resolved_expr at e) ≡ (false, option_map (path_part at) (path_of_callee (out-ExprKind e.kind)))
  corresponds =
      let s = pointer_at at e.id e.range in
      ap standing (expr_is_level at e)
      ∙ (through_asked standing (λ why x. refl) s (at.answers.cfg (site_of s)) (kept_expr at e)
      ∙ corresponds_at at (out-ExprKind e.kind) s h)

  uncalled : is_called (resolved_expr at e) ≡ false
  uncalled = ap (λ x. x.0) corresponds

  pub no_emitted : track_calls (resolved_expr at e) ≡ pure tt
  no_emitted = untold (resolved_expr at e) uncalled

  pub callee_is : callee_path (resolved_expr at e) ≡ option_map (path_part at) (path_of_callee (out-ExprKind e.kind))
  callee_is = callee_alone (resolved_expr at e) uncalled ∙ ap (λ x. x.1) corresponds

  pub dots_alone : comes_to_dots (resolved_expr at e) ≡ is_dots (resolved_expr at e)
  dots_alone = own_dots (resolved_expr at e) uncalled

  pub element_is : (f : Path → Bool) (call : Option Pointer) (t : Target) → element_or f call t (resolved_expr at e) ≡ t
  element_is f call t = element_alone f call t (resolved_expr at e) uncalled
