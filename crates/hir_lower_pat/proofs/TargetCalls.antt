-- A call that is assigned to is what the code makes of it: what is told of it, and then what comes of what it stands for.
use Rattle.std.proofs.Common.{true≢false, is_some}
use Rattle.std.proofs.Common.{◌≡◌, ◌∙◌, ap, refl, subst, sym, arith, ℕ, zero, suc, Bool, List, Option, Some, None, Ok, Err}
use Rattle.hir_base.specs.declared.node.HirFileId.{HirFileId}
use Rattle.hir_syntax.specs.declared.ast.ElseBranch.TheOpen.{ExprKind-F}
use Rattle.hir_syntax.specs.declared.ast.Expr.{Expr as AstExpr}
use Rattle.hir_syntax.specs.declared.ast.ExprKind.{out-ExprKind}
use Rattle.hir_syntax.specs.declared.macros.Fragment.TheVariants as fragment
use Rattle.hir_syntax.specs.declared.macros.MacroCall.{MacroCall as AstMacroCall}
use Rattle.hir_store.specs.Pointers.{Pointer}
use Rattle.hir_store.specs.Range.{Grows}
use Rattle.hir_store.specs.declared.error.StoreError.{StoreError}
use Rattle.hir_store.specs.declared.ids.ExprId.{ExprId}
use Rattle.hir_store.specs.declared.ids.PatId.{PatId}
use Rattle.hir_env.specs.declared.expand.FragmentKind.TheVariants as kind
use Rattle.hir_env.specs.declared.ctx.LowerCtx.{LowerCtx}
use Rattle.hir_env.specs.Answers.{Eager, Expanding, unresolved, no_expansion, expanded}
use Rattle.hir_env.specs.ResolvedTree as tree
use Rattle.hir_env.specs.ResolvedTree.{Entered, Expr, Path, Target}
use Rattle.hir_env.specs.Calls.{around, asked_call, call_pointer, called, entered_expr, expr_in, inside_file, lacking_call}
use Rattle.hir_env.specs.ResolveCtx.{ResolveCtx}
use Rattle.hir_env.specs.Targets.{outermost, place_of, pointer_of, target_in, target_or}
use Rattle.hir_env.specs.Whole.{resolved_expr, entering, kept_expr, own_pointer, pointer_at}
use Rattle.hir_env.proofs.Pointers.{pointer_is_own}
use Rattle.hir_lower_builder.specs.Builder.{Builder}
use Rattle.hir_lower_builder.specs.Calls.{Found, enter_left, entered_at, found_in, track, track_gone, emitted}
use Rattle.hir_lower_builder.specs.Lower.{lower_kept, lower_target}
use Rattle.hir_lower_builder.specs.Lowering.{Checked, Lowering, Lowers, ◌>>=◌, ◌>>◌, go_on, point_target, pure}
use Rattle.hir_lower_builder.specs.Methods.{at_place, or_missing}
use Rattle.hir_lower_builder.specs.Targets.{missing_target, place_form}
use Rattle.hir_lower_builder.proofs.Kept.{lower_on}
use Rattle.hir_lower_pat.specs.Assignees.{Assignees, HasAssignee, assignee_of, target_or_place, called_assignee, found_at, gone_place, led}
use Rattle.hir_lower_pat.specs.Assignees.{place_left, place_pat}
use Rattle.hir_lower_pat.specs.Assignees.{uncalled_assignee}
use Rattle.hir_lower_pat.specs.Calls.{ExprThere, assignee_there, expr_there, written_expr}
use Rattle.hir_lower_pat.specs.declared.assignees.Assignee.{Assignee}
use Rattle.hir_lower_pat.specs.declared.assignees.Assignee.TheVariants as assignee
use Rattle.hir_lower_pat.proofs.AssigneeLemmas.{level, put, put_is}
use Rattle.hir_lower_pat.proofs.AssigneeFuel.{behind_first, grows_on}
use Rattle.hir_lower_pat.proofs.CallLemmas.{found_on, fresh}
use Rattle.hir_lower_pat.proofs.TargetElements.{found_inside}

-- the node of a call leads to what it stands for

abbrev leads : Pointer → PatId → Lowering PatId
leads s i = point_target s i >> pure i

abbrev as_pat : Checked PatId × Builder → Checked Assignee × Builder
as_pat r = go_on r.0 r.1 (λ i. pure (assignee.Pat i))

pointed : (i : PatId) (o : Checked (Unit {0})) (b : Builder) → as_pat (go_on o b (λ _. pure i)) ≡ go_on o b (λ _. pure (assignee.Pat i))
pointed i (Ok _) b = refl
pointed i (Err e) b = refl

led_on : (s : Pointer) (o : Checked PatId) (b : Builder) → as_pat (go_on o b (leads s)) ≡ go_on o b (led s)
led_on s (Ok i) b = pointed i (point_target s i b).0 (point_target s i b).1
led_on s (Err e) b = refl

-- one that stands for no expression
uncalled : (call : Option Pointer) (s : Pointer) (o : Checked (Unit {0})) (b : Builder)
    → as_pat (go_on o b (λ _. missing_target call >>= leads s)) ≡ go_on o b (λ _. uncalled_assignee call s)
uncalled call s (Ok _) b = led_on s (missing_target call b).0 (missing_target call b).1
uncalled call s (Err e) b = refl

-- one that stands for an expression

-- as a place, of which something is left or nothing is
placed_led : (s source : Pointer) (o : Checked (Option ExprId)) (b : Builder)
    → let all = go_on o b or_missing in
    let stored = go_on all.0 all.1 (place_pat source) in
    let place = go_on o b (λ x. pure (place_left x)) in
    as_pat (go_on stored.0 stored.1 (leads s)) ≡ go_on place.0 place.1 (called_assignee s source)
placed_led s source (Ok None) b = let gone = gone_place source b in led_on s gone.0 gone.1
placed_led s source (Ok (Some i)) b = led_on s (place_pat source i b).0 (place_pat source i b).1
placed_led s source (Err e) b = refl

-- as a pattern of its own
pat_led : (s source : Pointer) (o : Checked PatId) (b : Builder)
    → as_pat (go_on o b (leads s)) ≡ go_on (as_pat (o, b)).0 (as_pat (o, b)).1 (called_assignee s source)
pat_led s source (Ok i) b = led_on s (Ok i) b
pat_led s source (Err e) b = refl

put_led : (t : Target) (x : Expr) (s source : Pointer) (b : Builder)
    → let r = lower_target (put (tree.place_target source x) t) b in
    as_pat (go_on r.0 r.1 (leads s)) ≡ go_on (target_or_place t x b).0 (target_or_place t x b).1 (called_assignee s source)
unfolding place_form
put_led (tree.absent_target c) x s source b =
    ap (λ r. let stored = go_on r.0 r.1 (place_pat source) in as_pat (go_on stored.0 stored.1 (leads s))) (lower_on x b)
    ∙ placed_led s source (lower_kept x b).0 (lower_kept x b).1
put_led (tree.place_target a y) x s source b = pat_led s source _ _
put_led (tree.macro_target a c t) x s source b = pat_led s source _ _
put_led (tree.wild_target a) x s source b = pat_led s source _ _
put_led (tree.path_target a p g) x s source b = pat_led s source _ _
put_led (tree.tuple_target a ts) x s source b = pat_led s source _ _
put_led (tree.call_target a p ts) x s source b = pat_led s source _ _
put_led (tree.array_target a ts dots us) x s source b = pat_led s source _ _
put_led (tree.record_target a p fs dots spread) x s source b = pat_led s source _ _

module _ (f : Path → Bool) (call : Option Pointer) (s : Pointer) where
  abbrev inside : Expr → Lowering Assignee
  inside x = assignee_of f call x >>= called_assignee s (outermost call (pointer_of x))

  inside_led : (x : Expr) (o : Checked (Unit {0})) (b : Builder)
      → as_pat (go_on o b (λ _. lower_target (target_in f call (tree.some_expr x)) >>= leads s)) ≡ go_on o b (λ _. inside x)
  inside_led x (Ok _) b =
      ap (λ t. as_pat ((lower_target t >>= leads s) b)) (put_is f call (place_of call x) x)
      ∙ put_led (target_or f call (tree.absent_target None) x) x s (outermost call (pointer_of x)) b
  inside_led x (Err e) b = refl

  -- be something left of what it stands for or nothing
  entered_on : (c : Entered) (x : Expr) (b : Builder)
      → assignee_of f call (around s (tree.entered c) (tree.some_expr x)) b ≡ (track c >>= (λ _. inside x)) b
  entered_on c (tree.disabled_expr why e) b = inside_led (tree.disabled_expr why e) (track c b).0 (track c b).1
  entered_on c x b = inside_led x (track c b).0 (track c b).1

-- calls

module _ (at : ResolveCtx) (call : Option Pointer) (s : Pointer) where
  abbrev there : Found → Lowering Assignee
  there f = assignee_there at call s (expr_there f)

  called_by : (c : Pointer) (n : ℕ) (x : Expanding) (b : Builder)
      → assignee_of (found_at at) call (around s (called c x) (expr_in (fresh at.answers n) at.place x)) b
      ≡ ((emitted (called c x) >> pure (found_in n at.place x)) >>= there) b
  called_by c n (unresolved y) b =
      let o = emitted (tree.unresolved c y) b in uncalled call s o.0 o.1 ∙ found_on o.0 o.1 None there _ refl
  called_by c n no_expansion b = uncalled call s (Ok tt) b ∙ found_on (Ok tt) b None there _ refl
  called_by c n (expanded f None es) b =
      let o = track (record { call = c; file = f; eager = es }) b in
      uncalled call s o.0 o.1 ∙ found_on o.0 o.1 (Some (inside_file f n at.place, None)) there _ refl
  called_by c n (expanded f (Some (fragment.Pat e)) es) b =
      let o = track (record { call = c; file = f; eager = es }) b in
      uncalled call s o.0 o.1 ∙ found_on o.0 o.1 (Some (inside_file f n at.place, Some (fragment.Pat e))) there _ refl
  called_by c n (expanded f (Some (fragment.Stmts e)) es) b =
      let o = track (record { call = c; file = f; eager = es }) b in
      uncalled call s o.0 o.1 ∙ found_on o.0 o.1 (Some (inside_file f n at.place, Some (fragment.Stmts e))) there _ refl
  called_by c n (expanded f (Some (fragment.Type_ e)) es) b =
      let o = track (record { call = c; file = f; eager = es }) b in
      uncalled call s o.0 o.1 ∙ found_on o.0 o.1 (Some (inside_file f n at.place, Some (fragment.Type_ e))) there _ refl
  called_by c n (expanded f (Some (fragment.Expr e)) es) b =
      let entered : Entered = record { call = c; file = f; eager = es } in
      let o = track entered b in
      let q = inside_file f n at.place in
      let here = at_place at q in
      let x = resolved_expr here e in
      entered_on (found_at at) call s entered x b
      ∙ (ap (λ p. (track entered >>= (λ _. assignee_of (found_at at) call x >>= called_assignee s (outermost call p))) b)
      (pointer_is_own here e)
      ∙ found_on o.0 o.1 (Some (q, Some (fragment.Expr e))) there
      (assignee_of (found_at at) call x >>= called_assignee s (outermost call (own_pointer here e)))
      (ap (λ g. assignee_of g call x >>= called_assignee s (outermost call (own_pointer here e))) (found_inside at f n)))

  pub assignee_on : (c : AstMacroCall) (b : Builder)
      → assignee_of (found_at at) call (written_expr at s c) b
      ≡ (entered_at at kind.Expr c >>= (λ f. assignee_there at call s (expr_there f))) b
  assignee_on c b = by at.place.left
    where
      by : (l : ℕ) → assignee_of (found_at at) call (entered_expr at.answers (entering at.answers l) c at.place s) b
          ≡ (enter_left at.answers kind.Expr c l at.place >>= there) b
      by zero = uncalled call s (Ok tt) b
      by (suc n) = called_by (call_pointer at.place c) n (asked_call at.answers kind.Expr c at.place) b

  -- one that the text lacks
  lacking_is_gone : (b : Builder) → assignee_of (found_at at) call (lacking_call s) b ≡ (Ok assignee.Gone, b)
  unfolding track_gone
  lacking_is_gone b = refl

  pub lacking_lowers : (b : Builder) → Assignees at call (lacking_call s) b (Ok assignee.Gone) b
  lacking_lowers b = (lacking_is_gone b, (omega arith, omega arith, omega arith, omega arith, omega arith, omega arith), tt)

-- one step after another

module _ (at : ResolveCtx) (call : Option Pointer) (s : Pointer) (c : AstMacroCall) (old mid : Builder) where
  abbrev steps : Lowering Assignee
  steps = assignee_of (found_at at) call (written_expr at s c)

  -- refused where it is asked about
  pub unasked_assignee : (e : StoreError) → entered_at at kind.Expr c old ≡ (Err e, mid) → steps old ≡ (Err e, mid)
  unasked_assignee e h = assignee_on at call s c old ∙ ap (λ r. go_on r.0 r.1 (there at call s)) h

  module _ (f : Found) (x : ExprThere) (h : entered_at at kind.Expr c old ≡ (Ok f, mid)) (k : expr_there f ≡ x) where
    found : steps old ≡ assignee_there at call s x mid
    found = assignee_on at call s c old ∙ (ap (λ r. go_on r.0 r.1 (there at call s)) h ∙ ap (λ y. assignee_there at call s y mid) k)

    pub called_refused : (e : StoreError) (new : Builder) → assignee_there at call s x mid ≡ (Err e, new) → steps old ≡ (Err e, new)
    called_refused e new l = found ∙ l

    pub called_lowers : (r : Checked Assignee) (new : Builder) → Grows old.stored mid.stored
        → Lowers HasAssignee (assignee_there at call s x) mid r new
        → Lowers HasAssignee steps old r new
    called_lowers (Ok a) new grown l = (found ∙ l.0, grows_on old.stored mid.stored new.stored grown l.1, l.2)
    called_lowers (Err e) new grown l = λ other. (found ∙ (l other).0, (l other).1)

-- what is found, and then its call
module _ (at : ResolveCtx) (call : Option Pointer) (s : Pointer) (q : LowerCtx) (e : AstExpr) (mid low : Builder) where
  abbrev here : ResolveCtx
  here = at_place at q

  pub inner_refused : (f : StoreError) → assignee_of (found_at here) call (resolved_expr here e) mid ≡ (Err f, low)
      → assignee_there at call s (Some (q, e)) mid ≡ (Err f, low)
  inner_refused f h = ap (λ r. go_on r.0 r.1 (called_assignee s (outermost call (own_pointer here e)))) h

  pub inner_lowers : (a : Assignee) (source : Pointer) (r : Checked Assignee) (new : Builder) → source ≡ outermost call (own_pointer here e)
      → Assignees here call (resolved_expr here e) mid (Ok a) low → Lowers HasAssignee (called_assignee s source a) low r new
      → Lowers HasAssignee (assignee_there at call s (Some (q, e))) mid r new
  inner_lowers a source r new is h l =
      behind_first HasAssignee (assignee_of (found_at here) call (resolved_expr here e))
      (called_assignee s (outermost call (own_pointer here e))) a mid low
      r new h.0 h.1 (subst (λ p. Lowers HasAssignee (called_assignee s p a) low r new) is l)

-- what is found may be handed in, and counts less

abbrev nowhere : ExprThere
nowhere = None

abbrev place_or : LowerCtx → ExprThere → LowerCtx
place_or q None = q
place_or q (Some x) = x.0

abbrev expr_or : AstExpr → ExprThere → AstExpr
expr_or e None = e
expr_or e (Some x) = x.1

abbrev found_or : Found → Checked Found → Found
found_or f (Ok x) = x
found_or f (Err y) = f

module _ (at : ResolveCtx) (c : AstMacroCall) (Inner : LowerCtx → AstExpr → Type 0)
    (nests : (n : ℕ) (f : HirFileId) (e : AstExpr) (es : List Eager) → at.place.left ≡ suc n
    → asked_call at.answers kind.Expr c at.place ≡ expanded f (Some (fragment.Expr e)) es → Inner (inside_file f n at.place) e) where
  pub found_there : (n : ℕ) → at.place.left ≡ suc n → (x : Expanding) → asked_call at.answers kind.Expr c at.place ≡ x
      → (q : LowerCtx) (e : AstExpr) → expr_there (found_in n at.place x) ≡ Some (q, e) → Inner q e
  found_there n h (unresolved y) k q e is = absurd (true≢false (sym (ap is_some is)))
  found_there n h no_expansion k q e is = absurd (true≢false (sym (ap is_some is)))
  found_there n h (expanded f None es) k q e is = absurd (true≢false (sym (ap is_some is)))
  found_there n h (expanded f (Some (fragment.Pat x)) es) k q e is = absurd (true≢false (sym (ap is_some is)))
  found_there n h (expanded f (Some (fragment.Stmts x)) es) k q e is = absurd (true≢false (sym (ap is_some is)))
  found_there n h (expanded f (Some (fragment.Type_ x)) es) k q e is = absurd (true≢false (sym (ap is_some is)))
  found_there n h (expanded f (Some (fragment.Expr x)) es) k q e is =
      let place : inside_file f n at.place ≡ q = ap (place_or q) is in
      let same : x ≡ e = ap (expr_or e) is in
      rw (← place) (rw (← same) (nests n f x es h k))

  emitted_there : (n : ℕ) → at.place.left ≡ suc n → (o : Checked (Unit {0})) (b d : Builder) (found : Found)
      → go_on o b (λ _. pure (found_in n at.place (asked_call at.answers kind.Expr c at.place))) ≡ (Ok found, d)
      → (q : LowerCtx) (e : AstExpr) → expr_there found ≡ Some (q, e) → Inner q e
  emitted_there n h (Err y) b d found k q e is = let apart : Err y ≡ Ok found = ap (λ z. z.0) k in cc
  emitted_there n h (Ok _) b d found k q e is =
      let same : found_in n at.place (asked_call at.answers kind.Expr c at.place) ≡ found = ap (λ z. found_or found z.0) k in
      found_there n h (asked_call at.answers kind.Expr c at.place) refl q e (ap expr_there same ∙ is)

  pub expr_was_entered : (b d : Builder) (found : Found) → entered_at at kind.Expr c b ≡ (Ok found, d)
      → (q : LowerCtx) (e : AstExpr) → expr_there found ≡ Some (q, e) → Inner q e
  expr_was_entered b d found k q e is = by at.place.left refl k
    where
      by : (l : ℕ) → at.place.left ≡ l → enter_left at.answers kind.Expr c l at.place b ≡ (Ok found, d) → Inner q e
      by zero h m =
          let apart : nowhere ≡ Some (q, e) = ap (λ z. expr_there (found_or found z.0)) m ∙ is in
          absurd (true≢false (sym (ap is_some apart)))
      by (suc n) h m =
          let t = emitted (called (call_pointer at.place c) (asked_call at.answers kind.Expr c at.place)) b in
          emitted_there n h t.0 t.1 d found m q e is

-- by their kinds

pub expr_call_is : (at : ResolveCtx) (e : AstExpr) (c : AstMacroCall) → out-ExprKind e.kind ≡ ExprKind-F.MacroExpr (Some c)
    → kept_expr at e ≡ written_expr at (pointer_at at e.id e.range) c
expr_call_is at e c h = ap (λ k. level at k (pointer_at at e.id e.range)) h

pub lacking_expr_is : (at : ResolveCtx) (e : AstExpr) → out-ExprKind e.kind ≡ ExprKind-F.MacroExpr None
    → kept_expr at e ≡ lacking_call (pointer_at at e.id e.range)
lacking_expr_is at e h = ap (λ k. level at k (pointer_at at e.id e.range)) h
