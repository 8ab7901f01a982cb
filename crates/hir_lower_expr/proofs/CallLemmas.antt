-- A call is what the code makes of it: what is told of it, and then what it stands for.
use Rattle.std.proofs.Common.{◌≡◌, ◌∙◌, ap, refl, sym, ℕ, zero, suc, List, Option, Some, None, Ok, Err}
use Rattle.hir_base.specs.declared.node.HirFileId.{HirFileId}
use Rattle.hir_syntax.specs.declared.ast.ElseBranch.TheOpen.{ExprKind-F}
use Rattle.hir_syntax.specs.declared.ast.Expr.{Expr as AstExpr}
use Rattle.hir_syntax.specs.declared.macros.Fragment.TheVariants as fragment
use Rattle.hir_syntax.specs.declared.macros.MacroCall.{MacroCall as AstMacroCall}
use Rattle.hir_store.specs.Pointers.{Pointer}
use Rattle.hir_store.specs.declared.hir.Expr.TheVariants as hir
use Rattle.hir_store.specs.declared.ids.ExprId.{ExprId}
use Rattle.hir_env.specs.declared.expand.FragmentKind.TheVariants as kind
use Rattle.hir_env.specs.declared.ctx.LowerCtx.{LowerCtx}
use Rattle.hir_env.specs.Answers.{Answers, Eager, Expanding, unresolved, no_expansion, expanded}
use Rattle.hir_env.specs.ResolvedTree as tree
use Rattle.hir_env.specs.ResolvedTree.{Entered, Expr, Gone}
use Rattle.hir_env.specs.Calls.{around, asked_call, call_pointer, called, entered_expr, expr_in, inside_file}
use Rattle.hir_env.specs.Answering.{expr_at}
use Rattle.hir_env.specs.Layers.{Entering, ExprKindLayer}
use Rattle.hir_env.specs.ResolveCtx.{ResolveCtx}
use Rattle.hir_env.specs.Whole.{entering, into, read_expr, read_pat, read_stmt, read_type, read_value, reader, written}
use Rattle.hir_lower_builder.specs.Builder.{Builder}
use Rattle.hir_lower_builder.specs.Calls.{Found, enter_left, entered_at, found_in, track, track_each, track_gone, report_condition, emitted}
use Rattle.hir_lower_builder.specs.Families.{IsNoCall}
use Rattle.hir_lower_builder.specs.Nests.{Claims, IfPresent, KidsExpr}
use Rattle.hir_lower_builder.specs.Forms.{called_form, paren_form, uncalled_form}
use Rattle.hir_lower_builder.specs.Lower.{ExprSteps, lower, lower_kept, some}
use Rattle.hir_lower_builder.specs.Lowering.{Checked, Lowering, ◌>>=◌, ◌>>◌, alloc_expr, go_on, point, pure}
use Rattle.hir_lower_expr.specs.Calls.{There, call_at, call_in, expr_there, lower_there, pointed, written_call}

-- what is told, and then what stands there

-- steps that end in something that is kept
pub kept_after : (o : Checked (Unit {0})) (b : Builder) (s : Pointer) (q : ExprSteps)
    → go_on (go_on o b (λ _. q >>= (λ id. point s id >> pure id))).0 (go_on o b (λ _. q >>= (λ id. point s id >> pure id))).1
    (λ id. pure (Some id))
    ≡ go_on o b (λ _. some q >>= pointed s)
kept_after (Err e) b s q = refl
kept_after (Ok _) b s q = by (q b).0 (q b).1
  where
    last : (o : Checked (Unit {0})) (c : Builder) (id : ExprId)
        → go_on (go_on o c (λ _. pure id)).0 (go_on o c (λ _. pure id)).1 (λ i. pure (Some i)) ≡ go_on o c (λ _. pure (Some id))
    last (Ok _) c id = refl
    last (Err e) c id = refl

    by : (o : Checked ExprId) (c : Builder)
        → go_on (go_on o c (λ id. point s id >> pure id)).0 (go_on o c (λ id. point s id >> pure id)).1 (λ id. pure (Some id))
        ≡ go_on (go_on o c (λ id. pure (Some id))).0 (go_on o c (λ id. pure (Some id))).1 (pointed s)
    by (Ok id) c = last (point s id c).0 (point s id c).1 id
    by (Err e) c = refl

-- what nothing is left of
pub gone_after : (o : Checked (Unit {0})) (b : Builder) (why : Gone) (s : Pointer)
    → go_on (go_on (go_on o b (λ _. track_each why.entered)).0 (go_on o b (λ _. track_each why.entered)).1
    (λ _. report_condition why.condition)).0
    (go_on (go_on o b (λ _. track_each why.entered)).0 (go_on o b (λ _. track_each why.entered)).1
    (λ _. report_condition why.condition)).1 (λ _. pure {A = Option ExprId} None)
    ≡ go_on o b (λ _. (track_gone why >> pure None) >>= pointed s)
unfolding track_gone
gone_after (Err e) b why s = refl
gone_after (Ok _) b why s = by (track_gone why b).0 (track_gone why b).1
  where
    nothing : Unit {0} → Lowering (Option ExprId)
    nothing _ = pure None

    by : (o : Checked (Unit {0})) (c : Builder)
        → go_on o c nothing ≡ go_on (go_on o c nothing).0 (go_on o c nothing).1 (pointed s)
    by (Ok _) c = refl
    by (Err e) c = refl

called_on : (s : Pointer) (c : Entered) (x : Expr) (b : Builder)
    → lower_kept (around s (tree.entered c) (tree.some_expr x)) b ≡ (track c >>= (λ _. lower_kept x >>= pointed s)) b
unfolding called_form paren_form track_gone
called_on s c (tree.disabled_expr why e) b = gone_after (track c b).0 (track c b).1 why s
called_on s c x b = kept_after (track c b).0 (track c b).1 s (lower x)

-- a call that stands for no expression, whatever else it came to
uncalled_on : (o : Checked (Unit {0})) (b : Builder) (q : ExprSteps) (x : Found) (F : Found → Lowering (Option ExprId)) → F x ≡ some q
    → go_on (go_on o b (λ _. q)).0 (go_on o b (λ _. q)).1 (λ id. pure (Some id))
    ≡ go_on (go_on o b (λ _. pure x)).0 (go_on o b (λ _. pure x)).1 F
uncalled_on (Ok _) b q x F h = λ i. sym h i b
uncalled_on (Err e) b q x F h = refl

found_on : (o : Checked (Unit {0})) (b : Builder) (x : Found) (F : Found → Lowering (Option ExprId))
    → go_on o b (λ _. F x) ≡ go_on (go_on o b (λ _. pure x)).0 (go_on o b (λ _. pure x)).1 F
found_on (Ok _) b x F = refl
found_on (Err e) b x F = refl

-- how that is read which calls stand for where one of so many is entered
abbrev fresh : Answers → ℕ → Entering
fresh env n = record {
  left = n;
  expr = read_expr env (entering env n);
  value = read_value env (entering env n);
  stmt = read_stmt env (entering env n);
  pat = read_pat env (entering env n);
  type_ = read_type env (entering env n);
}

abbrev there : ResolveCtx → Pointer → Found → Lowering (Option ExprId)
there at s f = lower_there at s (expr_there f)

called_by : (at : ResolveCtx) (s c : Pointer) (n : ℕ) (x : Expanding) (b : Builder)
    → lower_kept (around s (called c x) (expr_in (fresh at.answers n) at.place x)) b
    ≡ ((emitted (called c x) >> pure (found_in n at.place x)) >>= there at s) b
unfolding uncalled_form
called_by at s c n (unresolved y) b =
    let t = emitted (tree.unresolved c y) b in uncalled_on t.0 t.1 (alloc_expr hir.Missing (Some s)) None (there at s) refl
called_by at s c n no_expansion b = uncalled_on (Ok tt) b (alloc_expr hir.Missing (Some s)) None (there at s) refl
called_by at s c n (expanded f None es) b =
    let t = track (record { call = c; file = f; eager = es }) b in
    uncalled_on t.0 t.1 (alloc_expr hir.Missing (Some s)) (Some (inside_file f n at.place, None)) (there at s) refl
called_by at s c n (expanded f (Some (fragment.Expr e)) es) b =
    let called : Entered = record { call = c; file = f; eager = es } in
    let t = track called b in
    called_on s called (read_expr at.answers (entering at.answers n) e (inside_file f n at.place)) b
    ∙ found_on t.0 t.1 (Some (inside_file f n at.place, Some (fragment.Expr e))) (there at s)
called_by at s c n (expanded f (Some (fragment.Stmts e)) es) b =
    let t = track (record { call = c; file = f; eager = es }) b in
    uncalled_on t.0 t.1 (alloc_expr hir.Missing (Some s)) (Some (inside_file f n at.place, Some (fragment.Stmts e))) (there at s) refl
called_by at s c n (expanded f (Some (fragment.Pat e)) es) b =
    let t = track (record { call = c; file = f; eager = es }) b in
    uncalled_on t.0 t.1 (alloc_expr hir.Missing (Some s)) (Some (inside_file f n at.place, Some (fragment.Pat e))) (there at s) refl
called_by at s c n (expanded f (Some (fragment.Type_ e)) es) b =
    let t = track (record { call = c; file = f; eager = es }) b in
    uncalled_on t.0 t.1 (alloc_expr hir.Missing (Some s)) (Some (inside_file f n at.place, Some (fragment.Type_ e))) (there at s) refl

pub call_on : (at : ResolveCtx) (s : Pointer) (c : AstMacroCall) (b : Builder)
    → lower_kept (written_call at s c) b ≡ (entered_at at kind.Expr c >>= (λ f. lower_there at s (expr_there f))) b
unfolding uncalled_form
call_on at s c b = by at.place.left
  where
    by : (l : ℕ) → lower_kept (entered_expr at.answers (entering at.answers l) c at.place s) b
        ≡ (enter_left at.answers kind.Expr c l at.place >>= there at s) b
    by zero = refl
    by (suc n) = called_by at s (call_pointer at.place c) n (asked_call at.answers kind.Expr c at.place) b

-- what is found may be handed in

abbrev nowhere : There
nowhere = None

abbrev place_or : LowerCtx → There → LowerCtx
place_or q None = q
place_or q (Some x) = x.0

abbrev expr_or : AstExpr → There → AstExpr
expr_or e None = e
expr_or e (Some x) = x.1

abbrev found_or : Found → Checked Found → Found
found_or f (Ok x) = x
found_or f (Err y) = f

module _ (at : ResolveCtx) (c : AstMacroCall) (Inner : LowerCtx → AstExpr → Type 0)
    (nests : (n : ℕ) (f : HirFileId) (e : AstExpr) (es : List Eager) → at.place.left ≡ suc n
    → asked_call at.answers kind.Expr c at.place ≡ expanded f (Some (fragment.Expr e)) es → Inner (inside_file f n at.place) e) where
  found_there : (n : ℕ) → at.place.left ≡ suc n → (x : Expanding) → asked_call at.answers kind.Expr c at.place ≡ x
      → (q : LowerCtx) (e : AstExpr) → expr_there (found_in n at.place x) ≡ Some (q, e) → Inner q e
  found_there n h (unresolved y) k q e is = cc
  found_there n h no_expansion k q e is = cc
  found_there n h (expanded f None es) k q e is = cc
  found_there n h (expanded f (Some (fragment.Expr x)) es) k q e is =
      let place : inside_file f n at.place ≡ q = ap (place_or q) is in
      let same : x ≡ e = ap (expr_or e) is in
      rw (← place) (rw (← same) (nests n f x es h k))
  found_there n h (expanded f (Some (fragment.Stmts x)) es) k q e is = cc
  found_there n h (expanded f (Some (fragment.Pat x)) es) k q e is = cc
  found_there n h (expanded f (Some (fragment.Type_ x)) es) k q e is = cc

  emitted_there : (n : ℕ) → at.place.left ≡ suc n → (o : Checked (Unit {0})) (b d : Builder) (found : Found)
      → go_on o b (λ _. pure (found_in n at.place (asked_call at.answers kind.Expr c at.place))) ≡ (Ok found, d)
      → (q : LowerCtx) (e : AstExpr) → expr_there found ≡ Some (q, e) → Inner q e
  emitted_there n h (Err y) b d found k q e is = let apart : Err y ≡ Ok found = ap (λ z. z.0) k in cc
  emitted_there n h (Ok _) b d found k q e is =
      let same : found_in n at.place (asked_call at.answers kind.Expr c at.place) ≡ found = ap (λ z. found_or found z.0) k in
      found_there n h (asked_call at.answers kind.Expr c at.place) refl q e (ap expr_there same ∙ is)

  pub was_entered : (b d : Builder) (found : Found) → entered_at at kind.Expr c b ≡ (Ok found, d)
      → (q : LowerCtx) (e : AstExpr) → expr_there found ≡ Some (q, e) → Inner q e
  was_entered b d found k q e is = by at.place.left refl k
    where
      by : (l : ℕ) → at.place.left ≡ l → enter_left at.answers kind.Expr c l at.place b ≡ (Ok found, d) → Inner q e
      by zero h m =
          let apart : nowhere ≡ Some (q, e) = ap (λ z. expr_there (found_or found z.0)) m ∙ is in cc
      by (suc n) h m =
          let t = emitted (called (call_pointer at.place c) (asked_call at.answers kind.Expr c at.place)) b in
          emitted_there n h t.0 t.1 d found m q e is

-- by the kind

pub no_call : (k : ExprKindLayer written) → call_in k ≡ None → IsNoCall k
no_call (ExprKind-F.MacroExpr c) h = cc
no_call _ h = tt

pub kids_call : (C : Claims) (p : LowerCtx) (k : ExprKindLayer written) (c : Option AstMacroCall) → call_in k ≡ Some c
    → KidsExpr C p k → IfPresent (C.call p) c
kids_call C p (ExprKind-F.MacroExpr x) c h kids = let same : x ≡ c = cc in rw (← same) kids
kids_call C p _ c h kids = cc

pub at_call : (at : ResolveCtx) (k : ExprKindLayer written) (s : Pointer) (c : Option AstMacroCall) → call_in k ≡ Some c
    → expr_at at.answers (reader at.answers (into at)) k at.place s ≡ call_at at s c
at_call at (ExprKind-F.MacroExpr None) s c h = let same : None ≡ c = cc in ap (call_at at s) same
at_call at (ExprKind-F.MacroExpr (Some x)) s c h = let same : Some x ≡ c = cc in ap (call_at at s) same
at_call at _ s c h = cc
