-- An expression in statement or tail place: it stands for itself, or is a call, which stands for statements.
use Rattle.std.proofs.Common.{◌≡◌, ◌∙◌, ap, refl, subst, sym, true≢false, ℕ, zero, suc, Bool, true, false, List, Option, Some, None}
use Rattle.std.specs.Prelude.{◌≢◌, Result, Ok, Err, is_ok}
use Rattle.hir_base.specs.declared.node.AstPtr.{AstPtr}
use Rattle.hir_syntax.specs.declared.ast.ElseBranch.TheOpen.{ExprKind-F}
use Rattle.hir_syntax.specs.declared.ast.Expr.{Expr as AstExpr}
use Rattle.hir_syntax.specs.declared.ast.ExprKind.{out-ExprKind}
use Rattle.hir_syntax.specs.declared.macros.Fragment.TheVariants as fragment
use Rattle.hir_syntax.specs.declared.macros.MacroCall.{MacroCall as AstMacroCall}
use Rattle.hir_syntax.specs.declared.macros.MacroStmts.{MacroStmts as AstMacroStmts}
use Rattle.hir_store.specs.Pointers.{Pointer}
use Rattle.hir_store.specs.declared.diagnostics.ExpressionStoreDiagnostics.TheVariants.{InactiveCode}
use Rattle.hir_store.specs.declared.error.StoreError.{StoreError}
use Rattle.hir_store.specs.declared.error.StoreError.TheVariants.{Memory}
use Rattle.hir_store.specs.declared.hir.Statement.{Statement}
use Rattle.hir_store.specs.declared.ids.CfgId.{CfgId}
use Rattle.hir_store.specs.declared.ids.ExprId.{ExprId}
use Rattle.hir_env.specs.Answers.{Answers, Expanding, unresolved, no_expansion, expanded}
use Rattle.hir_env.specs.ResolvedTree as tree
use Rattle.hir_env.specs.ResolvedTree.{Entered, Expr, OptionExpr, Stmt}
use Rattle.hir_env.specs.Answering.{asked_splice, expr_kind, value_kind, whole_value}
use Rattle.hir_env.specs.Calls.{around, asked_call, call_pointer, called, entered_splice, inside_file, nothing, splice_in, spliced_last}
use Rattle.hir_env.specs.Layers.{Defined, Entering, ExprKindLayer, Spliced, StmtReading}
use Rattle.hir_env.specs.ResolveCtx.{ResolveCtx, ptr, site_of}
use Rattle.hir_env.specs.Whole.{resolved_expr, resolved_value, entering, into, pointer_at, read_expr, read_pat, read_stmt, read_type}
use Rattle.hir_env.specs.Whole.{read_value}
use Rattle.hir_env.specs.Whole.{reader, written}
use Rattle.hir_env.specs.declared.expand.FragmentKind.TheVariants as kind
use Rattle.hir_env.specs.declared.ctx.LowerCtx.{LowerCtx}
use Rattle.hir_env.proofs.Levels.{expr_is_level, value_is_level}
use Rattle.hir_lower_builder.specs.Builder.{Builder}
use Rattle.hir_lower_builder.specs.Calls.{Found, found_in, track, track_gone, splice_entered, splice_left, splice_step, emitted_splice}
use Rattle.hir_lower_builder.specs.Forms.{called_form, paren_form}
use Rattle.hir_lower_builder.specs.Lower.{StoredContents, kept_part, lower, lower_kept, push_some}
use Rattle.hir_store.specs.Range.{HasExprOption}
use Rattle.hir_lower_builder.specs.Lowering.{Checked, Lowering, Lowers, SomeEnd, ◌>>=◌, go_on, pure, report}
use Rattle.hir_lower_builder.specs.Methods.{MaybeLowersExpr, at_place}
use Rattle.hir_lower_builder.specs.Nests.{Claims, KidsRun, claims_at}
use Rattle.hir_lower_expr.specs.Calls.{call_in, pointed}
use Rattle.hir_lower_expr.specs.Runs.{Counts, MayEnter, StmtsBehind, StmtsThere, ValueBehind, check_enabled, lower_run, lower_value}
use Rattle.hir_lower_expr.specs.Runs.{run_part}
use Rattle.hir_lower_expr.specs.Runs.{splice_part, spliced_call, stmts_there, value_part}
use Rattle.hir_lower_expr.specs.declared.runs.Run.{Run}
use Rattle.hir_lower_expr.proofs.CallLemmas.{gone_after, kept_after}
use Rattle.hir_lower_expr.proofs.RunLemmas.{value_append}

-- what is no call

whole_at : (at : ResolveCtx) (k : ExprKindLayer written) (n : AstPtr) (d : Defined) → call_in k ≡ None
    → value_kind at.answers (reader at.answers (into at)) k n at.place d
    ≡ whole_value (expr_kind at.answers (reader at.answers (into at)) k n at.place) d
whole_at at (ExprKind-F.MacroExpr c) n d h = cc
whole_at at _ n d h = refl

value_whole : (at : ResolveCtx) (e : AstExpr) (d : Defined) → call_in (out-ExprKind e.kind) ≡ None
    → resolved_value at d e ≡ whole_value (resolved_expr at e) d
value_whole at e d h =
    value_is_level at d e ∙ (whole_at at (out-ExprKind e.kind) (ptr e.id e.range) d h
    ∙ ap (λ x. whole_value x d) (sym (expr_is_level at e)))

whole_on : (e : Expr) (was : Run) (old : Builder) (r : Checked (Option ExprId)) (new : Builder)
    → MaybeLowersExpr e old r new → ValueBehind (whole_value e) was old r was new
whole_on e was old (Ok id) new h = λ d counts. (ap (λ z. go_on z.0 z.1 (λ t. pure (was.done, t))) h.0, counts)
whole_on e was old (Err x) new h =
    λ d counts other. let k = h other in (ap (λ z. go_on z.0 z.1 (λ t. pure (was.done, t))) k.0, k.1)

pub whole_behind : (at : ResolveCtx) (e : AstExpr) (was : Run) (old : Builder) (r : Checked (Option ExprId)) (new : Builder)
    → call_in (out-ExprKind e.kind) ≡ None → MaybeLowersExpr (resolved_expr at e) old r new
    → ValueBehind (λ d. resolved_value at d e) was old r was new
whole_behind at e was old r new no_call h =
    subst (λ read. ValueBehind read was old r was new) (λ i d. sym (value_whole at e d no_call) i)
    (whole_on (resolved_expr at e) was old r new h)

-- a call, which a condition may disable

abbrev pub call_value : ResolveCtx → Pointer → Option AstMacroCall → Defined → Spliced
call_value at s None d = nothing d
call_value at s (Some c) d = spliced_call at s c d

abbrev pub asked_value : ResolveCtx → Pointer → Option AstMacroCall → Defined → Spliced
asked_value at s c d = asked_splice s (at.answers.cfg (site_of s)) (call_value at s c d) d

called_at : (at : ResolveCtx) (e : AstExpr) (k : ExprKindLayer written) (c : Option AstMacroCall) (d : Defined) → call_in k ≡ Some c
    → value_kind at.answers (reader at.answers (into at)) k (ptr e.id e.range) at.place d ≡ asked_value at (pointer_at at e.id e.range) c d
called_at at e (ExprKind-F.MacroExpr None) c d h =
    let same : None ≡ c = cc in ap (λ x. asked_value at (pointer_at at e.id e.range) x d) same
called_at at e (ExprKind-F.MacroExpr (Some x)) c d h =
    let same : Some x ≡ c = cc in ap (λ x. asked_value at (pointer_at at e.id e.range) x d) same
called_at at e _ c d h = cc

pub value_called : (at : ResolveCtx) (e : AstExpr) (c : Option AstMacroCall) → call_in (out-ExprKind e.kind) ≡ Some c
    → (λ d. resolved_value at d e) ≡ asked_value at (pointer_at at e.id e.range) c
value_called at e c h = λ i d. (value_is_level at d e ∙ called_at at e (out-ExprKind e.kind) c d h) i

abbrev pub flag_or : Bool → Checked Bool → Bool
flag_or b (Ok c) = c
flag_or b (Err e) = b

-- whether it is enabled is known from what was told
pub is_on : (s : Pointer) (r : Result (Unit {0}) CfgId) (old new : Builder) → check_enabled s r old ≡ (Ok true, new)
    → (r ≡ Ok tt) × (old ≡ new)
is_on s (Ok _) old new h = (refl, ap (λ z. z.1) h)
is_on s (Err by) old new h = absurd (emitted_on (report (InactiveCode s by) old).0 (report (InactiveCode s by) old).1 h)
  where
    emitted_on : (o : Checked (Unit {0})) (c : Builder) → go_on o c (λ _. pure false) ≡ (Ok true, new) → ⊥
    emitted_on (Ok _) c k = true≢false (sym (ap (λ z. flag_or true z.0) k))
    emitted_on (Err e) c k = true≢false (sym (ap (λ z. flag_or false z.0) k))

-- what a condition disables leaves what was done
left_on : (done : List Statement) (o : Checked (Unit {0})) (c : Builder)
    → (let x = go_on o c (λ _. pure {A = Option Statement} None) in go_on x.0 x.1 (λ s. pure (push_some done s)))
    ≡ (let x = go_on o c (λ _. pure false) in go_on x.0 x.1 (λ _. pure done))
left_on done (Ok _) c = refl
left_on done (Err e) c = refl

pub disabled_on : (s : Pointer) (by : CfgId) (x : Stmt) (done : List Statement) (c : Builder)
    → lower_run done (tree.more_stmts (tree.disabled_stmt s by x) tree.no_stmts) c
    ≡ go_on (check_enabled s (Err by) c).0 (check_enabled s (Err by) c).1 (λ _. pure done)
disabled_on s by x done c = let t = report (InactiveCode s by) c in left_on done t.0 t.1

gone_on : (done : List Statement) (o : Checked Bool) (c : Builder)
    → (let x = go_on o c (λ _. pure done) in go_on x.0 x.1 (λ xs. pure {A = StoredContents} (xs, None)))
    ≡ go_on o c (λ _. pure (done, None))
gone_on done (Ok _) c = refl
gone_on done (Err e) c = refl

disabled_value : (s : Pointer) (by : CfgId) (x : Spliced) (d : Defined) (done : List Statement) (c : Builder)
    → lower_value done (asked_splice s (Err by) x d) c
    ≡ go_on (check_enabled s (Err by) c).0 (check_enabled s (Err by) c).1 (λ _. pure (done, None))
disabled_value s by x d done c =
    ap (λ z. go_on z.0 z.1 (λ xs. pure {A = StoredContents} (xs, None))) (disabled_on s by tree.item_stmt done c)
    ∙ gone_on done (check_enabled s (Err by) c).0 (check_enabled s (Err by) c).1

pub off_behind : (s : Pointer) (r : Result (Unit {0}) CfgId) (x : Defined → Spliced) (was : Run) (old new : Builder)
    → check_enabled s r old ≡ (Ok false, new) → ValueBehind (λ d. asked_splice s r (x d) d) was old (Ok None) was new
off_behind s (Ok _) x was old new h = absurd (true≢false (ap (λ z. flag_or true z.0) h))
off_behind s (Err by) x was old new h =
    λ d counts. (disabled_value s by (x d) d was.done old ∙ ap (λ z. go_on z.0 z.1 (λ _. pure (was.done, None))) h, counts)

pub off_refused : (s : Pointer) (r : Result (Unit {0}) CfgId) (x : Defined → Spliced) (d : Defined) (done : List Statement)
    (old new : Builder)
    (e : StoreError) → check_enabled s r old ≡ (Err e, new) → lower_value done (asked_splice s r (x d) d) old ≡ (Err e, new)
off_refused s (Ok _) x d done old new e h = absurd (true≢false (ap (λ z. flag_or false z.0) h))
off_refused s (Err by) x d done old new e h =
    disabled_value s by (x d) d done old ∙ ap (λ z. go_on z.0 z.1 (λ _. pure (done, None))) h

pub on_behind : (s : Pointer) (r : Result (Unit {0}) CfgId) (x : Defined → Spliced) (was is : Run) (old new : Builder)
    (o : Checked (Option ExprId)) → r ≡ Ok tt → ValueBehind x was old o is new → ValueBehind (λ d. asked_splice s r (x d) d) was old o
    is new
on_behind s (Ok _) x was is old new o h k = k
on_behind s (Err by) x was is old new o h k = cc

pub nothing_behind : (was : Run) (old : Builder) → ValueBehind nothing was old (Ok None) was old
nothing_behind was old = λ d counts. (refl, counts)

-- what a call stands for

-- what stands behind the statements is found at the call, too
spliced_kept : (s : Pointer) (e : Expr) (b : Builder)
    → lower_kept (around s tree.spliced (tree.some_expr e)) b ≡ (lower_kept e >>= pointed s) b
unfolding called_form paren_form track_gone
spliced_kept s (tree.disabled_expr why e) b = gone_after (Ok tt) b why s
spliced_kept s e b = kept_after (Ok tt) b s (lower e)

last_kept : (s : Pointer) (e : OptionExpr) (b : Builder) → kept_part (spliced_last s e) b ≡ (kept_part e >>= pointed s) b
last_kept s tree.no_expr b = refl
last_kept s (tree.some_expr e) b = spliced_kept s e b

abbrev pub then_pointed : Pointer → StoredContents → Lowering StoredContents
then_pointed s z = pointed s z.1 >>= (λ t. pure (z.0, t))

abbrev with_done : List Statement → Option ExprId → Lowering StoredContents
with_done xs t = pure (xs, t)

pointed_with : (s : Pointer) (xs : List Statement) (o : Checked (Option ExprId)) (c : Builder)
    → go_on (go_on o c (pointed s)).0 (go_on o c (pointed s)).1 (with_done xs)
    ≡ go_on (go_on o c (with_done xs)).0 (go_on o c (with_done xs)).1 (then_pointed s)
pointed_with s xs (Ok t) c = refl
pointed_with s xs (Err e) c = refl

-- the statements, and then what stands behind them
ends_pointed : (s : Pointer) (e : OptionExpr) (o : Checked (List Statement)) (c : Builder)
    → go_on o c (λ xs d. go_on (kept_part (spliced_last s e) d).0 (kept_part (spliced_last s e) d).1 (with_done xs))
    ≡ (let x = go_on o c (λ xs d. go_on (kept_part e d).0 (kept_part e d).1 (with_done xs)) in go_on x.0 x.1 (then_pointed s))
ends_pointed s e (Ok xs) c =
    ap (λ z. go_on z.0 z.1 (with_done xs)) (last_kept s e c) ∙ pointed_with s xs (kept_part e c).0 (kept_part e c).1
ends_pointed s e (Err x) c = refl

-- how that is read which calls stand for where one of so many is entered
abbrev fresh : Answers → ℕ → Entering
fresh env n = record {
  left = n;
  expr = read_expr env (entering env n);
  value = read_value env (entering env n);
  stmt = read_stmt env (entering env n);
  pat = read_pat env (entering env n);
  type_ = read_type env (entering env n);
}

-- what the code does with it
abbrev pub splice_there : ResolveCtx → Pointer → List Statement → Defined → StmtsThere → Lowering StoredContents
splice_there at s done d None = pure (done, None)
splice_there at s done d (Some x) =
    lower_value done (splice_part (at_place at x.0) x.1.stmts x.1.expr d) >>= then_pointed s

abbrev pub defined_there : ResolveCtx → Defined → StmtsThere → Defined
defined_there at d None = d
defined_there at d (Some x) = (splice_part (at_place at x.0) x.1.stmts x.1.expr d).defined

abbrev there : ResolveCtx → Pointer → List Statement → Defined → Found → Lowering StoredContents
there at s done d f = splice_there at s done d (stmts_there f)

-- a call that is entered, and stands for no statements
tracked_nothing : (done : List Statement) (o : Checked (Unit {0})) (b : Builder) (x : Found) (F : Found → Lowering StoredContents)
    → F x ≡ pure (done, None)
    → (let s = go_on o b (λ _. pure {A = Option Statement} None) in
    let r = go_on s.0 s.1 (λ x. pure (push_some done x)) in go_on r.0 r.1 (λ xs. pure {A = StoredContents} (xs, None)))
    ≡ go_on (go_on o b (λ _. pure x)).0 (go_on o b (λ _. pure x)).1 F
tracked_nothing done (Ok _) b x F h = λ i. sym h i b
tracked_nothing done (Err e) b x F h = refl

-- and one that stands for some
tracked_run : (done : List Statement) (s : Pointer) (r : Spliced) (o : Checked (Unit {0})) (b : Builder) (x : Found)
    (F : Found → Lowering StoredContents) → F x ≡ (lower_value done r >>= then_pointed s)
    → (let t = go_on o b (λ _. pure {A = Option Statement} None) in
    let u = go_on t.0 t.1 (λ x. lower_run (push_some done x) r.stmts) in
    go_on u.0 u.1 (λ xs d. go_on (kept_part (spliced_last s r.last) d).0 (kept_part (spliced_last s r.last) d).1 (with_done xs)))
    ≡ go_on (go_on o b (λ _. pure x)).0 (go_on o b (λ _. pure x)).1 F
tracked_run done s r (Ok _) b x F h =
    ends_pointed s r.last (lower_run done r.stmts b).0 (lower_run done r.stmts b).1 ∙ (λ i. sym h i b)
tracked_run done s r (Err e) b x F h = refl

spliced_by : (at : ResolveCtx) (s c : Pointer) (n : ℕ) (x : Expanding) (done : List Statement) (d : Defined) (b : Builder)
    → lower_value done (splice_in (fresh at.answers n) at.place s c x d) b ≡ (splice_step c n at.place x >>= there at s done d) b
spliced_by at s c n (unresolved y) done d b = refl
spliced_by at s c n no_expansion done d b = refl
spliced_by at s c n (expanded f None es) done d b =
    let t = track (record { call = c; file = f; eager = es }) b in
    tracked_nothing done t.0 t.1 (Some (inside_file f n at.place, None)) (there at s done d) refl
spliced_by at s c n (expanded f (Some (fragment.Stmts ms)) es) done d b =
    let t = track (record { call = c; file = f; eager = es }) b in
    let q = inside_file f n at.place in
    tracked_run done s (splice_part (at_place at q) ms.stmts ms.expr d) t.0 t.1 (Some (q, Some (fragment.Stmts ms)))
    (there at s done d) refl
spliced_by at s c n (expanded f (Some (fragment.Expr e)) es) done d b =
    let t = track (record { call = c; file = f; eager = es }) b in
    tracked_nothing done t.0 t.1 (Some (inside_file f n at.place, Some (fragment.Expr e))) (there at s done d) refl
spliced_by at s c n (expanded f (Some (fragment.Pat e)) es) done d b =
    let t = track (record { call = c; file = f; eager = es }) b in
    tracked_nothing done t.0 t.1 (Some (inside_file f n at.place, Some (fragment.Pat e))) (there at s done d) refl
spliced_by at s c n (expanded f (Some (fragment.Type_ e)) es) done d b =
    let t = track (record { call = c; file = f; eager = es }) b in
    tracked_nothing done t.0 t.1 (Some (inside_file f n at.place, Some (fragment.Type_ e))) (there at s done d) refl

splice_on : (at : ResolveCtx) (s : Pointer) (c : AstMacroCall) (done : List Statement) (d : Defined) (b : Builder)
    → lower_value done (spliced_call at s c d) b ≡ (splice_entered at c >>= there at s done d) b
splice_on at s c done d b = by at.place.left
  where
    by : (l : ℕ) → lower_value done (entered_splice at.answers (entering at.answers l) c at.place s d) b
        ≡ (splice_left at.answers c l at.place >>= there at s done d) b
    by zero = refl
    by (suc n) = spliced_by at s (call_pointer at.place c) n (asked_call at.answers kind.Stmts c at.place) done d b

-- what is found

abbrev found_left : Answers → AstMacroCall → ℕ → LowerCtx → Found
found_left env c zero p = None
found_left env c (suc n) p = found_in n p (asked_call env kind.Stmts c p)

abbrev found_or : Found → Checked Found → Found
found_or f (Ok x) = x
found_or f (Err y) = f

emitted_found : (o : Checked (Unit {0})) (c d : Builder) (f found : Found) → go_on o c (λ _. pure f) ≡ (Ok found, d) → f ≡ found
emitted_found (Ok _) c d f found h = ap (λ z. found_or f z.0) h
emitted_found (Err e) c d f found h = absurd (true≢false (sym (ap (λ z. is_ok z.0) h)))

was_found : (at : ResolveCtx) (c : AstMacroCall) (b d : Builder) (found : Found) → splice_entered at c b ≡ (Ok found, d)
    → found_left at.answers c at.place.left at.place ≡ found
was_found at c b d found h = by at.place.left h
  where
    by : (l : ℕ) → splice_left at.answers c l at.place b ≡ (Ok found, d) → found_left at.answers c l at.place ≡ found
    by zero k = ap (λ z. found_or None z.0) k
    by (suc n) k =
        let x = asked_call at.answers kind.Stmts c at.place in
        let t = emitted_splice (called (call_pointer at.place c) x) b in emitted_found t.0 t.1 d (found_in n at.place x) found k

-- the definitions behind it
defined_by : (at : ResolveCtx) (s c : Pointer) (n : ℕ) (x : Expanding) (d : Defined)
    → (splice_in (fresh at.answers n) at.place s c x d).defined ≡ defined_there at d (stmts_there (found_in n at.place x))
defined_by at s c n (unresolved y) d = refl
defined_by at s c n no_expansion d = refl
defined_by at s c n (expanded f None es) d = refl
defined_by at s c n (expanded f (Some (fragment.Stmts ms)) es) d = refl
defined_by at s c n (expanded f (Some (fragment.Expr e)) es) d = refl
defined_by at s c n (expanded f (Some (fragment.Pat e)) es) d = refl
defined_by at s c n (expanded f (Some (fragment.Type_ e)) es) d = refl

defined_on : (at : ResolveCtx) (s : Pointer) (c : AstMacroCall) (d : Defined) (b e : Builder) (found : Found)
    → splice_entered at c b ≡ (Ok found, e) → (spliced_call at s c d).defined ≡ defined_there at d (stmts_there found)
defined_on at s c d b e found h = by at.place.left ∙ ap (λ f. defined_there at d (stmts_there f)) (was_found at c b e found h)
  where
    by : (l : ℕ) → (entered_splice at.answers (entering at.answers l) c at.place s d).defined
        ≡ defined_there at d (stmts_there (found_left at.answers c l at.place))
    by zero = refl
    by (suc n) = defined_by at s (call_pointer at.place c) n (asked_call at.answers kind.Stmts c at.place) d

-- what is found may be handed in
abbrev nowhere : StmtsThere
nowhere = None

abbrev place_or : LowerCtx → StmtsThere → LowerCtx
place_or q None = q
place_or q (Some x) = x.0

abbrev stmts_or : AstMacroStmts → StmtsThere → AstMacroStmts
stmts_or ms None = ms
stmts_or ms (Some x) = x.1

module _ (C : Claims) (at : ResolveCtx) (c : AstMacroCall) (may : MayEnter C at c) where
  kids_by : (n : ℕ) → at.place.left ≡ suc n → (x : Expanding) → asked_call at.answers kind.Stmts c at.place ≡ x
      → (q : LowerCtx) (ms : AstMacroStmts) → stmts_there (found_in n at.place x) ≡ Some (q, ms)
      → KidsRun (claims_at C q) q ms.stmts ms.expr
  kids_by n h (unresolved y) k q ms is = cc
  kids_by n h no_expansion k q ms is = cc
  kids_by n h (expanded f None es) k q ms is = cc
  kids_by n h (expanded f (Some (fragment.Stmts m)) es) k q ms is =
      let place : inside_file f n at.place ≡ q = ap (place_or q) is in
      let same : m ≡ ms = ap (stmts_or ms) is in
      subst (λ r. KidsRun (claims_at C r) r ms.stmts ms.expr) place
      (subst (λ m. let r = inside_file f n at.place in KidsRun (claims_at C r) r m.stmts m.expr) same (may n f m es h k))
  kids_by n h (expanded f (Some (fragment.Expr x)) es) k q ms is = cc
  kids_by n h (expanded f (Some (fragment.Pat x)) es) k q ms is = cc
  kids_by n h (expanded f (Some (fragment.Type_ x)) es) k q ms is = cc

  pub call_kids : (b d : Builder) (found : Found) → splice_entered at c b ≡ (Ok found, d) → (q : LowerCtx) (ms : AstMacroStmts)
      → stmts_there found ≡ Some (q, ms) → KidsRun (claims_at C q) q ms.stmts ms.expr
  call_kids b d found h q ms is = by at.place.left refl (ap stmts_there (was_found at c b d found h) ∙ is)
    where
      by : (l : ℕ) → at.place.left ≡ l → stmts_there (found_left at.answers c l at.place) ≡ Some (q, ms)
          → KidsRun (claims_at C q) q ms.stmts ms.expr
      by zero e k = let apart : nowhere ≡ Some (q, ms) = k in cc
      by (suc n) e k = kids_by n e (asked_call at.answers kind.Stmts c at.place) refl q ms k

-- and it is read where fewer may be entered
left_by : (at : ResolveCtx) (n : ℕ) → at.place.left ≡ suc n → (x : Expanding) (q : LowerCtx) (ms : AstMacroStmts)
    → stmts_there (found_in n at.place x) ≡ Some (q, ms) → at.place.left ≡ suc q.left
left_by at n h (unresolved y) q ms is = cc
left_by at n h no_expansion q ms is = cc
left_by at n h (expanded f None es) q ms is = cc
left_by at n h (expanded f (Some (fragment.Stmts m)) es) q ms is =
    let place : inside_file f n at.place ≡ q = ap (place_or q) is in h ∙ ap (λ p. suc p.left) place
left_by at n h (expanded f (Some (fragment.Expr x)) es) q ms is = cc
left_by at n h (expanded f (Some (fragment.Pat x)) es) q ms is = cc
left_by at n h (expanded f (Some (fragment.Type_ x)) es) q ms is = cc

pub call_left : (at : ResolveCtx) (c : AstMacroCall) (b d : Builder) (found : Found) → splice_entered at c b ≡ (Ok found, d)
    → (q : LowerCtx) (ms : AstMacroStmts) → stmts_there found ≡ Some (q, ms) → at.place.left ≡ suc q.left
call_left at c b d found h q ms is = by at.place.left refl (ap stmts_there (was_found at c b d found h) ∙ is)
  where
    by : (l : ℕ) → at.place.left ≡ l → stmts_there (found_left at.answers c l at.place) ≡ Some (q, ms) → at.place.left ≡ suc q.left
    by zero e k = let apart : nowhere ≡ Some (q, ms) = k in cc
    by (suc n) e k = left_by at n e (asked_call at.answers kind.Stmts c at.place) q ms k

-- a call, step by step

-- it is entered
call_on : (at : ResolveCtx) (s : Pointer) (c : AstMacroCall) (done : List Statement) (d : Defined) (old b : Builder) (found : Found)
    → splice_entered at c old ≡ (Ok found, b)
    → lower_value done (spliced_call at s c d) old ≡ splice_there at s done d (stmts_there found) b
call_on at s c done d old b found h = splice_on at s c done d old ∙ ap (λ z. go_on z.0 z.1 (there at s done d)) h

pub call_refused : (at : ResolveCtx) (s : Pointer) (c : AstMacroCall) (done : List Statement) (d : Defined) (old b : Builder)
    (e : StoreError)
    → splice_entered at c old ≡ (Err e, b) → lower_value done (spliced_call at s c d) old ≡ (Err e, b)
call_refused at s c done d old b e h = splice_on at s c done d old ∙ ap (λ z. go_on z.0 z.1 (there at s done d)) h

-- and stands for no statements
pub call_nothing : (at : ResolveCtx) (s : Pointer) (c : AstMacroCall) (was : Run) (old b : Builder) (found : Found)
    → splice_entered at c old ≡ (Ok found, b) → stmts_there found ≡ None → ValueBehind (spliced_call at s c) was old (Ok None) was b
call_nothing at s c was old b found h is = λ d counts. (
  call_on at s c was.done d old b found h ∙ ap (λ f. splice_there at s was.done d f b) is,
  subst (Counts was.counts.entries)
      (sym (defined_on at s c d old b found h ∙ ap (defined_there at d) is)) counts,
)

-- or for some, which are read there
module _ (at inner : ResolveCtx) (s : Pointer) (c : AstMacroCall) (was : Run) (old b : Builder) (found : Found)
    (entered : splice_entered at c old ≡ (Ok found, b)) (q : LowerCtx) (ms : AstMacroStmts) (is : stmts_there found ≡ Some (q, ms))
    (there_is : inner ≡ at_place at q) where
  abbrev stmts : Defined → StmtReading
  stmts = run_part inner ms.stmts

  abbrev last : Defined → Spliced
  last d = value_part inner ms.expr (stmts d).defined

  -- by its statements and what stands behind them
  into_parts : (d : Defined) → lower_value was.done (spliced_call at s c d) old
      ≡ (let r = go_on (lower_run was.done (stmts d).stmts b).0 (lower_run was.done (stmts d).stmts b).1 (λ xs. lower_value xs (last d)) in
      go_on r.0 r.1 (then_pointed s))
  into_parts d =
      call_on at s c was.done d old b found entered
      ∙ (ap (λ f. splice_there at s was.done d f b) is
      ∙ (ap (λ x. (lower_value was.done (splice_part x ms.stmts ms.expr d) >>= then_pointed s) b) (sym there_is)
      ∙ ap (λ z. go_on z.0 z.1 (then_pointed s)) (value_append was.done (stmts d).stmts (last d) b)))

  pub run_in_call_refused : (e : StoreError) (d : Defined) (new : Builder) → lower_run was.done (stmts d).stmts b ≡ (Err e, new)
      → lower_value was.done (spliced_call at s c d) old ≡ (Err e, new)
  run_in_call_refused e d new h =
      into_parts d
      ∙ ap (λ z. let r = go_on z.0 z.1 (λ xs. lower_value xs (last d)) in go_on r.0 r.1 (then_pointed s)) h

  module _ (run : Run) (mid : Builder) (ran : StmtsBehind stmts was b (Ok tt) run mid) where
    after_run : (d : Defined) → Counts was.counts.entries d → lower_value was.done (spliced_call at s c d) old
        ≡ go_on (lower_value run.done (last d) mid).0 (lower_value run.done (last d) mid).1 (then_pointed s)
    after_run d counts =
        into_parts d
        ∙ ap (λ z. let r = go_on z.0 z.1 (λ xs. lower_value xs (last d)) in go_on r.0 r.1 (then_pointed s)) (ran d counts).0

    pub value_in_call_refused : (e : StoreError) (now : Run) (d : Defined) (new : Builder) → Counts was.counts.entries d
        → ValueBehind (value_part inner ms.expr) run mid (Err e) now new → e ≢ Memory
        → (lower_value was.done (spliced_call at s c d) old ≡ (Err e, new)) × SomeEnd new
    value_in_call_refused e now d new counts h other =
        let k = h (stmts d).defined (ran d counts).1 other in
        (after_run d counts ∙ ap (λ z. go_on z.0 z.1 (then_pointed s)) k.0, k.1)

    pub call_behind : (now : Run) (end new : Builder) (v : Option ExprId) (o : Checked (Option ExprId))
        → ValueBehind (value_part inner ms.expr) run mid (Ok v) now end → Lowers HasExprOption (pointed s v) end o new
        → ValueBehind (spliced_call at s c) was old o now new
    call_behind now end new v (Ok w) h p = λ d counts.
        let k = h (stmts d).defined (ran d counts).1 in
        let same = defined_on at s c d old b found entered ∙ (ap (defined_there at d) is
        ∙ ap (λ x. (splice_part x ms.stmts ms.expr d).defined) (sym there_is)) in (
          after_run d counts ∙ (ap (λ z. go_on z.0 z.1 (then_pointed s)) k.0
              ∙ ap (λ z. go_on z.0 z.1 (λ t. pure {A = StoredContents} (now.done, t))) p.0),
          subst (Counts now.counts.entries) (sym same) k.1,
        )
    call_behind now end new v (Err e) h p = λ d counts other.
        let k = h (stmts d).defined (ran d counts).1 in
        let m = p other in (
          after_run d counts ∙ (ap (λ z. go_on z.0 z.1 (then_pointed s)) k.0
              ∙ ap (λ z. go_on z.0 z.1 (λ t. pure {A = StoredContents} (now.done, t))) m.0),
          m.1,
        )
