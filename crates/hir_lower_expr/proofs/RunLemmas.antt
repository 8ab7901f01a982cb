-- What is in a block, one statement behind the other.
use Rattle.std.proofs.Common.{arith, ◌≡◌, ◌∙◌, ap, refl, subst, sym, slice_index_or}
use Rattle.std.proofs.Common.{Bool, List, [], ◌∷◌, Option, Some, None}
use Rattle.std.specs.Prelude.{◌≤◌, ◌<◌, ◌-◌, ◌≢◌, IsErrAnd, Ok, Err, drop, length, take}
use Rattle.hir_syntax.specs.declared.ast.ElseBranch.TheOpen.{StmtKind-F}
use Rattle.hir_syntax.specs.declared.ast.Expr.{Expr as AstExpr}
use Rattle.hir_syntax.specs.declared.ast.Stmt.{Stmt as AstStmt}
use Rattle.hir_syntax.specs.declared.ast.StmtKind.{out-StmtKind, out-roll-StmtKind}
use Rattle.hir_syntax.specs.declared.ast.StmtKind.TheVariants as kind
use Rattle.hir_store.specs.Past.{join, past_present, past_statement, past_statements}
use Rattle.hir_store.specs.Range.{Grows, HasExprOption, HasStatements}
use Rattle.hir_store.specs.Stored.{Stored}
use Rattle.hir_store.specs.declared.error.StoreError.{StoreError}
use Rattle.hir_store.specs.declared.error.StoreError.TheVariants.{Memory}
use Rattle.hir_store.specs.declared.hir.Statement.{Statement}
use Rattle.hir_store.specs.declared.ids.ExprId.{ExprId}
use Rattle.hir_env.specs.ResolvedTree as tree
use Rattle.hir_env.specs.ResolvedTree.{Stmt, Stmts}
use Rattle.hir_env.specs.Answering.{ended, stmt_at}
use Rattle.hir_env.specs.Calls.{append}
use Rattle.hir_env.specs.Layers.{Defined, Spliced, StmtReading}
use Rattle.hir_env.specs.ResolveCtx.{ResolveCtx}
use Rattle.hir_env.specs.Whole.{into, pointer_at, reader, stmt_level}
use Rattle.hir_env.proofs.Levels.{stmt_is_level}
use Rattle.hir_lower_builder.specs.Builder.{Builder}
use Rattle.hir_lower_builder.specs.Lower.{StoredContents, kept_part, lower_stmt, push_some}
use Rattle.hir_lower_builder.specs.Lowering.{Checked, Lowering, Lowers, SomeEnd, go_on, pure}
use Rattle.hir_lower_builder.specs.Nests.{Each}
use Rattle.hir_lower_expr.specs.Runs.{Counts, StmtsBehind, ValueBehind, expr_stmt, inside, lower_run, lower_value, run_part, value_part}
use Rattle.hir_lower_expr.specs.declared.runs.Run.{Run}

-- what is read

-- statements behind what was read
abbrev then_run : ResolveCtx → List AstStmt → StmtReading → StmtReading
then_run at ss r = record { stmts = append r.stmts (run_part at ss r.defined).stmts; defined = (run_part at ss r.defined).defined }

pub run_more : (at : ResolveCtx) (s : AstStmt) (ss : List AstStmt) (d : Defined)
    → run_part at (s ∷ ss) d ≡ then_run at ss (stmt_level at d s)
run_more at s ss d = ap (then_run at ss) (stmt_is_level at d s)

-- an expression statement
pub stmt_expr : (at : ResolveCtx) (s : AstStmt) (e : Option AstExpr) (semi : Bool) (d : Defined) → s.kind ≡ kind.ExprStmt e semi
    → stmt_level at d s ≡ ended semi (value_part at e d)
stmt_expr at s e semi d h =
    ap (λ k. stmt_at at.answers (reader at.answers (into at)) k at.place (pointer_at at s.id s.range) d)
    (ap out-StmtKind (h ∙ sym (kind.rolls-ExprStmt e semi)) ∙ out-roll-StmtKind (StmtKind-F.ExprStmt e semi))

-- statements behind each other

abbrev run_on : List Statement → Stmts → Stmt → Option Statement → Lowering (List Statement)
run_on done ss s x b = lower_run (push_some done x) ss (inside s b)

go_behind : (done : List Statement) (s : Stmt) (ss b : Stmts)
    → ((x : Option Statement) (d : Builder) → lower_run (push_some done x) (append ss b) d
    ≡ go_on (lower_run (push_some done x) ss d).0 (lower_run (push_some done x) ss d).1 (λ xs. lower_run xs b))
    → (o : Checked (Option Statement)) (d : Builder)
    → go_on o d (run_on done (append ss b) s)
    ≡ go_on (go_on o d (run_on done ss s)).0 (go_on o d (run_on done ss s)).1 (λ xs. lower_run xs b)
go_behind done s ss b rest (Ok x) d = rest x (inside s d)
go_behind done s ss b rest (Err e) d = refl

pub run_append : (done : List Statement) (a b : Stmts) (c : Builder)
    → lower_run done (append a b) c ≡ go_on (lower_run done a c).0 (lower_run done a c).1 (λ xs. lower_run xs b)
run_append done tree.no_stmts b c = refl
run_append done (tree.more_stmts s ss) b c =
    go_behind done s ss b (λ x d. run_append (push_some done x) ss b d) (lower_stmt s c).0 (lower_stmt s c).1

-- what stands behind statements, and what it ends in
abbrev pub behind : Stmts → Spliced → Spliced
behind ss r = record r { stmts = append ss r.stmts }

pub value_append : (done : List Statement) (a : Stmts) (r : Spliced) (c : Builder)
    → lower_value done (behind a r) c ≡ go_on (lower_run done a c).0 (lower_run done a c).1 (λ xs. lower_value xs r)
value_append done a r c =
    ap (λ z. go_on z.0 z.1 (λ xs d. go_on (kept_part r.last d).0 (kept_part r.last d).1 (λ t. pure (xs, t)))) (run_append done a r.stmts c)
    ∙ by (lower_run done a c).0 (lower_run done a c).1
  where
    by : (o : Checked (List Statement)) (d : Builder)
        → go_on (go_on o d (λ xs. lower_run xs r.stmts)).0 (go_on o d (λ xs. lower_run xs r.stmts)).1
        (λ xs e. go_on (kept_part r.last e).0 (kept_part r.last e).1 (λ t. pure (xs, t)))
        ≡ go_on o d (λ xs. lower_value xs r)
    by (Ok xs) d = refl
    by (Err e) d = refl

-- step by step

-- no arena is shorter than it was two steps ago
pub grows_on : (a b c : Stored) → Grows a b → Grows b c → Grows a c
grows_on a b c h k = (
  omega (arith, h.0, k.0),
  omega (arith, h.1, k.1),
  omega (arith, h.2, k.2),
  omega (arith, h.3, k.3),
  omega (arith, h.4, k.4),
  omega (arith, h.5, k.5),
)

pub still_has : (old new : Stored) (ss : List Statement) → Grows old new → HasStatements old ss → HasStatements new ss
still_has old new ss h k =
    (omega (arith, h, k.0), omega (arith, h, k.1), omega (arith, h, k.2), omega (arith, h, k.3))

-- what is refused is refused in what it stands in
pub refused : {A : Type 0} (Has : Stored → A → Type 0) (steps : Lowering A) (old : Builder) (e : StoreError) (r : Checked A)
    (new : Builder) → IsErrAnd r (λ f. f ≡ e) → (e ≢ Memory → (steps old ≡ (Err e, new)) × SomeEnd new) → Lowers Has steps old r new
refused Has steps old e (Ok a) new is h = absurd is
refused Has steps old e (Err f) new is h = rw is h

pub value_refused : (read : Defined → Spliced) (was is : Run) (old : Builder) (e : StoreError) (r : Checked (Option ExprId)) (new : Builder)
    → IsErrAnd r (λ f. f ≡ e)
    → ((d : Defined) → Counts was.counts.entries d → e ≢ Memory → (lower_value was.done (read d) old ≡ (Err e, new)) × SomeEnd new)
    → ValueBehind read was old r is new
value_refused read was is old e (Ok a) new same h = absurd same
value_refused read was is old e (Err f) new same h = rw same h

pub stmts_refused : (read : Defined → StmtReading) (was is : Run) (old : Builder) (e : StoreError) (r : Checked (Unit {0})) (new : Builder)
    → IsErrAnd r (λ f. f ≡ e)
    → ((d : Defined) → Counts was.counts.entries d → e ≢ Memory → (lower_run was.done (read d).stmts old ≡ (Err e, new)) × SomeEnd new)
    → StmtsBehind read was old r is new
stmts_refused read was is old e (Ok a) new same h = absurd same
stmts_refused read was is old e (Err f) new same h = rw same h

-- single statements

-- one statement that opens nothing
pub alone_on : (s : Stmt) (done : List Statement) (old : Builder) → ((b : Builder) → inside s b ≡ b)
    → lower_run done (tree.more_stmts s tree.no_stmts) old ≡ go_on (lower_stmt s old).0 (lower_stmt s old).1 (λ x. pure (push_some done x))
alone_on s done old h = by (lower_stmt s old).0 (lower_stmt s old).1
  where
    by : (o : Checked (Option Statement)) (c : Builder)
        → go_on o c (run_on done tree.no_stmts s) ≡ go_on o c (λ x. pure (push_some done x))
    by (Ok x) c = ap (λ d. (Ok (push_some done x), d)) (h c)
    by (Err e) c = refl

-- an expression statement
abbrev pub ended_by : Bool → StoredContents → Lowering (List Statement)
ended_by semi z = pure (push_some z.0 (expr_stmt z.1 semi))

value_then : (done : List Statement) (semi : Bool) (o : Checked (Option ExprId)) (c : Builder)
    → (let x = go_on o c (λ v. pure (expr_stmt v semi)) in go_on x.0 x.1 (λ s. pure (push_some done s)))
    ≡ (let x = go_on o c (λ v. pure {A = StoredContents} (done, v)) in go_on x.0 x.1 (ended_by semi))
value_then done semi (Ok v) c = refl
value_then done semi (Err e) c = refl

last_then : (r : Spliced) (semi : Bool) (o : Checked (List Statement)) (c : Builder)
    → go_on o c (λ xs. lower_run xs (tree.more_stmts (tree.expr_stmt r.last semi) tree.no_stmts))
    ≡ (let x = go_on o c (λ xs d. go_on (kept_part r.last d).0 (kept_part r.last d).1 (λ v. pure {A = StoredContents} (xs, v))) in
    go_on x.0 x.1 (ended_by semi))
last_then r semi (Ok xs) c = value_then xs semi (kept_part r.last c).0 (kept_part r.last c).1
last_then r semi (Err e) c = refl

ended_on : (r : Spliced) (semi : Bool) (done : List Statement) (c : Builder)
    → lower_run done (ended semi r).stmts c ≡ go_on (lower_value done r c).0 (lower_value done r c).1 (ended_by semi)
ended_on r semi done c =
    run_append done r.stmts (tree.more_stmts (tree.expr_stmt r.last semi) tree.no_stmts) c
    ∙ last_then r semi (lower_run done r.stmts c).0 (lower_run done r.stmts c).1

pub ended_behind : (at : ResolveCtx) (s : AstStmt) (e : Option AstExpr) (semi : Bool) (was done now : List Statement) (v : Option ExprId)
    (old new : Builder) (d : Defined) → s.kind ≡ kind.ExprStmt e semi → lower_value was (value_part at e d) old ≡ (Ok (done, v), new)
    → now ≡ push_some done (expr_stmt v semi) → lower_run was (stmt_level at d s).stmts old ≡ (Ok now, new)
ended_behind at s e semi was done now v old new d h k is =
    ap (λ r. lower_run was r.stmts old) (stmt_expr at s e semi d h)
    ∙ (ended_on (value_part at e d) semi was old
    ∙ (ap (λ z. go_on z.0 z.1 (ended_by semi)) k ∙ ap (λ xs. (Ok xs, new)) (sym is)))

pub ended_refused : (at : ResolveCtx) (s : AstStmt) (e : Option AstExpr) (semi : Bool) (was : List Statement) (x : StoreError)
    (old new : Builder) (d : Defined) → s.kind ≡ kind.ExprStmt e semi → lower_value was (value_part at e d) old ≡ (Err x, new)
    → lower_run was (stmt_level at d s).stmts old ≡ (Err x, new)
ended_refused at s e semi was x old new d h k =
    ap (λ r. lower_run was r.stmts old) (stmt_expr at s e semi d h)
    ∙ (ended_on (value_part at e d) semi was old ∙ ap (λ z. go_on z.0 z.1 (ended_by semi)) k)

pub pushed_has : (s : Stored) (done now : List Statement) (v : Option ExprId) (semi : Bool) → HasStatements s done → HasExprOption s v
    → past_statements now ≡ join (past_statements done) (past_present past_statement (expr_stmt v semi)) → HasStatements s now
pushed_has s done now None semi h k is =
    rw is (omega (arith, h.0), omega (arith, h.1), omega (arith, h.2), omega (arith, h.3))
pushed_has s done now (Some id) semi h k is =
    rw is (omega (arith, h.0, k), omega (arith, h.1), omega (arith, h.2), omega (arith, h.3))

-- a run of statements

take_all : {A : Type 0} (xs : List A) → take (length xs) xs ≡ xs
take_all [] = refl
take_all (x ∷ xs) = ap (λ ys. x ∷ ys) (take_all xs)

-- what is first, and what is behind it
first_of : {A : Type 0} (xs : List A) (x : A) → x ≡ slice_index_or xs 0 x → 1 ≤ length xs
    → xs ≡ x ∷ take (length xs - 1) (drop 1 xs)
first_of [] x h le = absurd (omega (arith, le))
first_of (y ∷ ys) x h le =
    let rest : length (y ∷ ys) - 1 ≡ length ys = omega arith in
    λ j. sym h j ∷ sym (ap (λ n. take n ys) rest ∙ take_all ys) j

pub rest_may : {A : Type 0} (K : A → Type 0) (xs : List A) (x : A) → x ≡ slice_index_or xs 0 x → 1 ≤ length xs
    → Each K xs → Each K (take (length xs - 1) (drop 1 xs))
rest_may K xs x h le all = (subst (Each K) (first_of xs x h le) all).1

pub first_may : {A : Type 0} (K : A → Type 0) (xs : List A) (x : A) → x ≡ slice_index_or xs 0 x → 1 ≤ length xs → Each K xs → K x
first_may K xs x h le all = (subst (Each K) (first_of xs x h le) all).0

pub none_left : {A : Type 0} (xs : List A) → length xs < 1 → xs ≡ []
none_left [] h = refl
none_left (x ∷ xs) h = absurd (omega (arith, h))

-- What is still to be done of a run comes to the same as all of it.
pub record RunOn (at : ResolveCtx) (was : Run) (old : Builder) (is : Run) (new : Builder) (all left : List AstStmt)
    (d : Defined) : Type 0 where
  pub since : Defined
  pub counts : Counts is.counts.entries since
  pub steps : lower_run was.done (run_part at all d).stmts old ≡ lower_run is.done (run_part at left since).stmts new
  pub defined : (run_part at all d).defined ≡ (run_part at left since).defined

first_on : (at : ResolveCtx) (xs : List AstStmt) (x : AstStmt) (d : Defined) → x ≡ slice_index_or xs 0 x → 1 ≤ length xs
    → run_part at xs d ≡ then_run at (take (length xs - 1) (drop 1 xs)) (stmt_level at d x)
first_on at xs x d h le =
    ap (λ ys. run_part at ys d) (first_of xs x h le) ∙ run_more at x (take (length xs - 1) (drop 1 xs)) d

pub run_begins : (at : ResolveCtx) (was : Run) (old : Builder) (all : List AstStmt) (d : Defined) → Counts was.counts.entries d
    → RunOn at was old was old all all d
run_begins at was old all d h = record { since = d; counts = h; steps = refl; defined = refl }

pub run_goes_on : (at : ResolveCtx) (was is now : Run) (old new next : Builder) (all xs : List AstStmt) (x : AstStmt) (d : Defined)
    → x ≡ slice_index_or xs 0 x → 1 ≤ length xs → RunOn at was old is new all xs d
    → StmtsBehind (λ e. stmt_level at e x) is new (Ok tt) now next
    → RunOn at was old now next all (take (length xs - 1) (drop 1 xs)) d
run_goes_on at was is now old new next all xs x d h le on one =
    let left = take (length xs - 1) (drop 1 xs) in
    let r = stmt_level at on.since x in
    let k = one on.since on.counts in
    let first = first_on at xs x on.since h le in record {
      since = r.defined;
      counts = k.1;
      steps = on.steps ∙ (ap (λ y. lower_run is.done y.stmts new) first ∙ (run_append is.done r.stmts (run_part at left r.defined).stmts new
          ∙ ap (λ z. go_on z.0 z.1 (λ ys. lower_run ys (run_part at left r.defined).stmts)) k.0));
      defined = on.defined ∙ ap (λ y. y.defined) first;
    }

pub run_refused : (at : ResolveCtx) (was is now : Run) (old new next : Builder) (all xs : List AstStmt) (x : AstStmt) (d : Defined)
    (e : StoreError)
    → x ≡ slice_index_or xs 0 x → 1 ≤ length xs → RunOn at was old is new all xs d
    → StmtsBehind (λ e. stmt_level at e x) is new (Err e) now next → e ≢ Memory
    → (lower_run was.done (run_part at all d).stmts old ≡ (Err e, next)) × SomeEnd next
run_refused at was is now old new next all xs x d e h le on one other =
    let left = take (length xs - 1) (drop 1 xs) in
    let r = stmt_level at on.since x in
    let k = one on.since on.counts other in (
      on.steps ∙ (ap (λ y. lower_run is.done y.stmts new) (first_on at xs x on.since h le)
          ∙ (run_append is.done r.stmts (run_part at left r.defined).stmts new
          ∙ ap (λ z. go_on z.0 z.1 (λ ys. lower_run ys (run_part at left r.defined).stmts)) k.0)),
      k.1,
    )

pub run_ends : (at : ResolveCtx) (was is : Run) (old new : Builder) (all left : List AstStmt) (d : Defined) → left ≡ []
    → RunOn at was old is new all left d
    → (lower_run was.done (run_part at all d).stmts old ≡ (Ok is.done, new)) × Counts is.counts.entries (run_part at all d).defined
run_ends at was is old new all left d h on = (
  on.steps ∙ ap (λ ys. lower_run is.done (run_part at ys on.since).stmts new) h,
  subst (Counts is.counts.entries) (sym (on.defined ∙ ap (λ ys. (run_part at ys on.since).defined) h)) on.counts,
)
