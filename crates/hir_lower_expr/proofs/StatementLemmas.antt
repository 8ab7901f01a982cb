-- A statement that is written here, by its kind.
use Rattle.std.proofs.Common.{arith, ◌≡◌, ◌∙◌, ap, refl, subst, sym, true≢false, ℕ}
use Rattle.std.proofs.Common.{Bool, true, false, List, [], ◌∷◌, ◌++◌, Option, Some, None}
use Rattle.std.specs.Prelude.{◌≢◌, IsErrAnd, Result, Ok, Err}
use Rattle.hir_syntax.specs.declared.ast.ElseBranch.TheOpen.{ExprKind-F, StmtKind-F}
use Rattle.hir_syntax.specs.declared.ast.Expr.{Expr as AstExpr}
use Rattle.hir_syntax.specs.declared.ast.Name.{Name as AstName}
use Rattle.hir_syntax.specs.declared.ast.Stmt.{Stmt as AstStmt}
use Rattle.hir_syntax.specs.declared.ast.StmtKind.{out-StmtKind, out-roll-StmtKind}
use Rattle.hir_syntax.specs.declared.ast.StmtKind.TheVariants as kind
use Rattle.hir_syntax.specs.declared.macros.MacroCall.{MacroCall as AstMacroCall}
use Rattle.hir_syntax.specs.declared.pats.Pat.{Pat as AstPat}
use Rattle.hir_syntax.specs.declared.types.Type_.{Type_ as AstType_}
use Rattle.hir_store.specs.Past.{join, past_present, past_statement, past_statements}
use Rattle.hir_store.specs.Pointers.{Pointer}
use Rattle.hir_store.specs.Range.{Grows, HasExprOption, HasStatementOption, HasStatements}
use Rattle.hir_store.specs.Stored.{Stored}
use Rattle.hir_store.specs.declared.error.StoreError.{StoreError}
use Rattle.hir_store.specs.declared.error.StoreError.TheVariants.{Memory}
use Rattle.hir_store.specs.declared.hir.Statement.{Statement}
use Rattle.hir_store.specs.declared.hir.Statement.TheVariants as statement
use Rattle.hir_store.specs.declared.ids.CfgId.{CfgId}
use Rattle.hir_store.specs.declared.ids.ExprId.{ExprId}
use Rattle.hir_store.specs.declared.ids.MacroDefId.{MacroDefId}
use Rattle.hir_store.specs.declared.name.Name.{Name}
use Rattle.hir_store.specs.declared.name.Name.TheVariants as name
use Rattle.hir_env.specs.ResolvedTree as tree
use Rattle.hir_env.specs.ResolvedTree.{Stmt}
use Rattle.hir_env.specs.Answering.{alone, asked_rules, asked_stmt, def_named, rules_named, stmt_at}
use Rattle.hir_env.specs.Calls.{times}
use Rattle.hir_env.specs.Layers.{Defined, ExprKindLayer, StmtKindLayer, StmtReading}
use Rattle.hir_env.specs.ResolveCtx.{ResolveCtx, site_of}
use Rattle.hir_env.specs.Whole.{expr_part, into, let_else_part, pat_part, pointer_at, reader, stmt_level, type_part, written}
use Rattle.hir_env.specs.Wrapped.{AstLetElse}
use Rattle.hir_env.specs.declared.ctx.LowerCtx.{LowerCtx}
use Rattle.hir_lower_builder.specs.Builder.{Builder}
use Rattle.hir_lower_builder.specs.Lower.{lower_stmt, push_some}
use Rattle.hir_lower_builder.specs.Lowering.{Checked, Lowering, Lowers, SomeEnd, go_on, pure}
use Rattle.hir_lower_builder.specs.Nests.{Claims, KidsOfValue}
use Rattle.hir_lower_expr.specs.Calls.{call_in}
use Rattle.hir_lower_expr.specs.Runs.{Counts, DefinesBehind, StmtsBehind, StmtsExist, ValueExists, count_in, check_enabled, inside}
use Rattle.hir_lower_expr.specs.Runs.{lower_run}
use Rattle.hir_lower_expr.specs.declared.runs.Run.{Run}
use Rattle.hir_lower_expr.proofs.RunLemmas.{alone_on, grows_on, still_has}
use Rattle.hir_lower_expr.proofs.SpliceLemmas.{disabled_on, flag_or}

-- what is refused leaves nothing
pub stmts_unplaced : (old new : Builder) (is : List Statement) (r : Checked (Unit {0})) (P : StoreError → Type 0) → IsErrAnd r P
    → StmtsExist old r is new
stmts_unplaced old new is (Ok _) P h = absurd h
stmts_unplaced old new is (Err e) P h = tt

pub value_unplaced : (old new : Builder) (is : List Statement) (r : Checked (Option ExprId)) (P : StoreError → Type 0) → IsErrAnd r P
    → ValueExists old r is new
value_unplaced old new is (Ok _) P h = absurd h
value_unplaced old new is (Err e) P h = tt

abbrev reads : ResolveCtx → AstStmt → StmtKindLayer written → Defined → StmtReading
reads at s k d = stmt_at at.answers (reader at.answers (into at)) k at.place (pointer_at at s.id s.range) d

level_of : (at : ResolveCtx) (s : AstStmt) (k : StmtKindLayer written) → out-StmtKind s.kind ≡ k → (λ d. stmt_level at d s) ≡ reads at s k
level_of at s k h = ap (λ x. reads at s x) h

by_level : (at : ResolveCtx) (s : AstStmt) (k : StmtKindLayer written) (was is : Run) (old new : Builder) (o : Checked (Unit {0}))
    → out-StmtKind s.kind ≡ k → StmtsBehind (reads at s k) was old o is new → StmtsBehind (λ d. stmt_level at d s) was old o is new
by_level at s k was is old new o h x = subst (λ read. StmtsBehind read was old o is new) (sym (level_of at s k h)) x

-- one that opens nothing

asked_inside : (s : Pointer) (r : Result (Unit {0}) CfgId) (x : Stmt) → ((b : Builder) → inside x b ≡ b) → (b : Builder)
    → inside (asked_stmt s r x) b ≡ b
asked_inside s (Ok _) x h b = h b
asked_inside s (Err by) x h b = refl

plain_behind : (x : Stmt) (was : Run) (old : Builder) (r : Checked (Option Statement)) (new : Builder) (xs : List Statement)
    (made : Option Statement) → ((b : Builder) → inside x b ≡ b) → lower_stmt x old ≡ (Ok made, new) → xs ≡ push_some was.done made
    → StmtsBehind (alone x) was old (Ok tt) (record was { done = xs }) new
plain_behind x was old r new xs made h k is = λ d counts. (
  alone_on x was.done old h ∙ (ap (λ z. go_on z.0 z.1 (λ y. pure (push_some was.done y))) k ∙ ap (λ ys. (Ok ys, new)) (sym is)),
  counts,
)

plain_refused : (x : Stmt) (done : List Statement) (old new : Builder) (e : StoreError) → ((b : Builder) → inside x b ≡ b)
    → lower_stmt x old ≡ (Err e, new) → lower_run done (tree.more_stmts x tree.no_stmts) old ≡ (Err e, new)
plain_refused x done old new e h k = alone_on x done old h ∙ ap (λ z. go_on z.0 z.1 (λ y. pure (push_some done y))) k

module _ (at : ResolveCtx) (s : AstStmt) (p : Option AstPat) (t : Option AstType_) (e : Option AstExpr) (b : Option AstLetElse)
    (is : s.kind ≡ kind.LetStmt p t e b) where
  abbrev pub let_of : Stmt
  let_of =
      let at_node = pointer_at at s.id s.range in
      asked_stmt at_node (at.answers.cfg (site_of at_node)) (tree.let_stmt (pat_part at p) (type_part at t) (expr_part at e)
      (let_else_part at b))

  let_kind : out-StmtKind s.kind ≡ StmtKind-F.LetStmt p t e b
  let_kind = ap out-StmtKind (is ∙ sym (kind.rolls-LetStmt p t e b)) ∙ out-roll-StmtKind (StmtKind-F.LetStmt p t e b)

  let_inside : (c : Builder) → inside let_of c ≡ c
  let_inside c =
      let at_node = pointer_at at s.id s.range in
      asked_inside at_node (at.answers.cfg (site_of at_node))
      (tree.let_stmt (pat_part at p) (type_part at t) (expr_part at e) (let_else_part at b)) (λ c. refl) c

  pub let_behind : (was : Run) (old new : Builder) (made : Option Statement) (xs : List Statement) → lower_stmt let_of old ≡ (Ok made, new)
      → xs ≡ push_some was.done made → StmtsBehind (λ d. stmt_level at d s) was old (Ok tt) (record was { done = xs }) new
  let_behind was old new made xs k same =
      by_level at s (StmtKind-F.LetStmt p t e b) was (record was { done = xs }) old new (Ok tt) let_kind
      (plain_behind let_of was old (Ok made) new xs made let_inside k same)

  pub let_refused : (was : Run) (old new : Builder) (x : StoreError) (d : Defined) → lower_stmt let_of old ≡ (Err x, new)
      → lower_run was.done (stmt_level at d s).stmts old ≡ (Err x, new)
  let_refused was old new x d k =
      ap (λ read. lower_run was.done (read d).stmts old) (level_of at s (StmtKind-F.LetStmt p t e b) let_kind)
      ∙ plain_refused let_of was.done old new x let_inside k

pub item_behind : (at : ResolveCtx) (s : AstStmt) (was : Run) (old : Builder) (xs : List Statement) → s.kind ≡ kind.Item
    → xs ≡ was.done ++ statement.Item ∷ [] → StmtsBehind (λ d. stmt_level at d s) was old (Ok tt) (record was { done = xs }) old
item_behind at s was old xs is same =
    by_level at s StmtKind-F.Item was (record was { done = xs }) old old (Ok tt)
    (ap out-StmtKind (is ∙ sym kind.rolls-Item) ∙ out-roll-StmtKind StmtKind-F.Item)
    (plain_behind tree.item_stmt was old (Ok (Some statement.Item)) old xs (Some statement.Item) (λ c. refl) refl same)

-- definitions

module _ (at : ResolveCtx) (s : AstStmt) where
  abbrev node : Pointer
  node = pointer_at at s.id s.range

  abbrev answer : Result (Unit {0}) CfgId
  answer = at.answers.cfg (site_of node)

  -- one that a condition disables
  off_refused : (x : StmtReading) (d : Defined) (done : List Statement) (r : Result (Unit {0}) CfgId) (old new : Builder) (e : StoreError)
      → check_enabled node r old ≡ (Err e, new) → lower_run done (asked_rules node r x d).stmts old ≡ (Err e, new)
  off_refused x d done (Ok _) old new e h = absurd (true≢false (ap (λ z. flag_or false z.0) h))
  off_refused x d done (Err by) old new e h =
      disabled_on node by tree.item_stmt done old ∙ ap (λ z. go_on z.0 z.1 (λ _. pure done)) h

  off_behind : (x : Defined → StmtReading) (was : Run) (r : Result (Unit {0}) CfgId) (old new : Builder)
      → check_enabled node r old ≡ (Ok false, new) → StmtsBehind (λ d. asked_rules node r (x d) d) was old (Ok tt) was new
  off_behind x was (Ok _) old new h = absurd (true≢false (ap (λ z. flag_or true z.0) h))
  off_behind x was (Err by) old new h =
      λ d counts. (disabled_on node by tree.item_stmt was.done old ∙ ap (λ z. go_on z.0 z.1 (λ _. pure was.done)) h, counts)

  on_behind : (x : Defined → StmtReading) (was is : Run) (r : Result (Unit {0}) CfgId) (old mid new : Builder) (o : Checked (Unit {0}))
      → r ≡ Ok tt → old ≡ mid → StmtsBehind x was mid o is new → StmtsBehind (λ d. asked_rules node r (x d) d) was old o is new
  on_behind x was is (Ok _) old mid new o h same k = subst (λ b. StmtsBehind x was b o is new) (sym same) k
  on_behind x was is (Err by) old mid new o h same k = cc

  module _ (n : Option AstName) (is : s.kind ≡ kind.MacroRules n) where
    rules_kind : out-StmtKind s.kind ≡ StmtKind-F.MacroRules n
    rules_kind = ap out-StmtKind (is ∙ sym (kind.rolls-MacroRules n)) ∙ out-roll-StmtKind (StmtKind-F.MacroRules n)

    pub rules_unknown : (was : Run) (old new : Builder) (e : StoreError) (d : Defined) → check_enabled node answer old ≡ (Err e, new)
        → lower_run was.done (stmt_level at d s).stmts old ≡ (Err e, new)
    rules_unknown was old new e d h =
        ap (λ read. lower_run was.done (read d).stmts old) (level_of at s (StmtKind-F.MacroRules n) rules_kind)
        ∙ off_refused (rules_named at.answers at.place n d) d was.done answer old new e h

    pub rules_off : (was : Run) (old new : Builder) → check_enabled node answer old ≡ (Ok false, new)
        → StmtsBehind (λ d. stmt_level at d s) was old (Ok tt) was new
    rules_off was old new h =
        by_level at s (StmtKind-F.MacroRules n) was was old new (Ok tt) rules_kind
        (off_behind (rules_named at.answers at.place n) was answer old new h)

    pub rules_on : (was now : Run) (old mid new : Builder) (o : Checked (Unit {0})) → answer ≡ Ok tt → old ≡ mid
        → StmtsBehind (rules_named at.answers at.place n) was mid o now new → StmtsBehind (λ d. stmt_level at d s) was old o now new
    rules_on was now old mid new o on same h =
        by_level at s (StmtKind-F.MacroRules n) was now old new o rules_kind
        (on_behind (rules_named at.answers at.place n) was now answer old mid new o on same h)

  module _ (n : Option AstName) (is : s.kind ≡ kind.MacroDef n) where
    abbrev def_of : Stmt
    def_of = tree.macro_stmt 0 (def_named at.answers at.place n)

    def_kind : out-StmtKind s.kind ≡ StmtKind-F.MacroDef n
    def_kind = ap out-StmtKind (is ∙ sym (kind.rolls-MacroDef n)) ∙ out-roll-StmtKind (StmtKind-F.MacroDef n)

    -- the same as it is asked
    asked_as : (r : Result (Unit {0}) CfgId) → (was now : Run) (old new : Builder) (o : Checked (Unit {0}))
        → StmtsBehind (λ d. asked_rules node r (alone def_of d) d) was old o now new
        → StmtsBehind (λ d. alone (asked_stmt node r def_of) d) was old o now new
    asked_as (Ok _) was now old new o h = h
    asked_as (Err by) was now old new (Ok _) h = h
    asked_as (Err by) was now old new (Err e) h = h

    asked_to : (r : Result (Unit {0}) CfgId) (done : List Statement) (d : Defined) (old new : Builder) (e : StoreError)
        → lower_run done (asked_rules node r (alone def_of d) d).stmts old ≡ (Err e, new)
        → lower_run done (tree.more_stmts (asked_stmt node r def_of) tree.no_stmts) old ≡ (Err e, new)
    asked_to (Ok _) done d old new e h = h
    asked_to (Err by) done d old new e h = h

    pub def_unknown : (was : Run) (old new : Builder) (e : StoreError) (d : Defined) → check_enabled node answer old ≡ (Err e, new)
        → lower_run was.done (stmt_level at d s).stmts old ≡ (Err e, new)
    def_unknown was old new e d h =
        ap (λ read. lower_run was.done (read d).stmts old) (level_of at s (StmtKind-F.MacroDef n) def_kind)
        ∙ asked_to answer was.done d old new e (off_refused (alone def_of d) d was.done answer old new e h)

    pub def_off : (was : Run) (old new : Builder) → check_enabled node answer old ≡ (Ok false, new)
        → StmtsBehind (λ d. stmt_level at d s) was old (Ok tt) was new
    def_off was old new h =
        by_level at s (StmtKind-F.MacroDef n) was was old new (Ok tt) def_kind
        (asked_as answer was was old new (Ok tt) (off_behind (alone def_of) was answer old new h))

    defined_alone : (was : Run) (xs : List Statement) (old new : Builder) (o : Checked (Unit {0}))
        → DefinesBehind 0 (def_named at.answers at.place n) was.done old o xs new
        → StmtsBehind (alone def_of) was old o (record was { done = xs }) new
    defined_alone was xs old new (Ok _) h = λ d counts. (h, counts)
    defined_alone was xs old new (Err e) h = λ d counts other. h other

    pub def_on : (was : Run) (xs : List Statement) (old mid new : Builder) (o : Checked (Unit {0})) → answer ≡ Ok tt → old ≡ mid
        → DefinesBehind 0 (def_named at.answers at.place n) was.done mid o xs new
        → StmtsBehind (λ d. stmt_level at d s) was old o (record was { done = xs }) new
    def_on was xs old mid new o on same h =
        by_level at s (StmtKind-F.MacroDef n) was (record was { done = xs }) old new o def_kind
        (asked_as answer was (record was { done = xs }) old new o
        (on_behind (alone def_of) was (record was { done = xs }) answer old mid new o on same (defined_alone was xs mid new o h)))

-- what exists

grows_self : (s : Stored) → Grows s s
grows_self s = (omega arith, omega arith, omega arith, omega arith, omega arith, omega arith)

pub value_on : (old end new : Builder) (xs : List Statement) (steps : Lowering (Option ExprId)) (o : Checked (Option ExprId))
    → Grows old.stored end.stored → HasStatements end.stored xs → Lowers HasExprOption steps end o new → ValueExists old o xs new
value_on old end new xs steps (Ok v) g h k =
    (grows_on old.stored end.stored new.stored g k.1, (still_has end.stored new.stored xs k.1 h, k.2))
value_on old end new xs steps (Err e) g h k = tt

pub value_here : (old new : Builder) (xs : List Statement) (steps : Lowering (Option ExprId)) (o : Checked (Option ExprId))
    → HasStatements old.stored xs → Lowers HasExprOption steps old o new → ValueExists old o xs new
value_here old new xs steps o h k = value_on old old new xs steps o (grows_self old.stored) h k

pub nothing_exists : (old new : Builder) (xs : List Statement) → Grows old.stored new.stored → HasStatements old.stored xs
    → ValueExists old (Ok None) xs new
nothing_exists old new xs g h = (g, (still_has old.stored new.stored xs g h, omega arith))

pub stmts_stay : (old new : Builder) (xs : List Statement) → Grows old.stored new.stored → HasStatements old.stored xs
    → StmtsExist old (Ok tt) xs new
stmts_stay old new xs g h = (g, still_has old.stored new.stored xs g h)

pub value_same : (old mid new : Builder) (xs : List Statement) (o : Checked (Option ExprId)) → old ≡ mid → ValueExists mid o xs new
    → ValueExists old o xs new
value_same old mid new xs o same h = subst (λ b. ValueExists b o xs new) (sym same) h

pub stmts_same : (old mid new : Builder) (xs : List Statement) (o : Checked (Unit {0})) → old ≡ mid → StmtsExist mid o xs new
    → StmtsExist old o xs new
stmts_same old mid new xs o same h = subst (λ b. StmtsExist b o xs new) (sym same) h

pub pushed_one : (s : Stored) (done now : List Statement) (x : Option Statement) → HasStatements s done → HasStatementOption s x
    → past_statements now ≡ join (past_statements done) (past_present past_statement x) → HasStatements s now
pushed_one s done now x h k is =
    rw is (omega (arith, h.0, k.0), omega (arith, h.1, k.1), omega (arith, h.2, k.2), omega (arith, h.3, k.3))

-- what may be handed in

pub ends_in : (s : AstStmt) (e : Option AstExpr) (semi : Bool) → s.kind ≡ kind.ExprStmt e semi
    → out-StmtKind s.kind ≡ StmtKind-F.ExprStmt e semi
ends_in s e semi is = ap out-StmtKind (is ∙ sym (kind.rolls-ExprStmt e semi)) ∙ out-roll-StmtKind (StmtKind-F.ExprStmt e semi)

pub value_may : (C : Claims) (p : LowerCtx) (k : ExprKindLayer written) (e : AstExpr) → call_in k ≡ None → KidsOfValue C p k e → C.expr e
value_may C p (ExprKind-F.MacroExpr c) e h may = cc
value_may C p _ e h may = may

pub splice_may : (C : Claims) (p : LowerCtx) (k : ExprKindLayer written) (e : AstExpr) (c : Option AstMacroCall) → call_in k ≡ Some c
    → KidsOfValue C p k e → C.splice p e
splice_may C p (ExprKind-F.MacroExpr x) e c h may = may
splice_may C p _ e c h may = cc

pub called_kind : (k : ExprKindLayer written) (c : Option AstMacroCall) → call_in k ≡ Some c → k ≡ ExprKind-F.MacroExpr c
called_kind (ExprKind-F.MacroExpr x) c h = let same : x ≡ c = cc in ap (λ y. ExprKind-F.MacroExpr y) same
called_kind _ c h = cc

-- the definition of a macro, by itself

pub define_alone : (k : ℕ) (m : Option MacroDefId) (was : Run) (xs : List Statement) (old new : Builder) (o : Checked (Unit {0}))
    → DefinesBehind k m was.done old o xs new → StmtsBehind (alone (tree.macro_stmt k m)) was old o (record was { done = xs }) new
define_alone k m was xs old new (Ok _) h = λ d counts. (h, counts)
define_alone k m was xs old new (Err e) h = λ d counts other. h other

pub define_unmet : (k : ℕ) (m : Option MacroDefId) (done xs : List Statement) (old : Builder) (e : StoreError) (r : Checked (Unit {0}))
    (new : Builder) → IsErrAnd r (λ f. f ≡ e)
    → (e ≢ Memory → (lower_run done (tree.more_stmts (tree.macro_stmt k m) tree.no_stmts) old ≡ (Err e, new)) × SomeEnd new)
    → DefinesBehind k m done old r xs new
define_unmet k m done xs old e (Ok _) new is h = absurd is
define_unmet k m done xs old e (Err f) new is h = rw is h

-- one by `macro_rules`, of the name that it has
module _ (at : ResolveCtx) (n : AstName) (nm : Name) (named : nm ≡ name.Text n.t) (was : Run) (k : ℕ)
    (counted : k ≡ count_in was.counts.entries nm)
    (m : Option MacroDefId) (found : m ≡ at.answers.legacy_macro at.place.module_id nm k) (old new : Builder) where
  abbrev rules : Defined → StmtReading
  rules = rules_named at.answers at.place (Some n)

  before : (d : Defined) → Counts was.counts.entries d → times (name.Text n.t) d ≡ k
  before d counts = ap (λ q. times q d) (sym named) ∙ sym (counted ∙ counts nm)

  as_read : (d : Defined) → Counts was.counts.entries d
      → lower_run was.done (rules d).stmts old ≡ lower_run was.done (tree.more_stmts (tree.macro_stmt k m) tree.no_stmts) old
  as_read d counts =
      let place = before d counts in
      let def = found ∙ (λ i. at.answers.legacy_macro at.place.module_id (named i) (sym place i)) in
      λ i. lower_run was.done (tree.more_stmts (tree.macro_stmt (place i) (sym def i)) tree.no_stmts) old

  pub rules_defined : (now : Run) → DefinesBehind k m was.done old (Ok tt) now.done new
      → ((d : Defined) → Counts was.counts.entries d → k ≡ times nm d → Counts now.counts.entries (nm ∷ d))
      → StmtsBehind rules was old (Ok tt) now new
  rules_defined now h up = λ d counts. (
    as_read d counts ∙ h,
    subst (λ q. Counts now.counts.entries (q ∷ d)) named (up d counts (counted ∙ counts nm)),
  )

  pub rules_undefined : (e : StoreError) (xs : List Statement) (d : Defined) → DefinesBehind k m was.done old (Err e) xs new
      → Counts was.counts.entries d → e ≢ Memory → (lower_run was.done (rules d).stmts old ≡ (Err e, new)) × SomeEnd new
  rules_undefined e xs d h counts other = let k = h other in (as_read d counts ∙ k.0, k.1)
