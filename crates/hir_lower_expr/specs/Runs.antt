-- What is in a block, one statement behind the other. What a definition of a macro opens stays open until all is done.
use Rattle.std.specs.Prelude.{◌≡◌, ◌≢◌, ℕ, zero, suc, Bool, true, false, List, [], ◌∷◌, Option, Some, None, option_map, unwrap_or}
use Rattle.std.specs.Prelude.{Result, Ok, Err}
use Rattle.std.specs.BTreeMap.{is_at}
use Rattle.std.specs.Map.{lookup}
use Rattle.hir_syntax.specs.declared.ast.Expr.{Expr as AstExpr}
use Rattle.hir_syntax.specs.declared.ast.Stmt.{Stmt as AstStmt}
use Rattle.hir_syntax.specs.declared.macros.Fragment.{Fragment as AstFragment}
use Rattle.hir_syntax.specs.declared.macros.Fragment.TheVariants as fragment
use Rattle.hir_syntax.specs.declared.macros.MacroCall.{MacroCall as AstMacroCall}
use Rattle.hir_syntax.specs.declared.macros.MacroStmts.{MacroStmts as AstMacroStmts}
use denote.Ref.{Bor}
use Rattle.hir_base.specs.declared.node.HirFileId.{HirFileId}
use Rattle.hir_lower_scope.specs.ScopeRibs.{macro_rib}
use Rattle.hir_store.specs.NameOrder.{name_cmp}
use Rattle.hir_store.specs.Pointers.{Pointer}
use Rattle.hir_store.specs.Range.{Grows, HasStatements}
use Rattle.hir_store.specs.declared.diagnostics.ExpressionStoreDiagnostics.TheVariants.{InactiveCode}
use Rattle.hir_store.specs.declared.error.StoreError.TheVariants.{Memory}
use Rattle.hir_store.specs.declared.hir.Statement.{Statement}
use Rattle.hir_store.specs.declared.hir.Statement.TheVariants as statement
use Rattle.hir_store.specs.declared.ids.CfgId.{CfgId}
use Rattle.hir_store.specs.declared.ids.ExprId.{ExprId}
use Rattle.hir_store.specs.declared.ids.MacroDefId.{MacroDefId}
use Rattle.hir_store.specs.declared.name.Name.{Name}
use Rattle.hir_env.specs.ResolvedTree as tree
use Rattle.hir_env.specs.ResolvedTree.{Stmt, Stmts}
use Rattle.hir_env.specs.Answers.{Eager, expanded}
use Rattle.hir_env.specs.Calls.{asked_call, entered_splice, inside_file, splice_of, stmts_of, times, value_or_none}
use Rattle.hir_env.specs.Layers.{Defined, Spliced, StmtReading}
use Rattle.hir_env.specs.ResolveCtx.{ResolveCtx}
use Rattle.hir_env.specs.Whole.{into, read_stmt, read_value}
use Rattle.hir_env.specs.declared.expand.FragmentKind.TheVariants as kind
use Rattle.hir_env.specs.declared.ctx.LowerCtx.{LowerCtx}
use Rattle.hir_lower_scope.specs.Labels.{rest}
use Rattle.hir_lower_builder.specs.Builder.{Builder}
use Rattle.hir_lower_builder.specs.Calls.{Found}
use Rattle.hir_lower_builder.specs.Lower.{StoredContents, kept_part, lower_stmt, push_some}
use Rattle.hir_lower_builder.specs.Lowering.{Checked, Lowering, SomeEnd, ◌>>=◌, ◌>>◌, pure, report}
use Rattle.hir_lower_builder.specs.Methods.{HasContents}
use Rattle.hir_lower_builder.specs.Nests.{Claims, KidsRun, claims_at}
use Rattle.hir_lower_expr.specs.declared.runs.Run.{Run}

-- what is read

-- the statements, behind these definitions
abbrev pub run_part : ResolveCtx → List AstStmt → Defined → StmtReading
run_part at ss d = stmts_of (read_stmt at.answers (into at)) (read_value at.answers (into at)) ss at.place d

-- an expression in statement or tail place
abbrev pub value_part : ResolveCtx → Option AstExpr → Defined → Spliced
value_part at e d = value_or_none (read_stmt at.answers (into at)) (read_value at.answers (into at)) e at.place d

-- statements, and what stands behind them
abbrev pub splice_part : ResolveCtx → List AstStmt → Option AstExpr → Defined → Spliced
splice_part at ss e d = splice_of (read_stmt at.answers (into at)) (read_value at.answers (into at)) ss e at.place d

-- a call in statement or tail place
abbrev pub spliced_call : ResolveCtx → Pointer → AstMacroCall → Defined → Spliced
spliced_call at s c d = entered_splice at.answers (into at) c at.place s d

-- what is made of it

-- what stands behind a definition stands inside of it
abbrev pub inside : Stmt → Builder → Builder
inside (tree.macro_stmt k (Some d)) b = record b { scopes = macro_rib d ∷ b.scopes }
inside s b = b

-- the statements, behind those that were done
abbrev pub lower_run : List Statement → Stmts → Lowering (List Statement)
lower_run done tree.no_stmts = pure done
lower_run done (tree.more_stmts s ss) = lower_stmt s >>= (λ x b. lower_run (push_some done x) ss (inside s b))

-- and then what stands behind them
abbrev pub lower_value : List Statement → Spliced → Lowering StoredContents
lower_value done r = do
  xs ← lower_run done r.stmts
  t ← kept_part r.last
  pure (xs, t)

-- so many scopes are closed
abbrev pub close_scopes : ℕ → Builder → Builder
close_scopes zero b = b
close_scopes (suc n) b = close_scopes n (record b { scopes = rest b.scopes })

-- how many definitions of macros are among the statements
abbrev pub definitions : List Statement → ℕ
definitions [] = 0
definitions (statement.MacroDef d ∷ ss) = suc (definitions ss)
definitions (s ∷ ss) = definitions ss

-- counts of names

abbrev pub count_in : List (Name × ℕ) → Name → ℕ
count_in es n = unwrap_or (lookup (is_at (name_cmp n)) es) 0

-- they are of these definitions
abbrev pub Counts : List (Name × ℕ) → Defined → Type 0
Counts es d = (n : Name) → count_in es n ≡ times n d

-- what a step of the code does, behind whatever was defined before

abbrev pub StmtsBehind : (Defined → StmtReading) → Run → Builder → Checked (Unit {0}) → Run → Builder → Type 0
StmtsBehind read was old (Ok _) is new = (d : Defined) → Counts was.counts.entries d
    → (lower_run was.done (read d).stmts old ≡ (Ok is.done, new)) × Counts is.counts.entries (read d).defined
StmtsBehind read was old (Err e) is new = (d : Defined) → Counts was.counts.entries d
    → e ≢ Memory → (lower_run was.done (read d).stmts old ≡ (Err e, new)) × SomeEnd new

abbrev pub ValueBehind : (Defined → Spliced) → Run → Builder → Checked (Option ExprId) → Run → Builder → Type 0
ValueBehind read was old (Ok id) is new = (d : Defined) → Counts was.counts.entries d
    → (lower_value was.done (read d) old ≡ (Ok (is.done, id), new)) × Counts is.counts.entries (read d).defined
ValueBehind read was old (Err e) is new = (d : Defined) → Counts was.counts.entries d
    → e ≢ Memory → (lower_value was.done (read d) old ≡ (Err e, new)) × SomeEnd new

-- what is done exists
abbrev pub StmtsExist : Builder → Checked (Unit {0}) → List Statement → Builder → Type 0
StmtsExist old (Ok _) is new = Grows old.stored new.stored × HasStatements new.stored is
StmtsExist old (Err e) is new = Unit {0}

abbrev pub ValueExists : Builder → Checked (Option ExprId) → List Statement → Builder → Type 0
ValueExists old (Ok id) is new = Grows old.stored new.stored × HasContents new.stored (is, id)
ValueExists old (Err e) is new = Unit {0}

-- what a call stands for

-- what it stands for may be handed in where it is entered
abbrev pub MayEnter : Claims → ResolveCtx → AstMacroCall → Type 0
MayEnter C at c = (n : ℕ) (f : HirFileId) (ms : AstMacroStmts) (es : List Eager) → at.place.left ≡ suc n
    → asked_call at.answers kind.Stmts c at.place ≡ expanded f (Some (fragment.Stmts ms)) es
    → let q = inside_file f n at.place in KidsRun (claims_at C q) q ms.stmts ms.expr

-- the statements that are found, and where they are read
abbrev pub StmtsThere : Type 0
StmtsThere = Option (LowerCtx × AstMacroStmts)

abbrev pub stmts_in : LowerCtx → Option AstFragment → StmtsThere
stmts_in q (Some (fragment.Stmts ms)) = Some (q, ms)
stmts_in q _ = None

abbrev pub stmts_there : Found → StmtsThere
stmts_there None = None
stmts_there (Some x) = stmts_in x.0 x.1

-- the same as they are lent
abbrev pub stmts_lent : Option (LowerCtx × Bor AstMacroStmts) → StmtsThere
stmts_lent None = None
stmts_lent (Some x) = Some (x.0, x.1.now)

-- single statements

-- whether a node is enabled; the condition that disables it is told
abbrev pub check_enabled : Pointer → Result (Unit {0}) CfgId → Lowering Bool
check_enabled at (Ok _) = pure true
check_enabled at (Err by) = report (InactiveCode at by) >> pure false

abbrev pub expr_stmt : Option ExprId → Bool → Option Statement
expr_stmt value semi = option_map (λ id. statement.Expr id semi) value

-- a definition, of whose name so many stand before it
abbrev pub DefinesBehind : ℕ → Option MacroDefId → List Statement → Builder → Checked (Unit {0}) → List Statement → Builder → Type 0
DefinesBehind k m was old (Ok _) is new =
    lower_run was (tree.more_stmts (tree.macro_stmt k m) tree.no_stmts) old ≡ (Ok is, new)
DefinesBehind k m was old (Err e) is new =
    e ≢ Memory → (lower_run was (tree.more_stmts (tree.macro_stmt k m) tree.no_stmts) old ≡ (Err e, new)) × SomeEnd new
