-- What is told of the macro calls.
use Rattle.std.specs.Prelude.{ℕ, zero, suc, List, [], ◌∷◌, Option, Some, None, Ok, Err}
use Rattle.hir_syntax.specs.declared.macros.Fragment.{Fragment as AstFragment}
use Rattle.hir_syntax.specs.declared.macros.MacroCall.{MacroCall as AstMacroCall}
use Rattle.hir_store.specs.Pointers.{Pointer}
use Rattle.hir_store.specs.declared.diagnostics.ExpressionStoreDiagnostics.TheVariants.{InactiveCode, UnresolvedMacroCall}
use Rattle.hir_store.specs.declared.hir.Statement.{Statement}
use Rattle.hir_store.specs.declared.hir.Statement.TheVariants as statement
use Rattle.hir_store.specs.declared.ids.CfgId.{CfgId}
use Rattle.hir_store.specs.declared.ids.MacroDefId.{MacroDefId}
use Rattle.hir_env.specs.ResolveCtx.{site_of}
use Rattle.hir_env.specs.declared.expand.FragmentKind.{FragmentKind}
use Rattle.hir_env.specs.declared.expand.FragmentKind.TheVariants as kind
use Rattle.hir_env.specs.declared.ctx.LowerCtx.{LowerCtx}
use Rattle.hir_env.specs.Answers.{Answers, Eager, Expanding, expanded}
use Rattle.hir_env.specs.Calls.{asked_call, call_pointer, called, inside_file}
use Rattle.hir_env.specs.Lent.{fragment_lent}
use Rattle.hir_env.specs.ResolveCtx.{ResolveCtx}
use Rattle.hir_env.specs.ResolvedTree as tree
use Rattle.hir_env.specs.ResolvedTree.{Called, Entered, Gone, Stmt}
use Rattle.hir_lower_builder.specs.Lowering.{Lowering, Checked, ◌>>=◌, ◌>>◌, pure, close, count_def, open_macro, record_expansion, report}
use Rattle.hir_lower_builder.specs.declared.calls.Entered.{Entered as LentEntered}
use Rattle.hir_lower_builder.specs.declared.calls.Entered.TheVariants as lent

-- what else was expanded for a call
abbrev pub record_each : List Eager → Lowering (Unit {0})
record_each [] = pure tt
record_each (e ∷ es) = do
  record_expansion e.0 None e.1
  record_each es

-- a call that is entered is recorded, behind what was expanded for it
unfoldable pub track : Entered → Lowering (Unit {0})
track c = do
  record_each c.eager
  record_expansion (site_of c.call) (Some c.call.value.range) c.file

-- one whose macro isn't found is a fault, and one that is entered is recorded
abbrev pub emitted : Called → Lowering (Unit {0})
emitted (tree.unresolved at path) = report (UnresolvedMacroCall at path)
emitted (tree.entered c) = track c
emitted _ = pure tt

-- in statement and tail place one whose macro isn't found is none
abbrev pub emitted_splice : Called → Lowering (Unit {0})
emitted_splice (tree.entered c) = track c
emitted_splice _ = pure tt

abbrev pub track_each : List Entered → Lowering (Unit {0})
track_each [] = pure tt
track_each (c ∷ cs) = do
  track c
  track_each cs

abbrev pub report_condition : Option (Pointer × CfgId) → Lowering (Unit {0})
report_condition None = pure tt
report_condition (Some (at, by)) = report (InactiveCode at by)

-- the calls that were entered to find it out, and the condition
unfoldable pub track_gone : Gone → Lowering (Unit {0})
track_gone why = do
  track_each why.entered
  report_condition why.condition

-- definitions of macros

abbrev pub defined : Option MacroDefId → Statement
defined None = statement.Item
defined (Some d) = statement.MacroDef d

unfoldable pub define_form : ℕ → Option MacroDefId → Lowering (Option Statement)
define_form k d = count_def k >> pure (Some (defined d))

-- steps inside of the definition of a macro
unfoldable pub inside_macro : {A : Type 0} → MacroDefId → Lowering A → Lowering A
inside_macro d inner = do
  open_macro d
  x ← inner
  close
  pure x

-- Steps behind a statement. Those behind the definition of a macro are inside of it.
abbrev pub behind : {A : Type 0} → Stmt → Lowering A → Lowering A
behind (tree.macro_stmt k (Some d)) rest = inside_macro d rest
behind s rest = rest

-- what a call that is read here comes to

-- where it is read what the call stands for, where it is entered, and what that is, where it stands for something
abbrev pub Found : Type 0
Found = Option (LowerCtx × Option AstFragment)

abbrev pub found_in : ℕ → LowerCtx → Expanding → Found
found_in n p (expanded f x es) = Some (inside_file f n p, x)
found_in n p _ = None

-- what is told of the call at this node, and what is found
abbrev pub emitted_step : Pointer → ℕ → LowerCtx → Expanding → Lowering Found
emitted_step at n p x = do
  emitted (called at x)
  pure (found_in n p x)

abbrev pub asked_step : Answers → FragmentKind → AstMacroCall → ℕ → LowerCtx → Lowering Found
asked_step env k c n p = emitted_step (call_pointer p c) n p (asked_call env k c p)

-- where none may be entered nothing is asked
abbrev pub enter_left : Answers → FragmentKind → AstMacroCall → ℕ → LowerCtx → Lowering Found
enter_left env k c zero p = pure None
enter_left env k c (suc n) p = asked_step env k c n p

abbrev pub entered_at : ResolveCtx → FragmentKind → AstMacroCall → Lowering Found
entered_at at k c = enter_left at.answers k c at.place.left at.place

-- the same in statement or tail place
abbrev pub splice_step : Pointer → ℕ → LowerCtx → Expanding → Lowering Found
splice_step at n p x = do
  emitted_splice (called at x)
  pure (found_in n p x)

abbrev pub splice_left : Answers → AstMacroCall → ℕ → LowerCtx → Lowering Found
splice_left env c zero p = pure None
splice_left env c (suc n) p = splice_step (call_pointer p c) n p (asked_call env kind.Stmts c p)

abbrev pub splice_entered : ResolveCtx → AstMacroCall → Lowering Found
splice_entered at c = splice_left at.answers c at.place.left at.place

-- what is found by value
abbrev pub found_of : LentEntered → Found
found_of lent.No = None
found_of (lent.Yes p x) = Some (p, fragment_lent x)

abbrev pub found_result : Checked LentEntered → Checked Found
found_result (Ok x) = Ok (found_of x)
found_result (Err e) = Err e
