-- Small bodies with macro calls, and what they do.
use Rattle.std.specs.Prelude.{◌≡◌, ℕ, ◌+◌, Bool, true, false, List, [], ◌∷◌, Option, Some, None}
use Rattle.hir_store.specs.Pointers.{Pointer}
use Rattle.hir_store.specs.declared.hir.Expr.TheVariants as hir
use Rattle.hir_store.specs.declared.hir.Statement.{Statement}
use Rattle.hir_store.specs.declared.hir.Statement.TheVariants as statement
use Rattle.hir_store.specs.declared.ids.BlockId.{BlockId}
use Rattle.hir_store.specs.declared.ids.LabelId.{LabelId}
use Rattle.hir_store.specs.declared.ids.MacroDefId.{MacroDefId}
use Rattle.hir_env.specs.ResolvedTree as tree
use Rattle.hir_env.specs.ResolvedTree.{Called, Entered, Expr, Gone, IsWrittenLabel, Label, OptionExpr, Stmts}
use Rattle.hir_lower_scope.specs.Theorems.{jump_by, one_of}
use Rattle.hir_lower_scope.specs.Scopes.{Scope}
use Rattle.spec_semantics.specs.Run.{reply, unit, call, missing}
use Rattle.spec_semantics.specs.Syntax.{run_block, run_syntax}
use Rattle.spec_semantics.specs.Same.{ended, left}
use Rattle.spec_semantics.specs.Small.{at, root, one, two, literal_at, name_at, in_braces, first, block_of, loop_of, break_of}
use Rattle.spec_semantics.specs.Small.{StoredExprs, id, number, stored_one, stored_two, stored_name, stored_block, stored_loop}
use Rattle.spec_semantics.specs.Small.{end_of_temps, event_of, literal_event, read_name, Example, BothDo}
use Rattle.spec_semantics.specs.Rows.{joined}
use Rattle.spec_semantics.specs.Forms.{name_a, stored_a, reads_a, disabled_at}
use Rattle.spec_semantics.specs.Examples.{no}

-- the call with node n, which is entered
abbrev pub entered_at : ℕ → Entered
entered_at n = record { call = at n; file = record { 0 = 1 }; eager = [] }

-- `m!()`, at node 2, which stands for `a`
abbrev pub corresponds_to_a : Expr
corresponds_to_a = tree.macro_expr (at 2) (tree.entered (entered_at 3)) (tree.some_expr name_a)

abbrev pub entered_alone : Example
entered_alone = record { written = tree.some_expr corresponds_to_a; nodes = (stored_a, Some 1) ∷ []; root = 0 }

-- What it stands for is read where that stands, and nothing happens at the call.
abbrev pub RunsWhatItCorrespondsTo : Type 0
RunsWhatItCorrespondsTo = BothDo entered_alone 0 (no 11 ∷ []) (reads_a ∷ []) (ended (reply 11))

-- So it is of each call: it runs as what it stands for.
abbrev pub CallsAreSilent : Type 0
CallsAreSilent = (p : Pointer) (c : Called) (e : OptionExpr) → run_syntax (tree.some_expr (tree.macro_expr p c e)) ≡ run_syntax e

-- `f(m!(), a)`, where what m stands for is disabled

abbrev pub disabled_inside : Gone
disabled_inside = record (disabled_at 4) { entered = entered_at 3 ∷ [] }

abbrev pub gone_argument : Example
gone_argument = record {
  written = tree.some_expr (tree.call_expr (at 0) (tree.some_expr (name_at 102 5)) true
      (tree.more_exprs (tree.disabled_expr disabled_inside corresponds_to_a) (tree.more_exprs name_a tree.no_exprs)));
  nodes = (hir.Path (stored_name 102) root, Some 5) ∷ (stored_a, Some 1) ∷ (hir.Call (id 0) (id 1 ∷ []), Some 0) ∷ [];
  root = 2;
}

-- The call is one of one argument.
abbrev pub LeavesNoArgument : Type 0
LeavesNoArgument = BothDo gone_argument 0 (no 11 ∷ no 12 ∷ no 13 ∷ [])
    (event_of (read_name 102) [] 5 ∷ reads_a ∷ event_of call (reply 11 ∷ reply 12 ∷ []) 0 ∷ [])
    (ended (reply 13))

-- `f(m!())`, where m has no expansion

abbrev pub unentered_argument : Example
unentered_argument = record {
  written = tree.some_expr (tree.call_expr (at 0) (tree.some_expr (name_at 102 5)) true
      (tree.more_exprs (tree.macro_expr (at 2) tree.unentered tree.no_expr) tree.no_exprs));
  nodes = (hir.Path (stored_name 102) root, Some 5) ∷ (hir.Missing, Some 2) ∷ (hir.Call (id 0) (id 1 ∷ []), Some 0) ∷ [];
  root = 2;
}

-- The argument is missing, and f isn't called.
abbrev pub UnenteredIsMissing : Type 0
UnenteredIsMissing = BothDo unentered_argument 0 (no 11 ∷ []) (event_of (read_name 102) [] 5 ∷ []) (left missing)

-- A call in a block that stands for the statements behind it is nothing itself, wherever it stands.
abbrev pub CallIsNothing : Type 0
CallIsNothing =
    (fuel : ℕ) (p : Pointer) (is_unsafe : Bool) (label : Option Label) (w : IsWrittenLabel label) (number : Option BlockId)
    (before after : Stmts) (c : Entered) (tail : OptionExpr) (ss : List Scope)
    → run_block fuel (tree.block p is_unsafe label w number (joined before (tree.more_stmts (tree.call_stmt c) after)) tail) ss
    ≡ run_block fuel (tree.block p is_unsafe label w number (joined before after) tail) ss

-- `{ m!() }`, where m!() stands for `1; 2`

abbrev pub one_then_two : Example
one_then_two = record {
  written = tree.some_expr (tree.block_expr (block_of 0 None
      (tree.more_stmts (tree.call_stmt (entered_at 3)) (first (literal_at 4 one) tree.no_stmts))
      (tree.macro_expr (at 2) tree.spliced (tree.some_expr (literal_at 5 two)))));
  nodes = (stored_one, Some 4) ∷ (stored_two, Some 5) ∷ (stored_block None (statement.Expr (id 0) true ∷ []) 1, Some 0) ∷ [];
  root = 2;
}

-- What it stands for happens in the block, whose value is that of the tail.
abbrev pub SplicesItsTail : Type 0
SplicesItsTail = BothDo one_then_two 0 (no 11 ∷ no 12 ∷ no 13 ∷ []) (literal_event one 4 ∷ end_of_temps ∷ literal_event two 5 ∷ [])
    (ended (reply 13))

-- `{ m!() }`, where m!() stands for `1;`

abbrev pub one_alone : Example
one_alone = record {
  written = tree.some_expr (tree.block_expr (tree.block (at 0) false None tt None
      (tree.more_stmts (tree.call_stmt (entered_at 3)) (first (literal_at 4 one) tree.no_stmts)) tree.no_expr));
  nodes = (stored_one, Some 4) ∷ (hir.Block false None None (statement.Expr (id 0) true ∷ []) None, Some 0) ∷ [];
  root = 1;
}

-- It keeps its semicolon: the block has no value.
abbrev pub KeepsItsSemicolon : Type 0
KeepsItsSemicolon = BothDo one_alone 0 (no 11 ∷ no 12 ∷ []) (literal_event one 4 ∷ end_of_temps ∷ []) (ended unit)

-- `{ m!(); }`, where m!() stands for `1; 2`

abbrev pub one_and_two : Example
one_and_two = record {
  written = tree.some_expr (tree.block_expr (tree.block (at 0) false None tt None
      (tree.more_stmts (tree.call_stmt (entered_at 3)) (first (literal_at 4 one)
      (first (tree.macro_expr (at 2) tree.spliced (tree.some_expr (literal_at 5 two))) tree.no_stmts)))
      tree.no_expr));
  nodes = (stored_one, Some 4)
      ∷ (stored_two, Some 5)
      ∷ (hir.Block false None None (statement.Expr (id 0) true ∷ statement.Expr (id 1) true ∷ []) None, Some 0)
      ∷ [];
  root = 2;
}

-- The semicolon of the call is that of the expression behind its statements: the block has no value.
abbrev pub KeepsTheCallsSemicolon : Type 0
KeepsTheCallsSemicolon = BothDo one_and_two 0 (no 11 ∷ no 12 ∷ no 13 ∷ no 14 ∷ [])
    (literal_event one 4 ∷ end_of_temps ∷ literal_event two 5 ∷ end_of_temps ∷ []) (ended unit)

-- definitions

abbrev pub nine : MacroDefId
nine = record { 0 = 9 }

-- `macro_rules! m {..}`, of this number, before others
abbrev pub defining : Stmts → Stmts
defining ss = tree.more_stmts (tree.macro_stmt 0 (Some nine)) ss

-- `loop { m!() };` before others, where m!() stands for `break 'a 1` that the macro of this number wrote
abbrev pub jumping : ℕ → Stmts → Stmts
jumping outer ss = first (loop_of 4 None (in_braces 5 None (tree.macro_expr (at 8) (tree.entered (entered_at 9)) (tree.some_expr
    (break_of 10 (Some (jump_by (one_of 0 0 outer))) (literal_at 11 one)))))) ss

-- `'a: loop { ss break 2 }`
abbrev pub looping : Stmts → OptionExpr
looping ss = tree.some_expr (loop_of 2 (Some root) (block_of 3 None ss (break_of 6 None (literal_at 7 two))))

-- `{ macro_rules! m {..} }` before others
abbrev pub defining_inside : Stmts → Stmts
defining_inside ss =
    tree.more_stmts (tree.expr_stmt (tree.some_expr (tree.block_expr
    (tree.block (at 12) false None tt None (defining tree.no_stmts) tree.no_expr))) false) ss

-- The loop with the jump, which is for this label or for none, has the number k + 3; ss stand in front of the break.
abbrev pub stored_looping : ℕ → Option LabelId → List Statement → StoredExprs
stored_looping k label ss =
    (stored_one, Some 11)
    ∷ (hir.Break label (Some (id k)), Some 10)
    ∷ (stored_block None [] (k + 1), Some 5)
    ∷ (stored_loop None (k + 2), Some 4)
    ∷ (stored_two, Some 7)
    ∷ (hir.Break None (Some (id (k + 4))), Some 6)
    ∷ (stored_block None ss (k + 5), Some 3)
    ∷ (stored_loop (Some (number 0)) (k + 6), Some 2)
    ∷ []

abbrev pub behind_definition : ℕ → Option LabelId → Example
behind_definition outer label = record {
  written = looping (defining (jumping outer tree.no_stmts));
  nodes = stored_looping 0 label (statement.MacroDef nine ∷ statement.Expr (id 3) true ∷ []);
  root = 7;
}

-- Behind the definition of its macro the jump reaches the label that was open there.
abbrev pub ReachesTheLabel : Type 0
ReachesTheLabel = BothDo (behind_definition 9 (Some (number 0))) 1 (no 11 ∷ no 12 ∷ []) (literal_event one 11 ∷ []) (ended (reply 11))

-- One that another macro wrote doesn't, and leaves the loop around it.
abbrev pub MissesTheLabel : Type 0
MissesTheLabel = BothDo (behind_definition 8 None) 1 (no 11 ∷ no 12 ∷ no 13 ∷ [])
    (literal_event one 11 ∷ end_of_temps ∷ literal_event two 7 ∷ []) (ended (reply 13))

-- Nor does one behind the block that has the definition, which ends with it.
abbrev pub behind_its_block : Example
behind_its_block = record {
  written = looping (defining_inside (jumping 9 tree.no_stmts));
  nodes = (hir.Block false None None (statement.MacroDef nine ∷ []) None, Some 12)
      ∷ stored_looping 1 None (statement.Expr (id 0) false ∷ statement.Expr (id 4) true ∷ []);
  root = 8;
}

abbrev pub EndsWithItsBlock : Type 0
EndsWithItsBlock = BothDo behind_its_block 1 (no 11 ∷ no 12 ∷ no 13 ∷ no 14 ∷ [])
    (end_of_temps ∷ literal_event one 11 ∷ end_of_temps ∷ literal_event two 7 ∷ []) (ended (reply 14))

-- Nor does one in front of the definition.
abbrev pub before_definition : Example
before_definition = record {
  written = looping (jumping 9 (defining tree.no_stmts));
  nodes = stored_looping 0 None (statement.Expr (id 3) true ∷ statement.MacroDef nine ∷ []);
  root = 7;
}

abbrev pub BeginsWhereItCorresponds : Type 0
BeginsWhereItCorresponds = BothDo before_definition 1 (no 11 ∷ no 12 ∷ no 13 ∷ [])
    (literal_event one 11 ∷ end_of_temps ∷ literal_event two 7 ∷ []) (ended (reply 13))
