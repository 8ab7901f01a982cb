-- Small bodies and what they do.
use Rattle.std.specs.Prelude.{◌≡◌, ℕ, Bool, true, false, List, [], ◌∷◌, ◌++◌, Option, Some, None}
use Rattle.hir_store.specs.Pointers.{Pointer}
use Rattle.hir_store.specs.declared.hir.Expr.TheVariants as hir
use Rattle.hir_store.specs.declared.hir.Statement.TheVariants as statement
use Rattle.hir_store.specs.declared.ids.BlockId.{BlockId}
use Rattle.hir_env.specs.ResolvedTree as tree
use Rattle.hir_env.specs.ResolvedTree.{Gone, Label, IsWrittenLabel, Expr, OptionExpr, Stmt, Stmts}
use Rattle.hir_lower_scope.specs.Scopes.{Scope, barrier}
use Rattle.spec_semantics.specs.Run.{reply, call, enter, cut}
use Rattle.spec_semantics.specs.Syntax.{run_syntax, run_block, written_body, run_part}
use Rattle.spec_semantics.specs.Store.{stored_body}
use Rattle.spec_semantics.specs.Same.{ended, left, stray_continue, SameRun}
use Rattle.spec_semantics.specs.Small.{at, root, one, two, literal_at, name_at, jump_a, in_braces, first, block_of, loop_of, break_of}
use Rattle.spec_semantics.specs.Small.{only, from, id, number, stored_one, stored_two, stored_name, stored_block, stored_loop}
use Rattle.spec_semantics.specs.Small.{event_of, literal_event, read_name, Example, BothDo}

-- `'a: { loop { break 'a 1 } }`

abbrev pub break_out : Example
break_out = record {
  written = tree.some_expr (tree.block_expr (in_braces 0 (Some root)
      (loop_of 2 None (in_braces 3 None (break_of 4 (Some jump_a) (literal_at 5 one))))));
  nodes = (stored_one, Some 5)
      ∷ (hir.Break (Some (number 0)) (Some (id 0)), Some 4)
      ∷ (stored_block None [] 1, Some 3)
      ∷ (stored_loop None 2, Some 2)
      ∷ (stored_block (Some (number 0)) [] 3, Some 0)
      ∷ [];
  root = 4;
}

-- With one turn it is the literal and its value, and with none it is cut before anything happens.
abbrev pub LeavesTheLoop : Type 0
LeavesTheLoop = BothDo break_out 1 [] (literal_event one 5 ∷ []) (ended (reply 0))

abbrev pub HasNoIteration : Type 0
HasNoIteration = BothDo break_out 0 [] [] (left cut)

-- `'a: { loop { break 'a 1 }; 2 }`

abbrev pub break_past : Example
break_past = record {
  written = tree.some_expr (tree.block_expr (block_of 0 (Some root)
      (first (loop_of 2 None (in_braces 3 None (break_of 4 (Some jump_a) (literal_at 5 one)))) tree.no_stmts)
      (literal_at 7 two)));
  nodes = (stored_one, Some 5)
      ∷ (hir.Break (Some (number 0)) (Some (id 0)), Some 4)
      ∷ (stored_block None [] 1, Some 3)
      ∷ (stored_loop None 2, Some 2)
      ∷ (stored_two, Some 7)
      ∷ (stored_block (Some (number 0)) (statement.Expr (id 3) true ∷ []) 4, Some 0)
      ∷ [];
  root = 5;
}

-- It is the block that is left, not the loop alone: what follows the loop doesn't happen.
abbrev pub LeavesTheBlock : Type 0
LeavesTheBlock = BothDo break_past 1 [] (literal_event one 5 ∷ []) (ended (reply 0))

-- `'a: { continue 'a }`

abbrev pub continue_block : Example
continue_block = record {
  written = tree.some_expr (tree.block_expr (in_braces 0 (Some root) (tree.continue_expr (at 2) (Some jump_a))));
  nodes = (hir.Continue (Some (number 0)), Some 2) ∷ (stored_block (Some (number 0)) [] 0, Some 0) ∷ [];
  root = 1;
}

-- A block catches no continue.
abbrev pub StraysFromBlock : Type 0
StraysFromBlock = BothDo continue_block 1 [] [] stray_continue

-- `f(g())`

abbrev pub two_calls : Example
two_calls = record {
  written = tree.some_expr (tree.call_expr (at 0) (tree.some_expr (name_at 102 1)) true
      (tree.more_exprs (tree.call_expr (at 2) (tree.some_expr (name_at 103 3)) true tree.no_exprs) tree.no_exprs));
  nodes = (hir.Path (stored_name 102) root, Some 1)
      ∷ (hir.Path (stored_name 103) root, Some 3)
      ∷ (hir.Call (id 1) [], Some 2)
      ∷ (hir.Call (id 0) (id 2 ∷ []), Some 0)
      ∷ [];
  root = 3;
}

-- The two calls happen at two sites.
abbrev pub HasTwoSites : Type 0
HasTwoSites = BothDo two_calls 0 []
    (event_of (read_name 102) [] 1
    ∷ event_of (read_name 103) [] 3
    ∷ event_of call (reply 0 ∷ []) 2
    ∷ event_of call (reply 0 ∷ reply 0 ∷ []) 0
    ∷ [])
    (ended (reply 0))

-- a block `{ 1 }` with a number

abbrev pub numbered_block : Example
numbered_block = record {
  written = tree.some_expr (tree.block_expr
      (tree.block (at 0) false None tt (Some (record { 0 = 7 })) tree.no_stmts (tree.some_expr (literal_at 1 one))));
  nodes = (stored_one, Some 1) ∷ (hir.Block false None (Some (record { 0 = 7 })) [] (Some (id 0)), Some 0) ∷ [];
  root = 1;
}

-- It is entered before what is in it happens, and its value is that of its tail.
abbrev pub EntersItsNumber : Type 0
EntersItsNumber = BothDo numbered_block 0 (record { yes = false; value = 11 } ∷ record { yes = false; value = 12 } ∷ [])
    (event_of (enter (Some (record { 0 = 7 })) false) [] 0 ∷ literal_event one 1 ∷ [])
    (ended (reply 12))

-- what isn't the same, and what is

-- A store of one missing expression does not run as a literal.
abbrev pub MissingIsNoLiteral : Type 0
MissingIsNoLiteral =
    let ns = (hir.Missing, Some 0) ∷ [] in
    SameRun (stored_body (only ns) (from ns) (id 0)) (written_body (tree.some_expr (literal_at 0 one))) → ⊥

-- Parentheses are silent.
abbrev pub ParenthesesAreSilent : Type 0
ParenthesesAreSilent = (p : Pointer) (e : OptionExpr) → run_syntax (tree.some_expr (tree.paren_expr p e)) ≡ run_syntax e

-- the statements of both
abbrev pub joined : Stmts → Stmts → Stmts
joined tree.no_stmts after = after
joined (tree.more_stmts s ss) after = tree.more_stmts s (joined ss after)

abbrev pub disabled_stmt : Gone → Expr → Bool → Stmt
disabled_stmt why e semi = tree.expr_stmt (tree.some_expr (tree.disabled_expr why e)) semi

-- A disabled statement of a block is nothing, wherever it stands.
abbrev pub DisabledIsNothing : Type 0
DisabledIsNothing =
    (fuel : ℕ) (p : Pointer) (is_unsafe : Bool) (label : Option Label) (w : IsWrittenLabel label) (number : Option BlockId)
    (before after : Stmts) (why : Gone) (e : Expr) (semi : Bool) (tail : OptionExpr) (ss : List Scope)
    → run_block fuel (tree.block p is_unsafe label w number (joined before (tree.more_stmts (disabled_stmt why e semi) after)) tail) ss
    ≡ run_block fuel (tree.block p is_unsafe label w number (joined before after) tail) ss

-- A body behind a barrier runs as if nothing were outside.
abbrev pub RunsAlone : Type 0
RunsAlone = (fuel : ℕ) (e : OptionExpr) (inner outer : List Scope) → run_part fuel e (inner ++ barrier ∷ outer) ≡ run_part fuel e inner
