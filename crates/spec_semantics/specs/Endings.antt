-- Small bodies, and how they end.
use Rattle.std.specs.Prelude.{◌≡◌, ℕ, suc, true, [], ◌∷◌, Some, None}
use Rattle.hir_store.specs.declared.hir.Expr.TheVariants as hir
use Rattle.hir_store.specs.declared.hir.Statement.TheVariants as statement
use Rattle.hir_env.specs.ResolvedTree as tree
use Rattle.hir_lower_scope.specs.Scopes.{scope_out}
use Rattle.spec_semantics.specs.Run.{Value, reply, unit, test, is_true, value, missing, cut, World, pure}
use Rattle.spec_semantics.specs.Catching.{loop}
use Rattle.spec_semantics.specs.Syntax.{written_body}
use Rattle.spec_semantics.specs.Store.{stored_body}
use Rattle.spec_semantics.specs.Jumps.{Enclosed}
use Rattle.spec_semantics.specs.Same.{ended, stray_break, left, SameRun}
use Rattle.spec_semantics.specs.Small.{end_of_temps, at, root, one, two, literal_at, jump_a, in_braces, first, block_of, loop_of, break_of}
use Rattle.spec_semantics.specs.Small.{StoredExprs, only, from, id, number, stored_one, stored_two, stored_block, stored_loop}
use Rattle.spec_semantics.specs.Small.{event_of, literal_event, Example, BothDo}
use Rattle.spec_semantics.specs.Fuel.{nested}

-- `loop { 1; _ }`, where a path expression without path stands for _

abbrev pub missing_in_turn : Example
missing_in_turn = record {
  written = tree.some_expr (loop_of 0 None (block_of 1 None
      (first (literal_at 2 one) tree.no_stmts)
      (tree.path_expr (at 3) tree.no_path root)));
  nodes = (stored_one, Some 2)
      ∷ (hir.Missing, Some 3)
      ∷ (stored_block None (statement.Expr (id 0) true ∷ []) 1, Some 1)
      ∷ (stored_loop None 2, Some 0)
      ∷ [];
  root = 3;
}

-- What is missing ends the loop and the body in the first turn.
abbrev pub MissingEndsTheLoop : Type 0
MissingEndsTheLoop = BothDo missing_in_turn 2 [] (literal_event one 2 ∷ end_of_temps ∷ []) (left missing)

-- `break 1`

abbrev pub break_alone : Example
break_alone = record {
  written = tree.some_expr (break_of 0 None (literal_at 1 one));
  nodes = (stored_one, Some 1) ∷ (hir.Break None (Some (id 0)), Some 0) ∷ [];
  root = 1;
}

-- It is a stray break with the value that the literal was answered.
abbrev pub StraysWithItsValue : Type 0
StraysWithItsValue = BothDo break_alone 1 (record { yes = true; value = 7 } ∷ []) (literal_event one 1 ∷ []) (stray_break (reply 7))

-- That is another ending than the value itself: a store of the literal alone does not run as it.
abbrev pub StrayIsNoValue : Type 0
StrayIsNoValue =
    let ns = (stored_one, Some 1) ∷ [] in
    SameRun (stored_body (only ns) (from ns) (id 0)) (written_body break_alone.written) → ⊥

-- `'a: loop { 'a: loop { break 'a 1 }; 2 }`, where both labels have one hygiene

abbrev pub equal_labels : Example
equal_labels = nested (Some root) jump_a (Some (number 1)) (number 1)

-- The inner loop is left.
abbrev pub InnerLabelHides : Type 0
InnerLabelHides = BothDo equal_labels 1 [] (literal_event one 6 ∷ end_of_temps ∷ literal_event two 8 ∷ []) (left cut)

-- `loop { 'a: { 1; continue } }`

abbrev pub continue_past : Example
continue_past = record {
  written = tree.some_expr (loop_of 0 None (in_braces 2 None (tree.block_expr (block_of 3 (Some root)
      (first (literal_at 4 one) tree.no_stmts)
      (tree.continue_expr (at 5) None)))));
  nodes = (stored_one, Some 4)
      ∷ (hir.Continue None, Some 5)
      ∷ (stored_block (Some (number 0)) (statement.Expr (id 0) true ∷ []) 1, Some 3)
      ∷ (stored_block None [] 2, Some 2)
      ∷ (stored_loop None 3, Some 0)
      ∷ [];
  root = 4;
}

-- A continue passes the block, and ends the turn.
abbrev pub ContinuesPastTheBlock : Type 0
ContinuesPastTheBlock = BothDo continue_past 2 [] (literal_event one 4 ∷ end_of_temps ∷ literal_event one 4 ∷ end_of_temps ∷ []) (left cut)

-- `if 1 { 2 }`, without answers

abbrev pub unanswered : Example
unanswered = record {
  written = tree.some_expr (tree.if_expr (at 0)
      (tree.some_expr (literal_at 1 one))
      (tree.some_block (in_braces 2 None (literal_at 3 two)))
      tree.no_expr);
  nodes = (stored_two, Some 3) ∷ (stored_block None [] 0, Some 2) ∷ (stored_one, Some 1) ∷ (hir.If (id 2) (id 1) None, Some 0) ∷ [];
  root = 3;
}

-- The literal is 0 and the test says no, so the branch doesn't happen and the value is unit.
abbrev pub AnswersNoPastTheEnd : Type 0
AnswersNoPastTheEnd = BothDo unanswered 0 [] (literal_event one 1 ∷ event_of (test is_true) (reply 0 ∷ []) 0 ∷ []) (ended unit)

-- steps, and jumps

-- A turn that ends with a value for the loop ends the loop with it.
abbrev pub ValueEndsTheLoop : Type 0
ValueEndsTheLoop = (fuel : ℕ) (v : Value) (w : World (Unit {0})) → loop scope_out (suc fuel) (pure (Some v)) w ≡ (value v, w)

-- a `continue` for the label 0, alone, and in the block 1
abbrev pub foreign_jump : StoredExprs
foreign_jump = (hir.Continue (Some (number 0)), Some 0) ∷ (stored_block (Some (number 1)) [] 0, Some 1) ∷ []

-- Neither names what encloses it.
abbrev pub ForeignIsNotEnclosed : Type 0
ForeignIsNotEnclosed = (Enclosed (only foreign_jump) (id 0) → ⊥) × (Enclosed (only foreign_jump) (id 1) → ⊥)
