-- Small bodies with loops, and what jumps do in them.
use Rattle.std.specs.Prelude.{ℕ, Bool, true, false, List, [], ◌∷◌, Option, Some, None}
use Rattle.hir_store.specs.declared.hir.Expr.TheVariants as hir
use Rattle.hir_store.specs.declared.hir.Statement.TheVariants as statement
use Rattle.hir_store.specs.declared.ids.LabelId.{LabelId}
use Rattle.hir_store.specs.declared.ids.HygieneId.{HygieneId}
use Rattle.hir_env.specs.ResolvedTree as tree
use Rattle.hir_env.specs.ResolvedTree.{Jump, Expr}
use Rattle.spec_semantics.specs.Run.{reply, test, is_true, Event, Answer, cut}
use Rattle.spec_semantics.specs.Same.{ended, left}
use Rattle.spec_semantics.specs.Small.{end_of_temps, at, root, one, two, literal_at, jump_with, jump_a}
use Rattle.spec_semantics.specs.Small.{in_braces, first, block_of, loop_of, break_of}
use Rattle.spec_semantics.specs.Small.{StoredExprs, id, number, stored_one, stored_two, stored_block, stored_loop}
use Rattle.spec_semantics.specs.Small.{event_of, literal_event, Example, BothDo}

-- `loop { 1; continue; 2 }`

abbrev pub continue_early : Example
continue_early = record {
  written = tree.some_expr (loop_of 0 None (block_of 1 None
      (first (literal_at 2 one) (first (tree.continue_expr (at 3) None) tree.no_stmts))
      (literal_at 4 two)));
  nodes = (stored_one, Some 2)
      ∷ (hir.Continue None, Some 3)
      ∷ (stored_two, Some 4)
      ∷ (stored_block None (statement.Expr (id 0) true ∷ statement.Expr (id 1) true ∷ []) 2, Some 1)
      ∷ (stored_loop None 3, Some 0)
      ∷ [];
  root = 4;
}

-- A continue ends the turn, and another follows.
abbrev pub EndsTheIteration : Type 0
EndsTheIteration = BothDo continue_early 2 [] (literal_event one 2 ∷ end_of_temps ∷ literal_event one 2 ∷ end_of_temps ∷ []) (left cut)

-- `'a: loop { loop { 1; continue 'a }; 2 }`

abbrev pub loop_inside : Expr
loop_inside = loop_of 3 None (block_of 4 None (first (literal_at 5 one) tree.no_stmts) (tree.continue_expr (at 6) (Some jump_a)))

abbrev pub continue_outer : Example
continue_outer = record {
  written = tree.some_expr (loop_of 0 (Some root) (block_of 2 None (first loop_inside tree.no_stmts) (literal_at 8 two)));
  nodes = (stored_one, Some 5)
      ∷ (hir.Continue (Some (number 0)), Some 6)
      ∷ (stored_block None (statement.Expr (id 0) true ∷ []) 1, Some 4)
      ∷ (stored_loop None 2, Some 3)
      ∷ (stored_two, Some 8)
      ∷ (stored_block None (statement.Expr (id 3) true ∷ []) 4, Some 2)
      ∷ (stored_loop (Some (number 0)) 5, Some 0)
      ∷ [];
  root = 6;
}

-- It passes the inner loop, ends the turn of the outer one, and another follows.
abbrev pub ContinuesTheOuter : Type 0
ContinuesTheOuter = BothDo continue_outer 2 [] (literal_event one 5 ∷ end_of_temps ∷ literal_event one 5 ∷ end_of_temps ∷ []) (left cut)

-- `'a: loop { 'b: loop { break 'c 1 }; 2 }`, where 'b and 'c are 'a, or it with another hygiene

abbrev pub break_nested : Option HygieneId → Jump → Expr
break_nested inner jump = loop_of 0 (Some root) (block_of 2 None
    (first (loop_of 3 inner (in_braces 4 None (break_of 5 (Some jump) (literal_at 6 one)))) tree.no_stmts)
    (literal_at 8 two))

-- the loops have the numbers 0 and 1, the latter where it has a label, and the break is for this number
abbrev pub stored_nested : Option LabelId → LabelId → StoredExprs
stored_nested inner target = (stored_one, Some 6)
    ∷ (hir.Break (Some target) (Some (id 0)), Some 5)
    ∷ (stored_block None [] 1, Some 4)
    ∷ (stored_loop inner 2, Some 3)
    ∷ (stored_two, Some 8)
    ∷ (stored_block None (statement.Expr (id 3) true ∷ []) 4, Some 2)
    ∷ (stored_loop (Some (number 0)) 5, Some 0)
    ∷ []

abbrev pub nested : Option HygieneId → Jump → Option LabelId → LabelId → Example
nested inner jump stored target = record {
  written = tree.some_expr (break_nested inner jump);
  nodes = stored_nested stored target;
  root = 6;
}

-- Through an inner loop without a label the break leaves both.
abbrev pub BreaksTheOuter : Type 0
BreaksTheOuter = BothDo (nested None jump_a None (number 0)) 1 [] (literal_event one 6 ∷ []) (ended (reply 0))

abbrev pub other : HygieneId
other = record { 0 = 1 }

-- where the inner loop has a label as well
abbrev pub two_labels : Jump → ℕ → Example
two_labels jump target = nested (Some other) jump (Some (number 1)) (number target)

-- So it does where the inner loop's label has the name, but another hygiene; a break with that one leaves the inner loop alone.
abbrev pub HygienesDiffer : Type 0
HygienesDiffer =
    BothDo (two_labels jump_a 0) 1 [] (literal_event one 6 ∷ []) (ended (reply 0))
    × BothDo (two_labels (jump_with other) 1) 1 [] (literal_event one 6 ∷ end_of_temps ∷ literal_event two 8 ∷ []) (left cut)

-- `loop { break 'a 1 }` and `loop { continue 'a }`, where no label is

abbrev pub break_undeclared : Example
break_undeclared = record {
  written = tree.some_expr (loop_of 0 None (in_braces 1 None (break_of 2 (Some jump_a) (literal_at 3 one))));
  nodes = (stored_one, Some 3)
      ∷ (hir.Break None (Some (id 0)), Some 2)
      ∷ (stored_block None [] 1, Some 1)
      ∷ (stored_loop None 2, Some 0)
      ∷ [];
  root = 3;
}

abbrev pub continue_undeclared : Example
continue_undeclared = record {
  written = tree.some_expr (loop_of 0 None (in_braces 1 None (tree.continue_expr (at 2) (Some jump_a))));
  nodes = (hir.Continue None, Some 2) ∷ (stored_block None [] 0, Some 1) ∷ (stored_loop None 1, Some 0) ∷ [];
  root = 2;
}

-- Such a jump is one without a label.
abbrev pub UndeclaredIsPlain : Type 0
UndeclaredIsPlain =
    BothDo break_undeclared 1 [] (literal_event one 3 ∷ []) (ended (reply 0)) × BothDo continue_undeclared 1 [] [] (left cut)

-- `loop { loop { if 1 { break } } }`

-- `if 1 { break }`
abbrev pub break_if : Expr
break_if = tree.if_expr (at 4)
    (tree.some_expr (literal_at 5 one))
    (tree.some_block (in_braces 6 None (tree.break_expr (at 7) None tree.no_expr)))
    tree.no_expr

abbrev pub break_second : Example
break_second = record {
  written = tree.some_expr (loop_of 0 None (in_braces 1 None (loop_of 2 None (in_braces 3 None break_if))));
  nodes = (hir.Break None None, Some 7)
      ∷ (stored_block None [] 0, Some 6)
      ∷ (stored_one, Some 5)
      ∷ (hir.If (id 2) (id 1) None, Some 4)
      ∷ (stored_block None [] 3, Some 3)
      ∷ (stored_loop None 4, Some 2)
      ∷ (stored_block None [] 5, Some 1)
      ∷ (stored_loop None 6, Some 0)
      ∷ [];
  root = 7;
}

-- the literal has the value 5; the test is answered so
abbrev pub round : Bool → List Answer → List Answer
round t after = record { yes = false; value = 5 } ∷ record { yes = t; value = 0 } ∷ after

abbrev pub round_events : List Event → List Event
round_events after = literal_event one 5 ∷ event_of (test is_true) (reply 5 ∷ []) 4 ∷ after

-- With two turns, and a break in each second turn of the inner loop: that one has two turns at its second entry too.
abbrev pub HasFreshFuel : Type 0
HasFreshFuel = BothDo break_second 2 (round false (round true (round false (round true []))))
    (round_events (round_events (round_events (round_events []))))
    (left cut)
