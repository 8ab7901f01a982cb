-- Small bodies with `while`, and what they do.
use Rattle.std.specs.Prelude.{ℕ, Bool, true, false, List, [], ◌∷◌, ◌++◌, Option, Some, None}
use Rattle.hir_store.specs.declared.hir.Expr.{Expr as Stored}
use Rattle.hir_store.specs.declared.hir.Expr.TheVariants as hir
use Rattle.hir_store.specs.declared.hir.LoopSource.TheVariants as source
use Rattle.hir_store.specs.declared.hir.Statement.TheVariants as statement
use Rattle.hir_store.specs.declared.ids.HygieneId.{HygieneId}
use Rattle.hir_store.specs.declared.ids.LabelId.{LabelId}
use Rattle.hir_store.specs.declared.pat.Pat.TheVariants as pat
use Rattle.hir_env.specs.ResolvedTree as tree
use Rattle.hir_env.specs.ResolvedTree.{Expr, Block}
use Rattle.spec_semantics.specs.Run.{unit, reply, Event, test, is_true, matches, cut, truth}
use Rattle.spec_semantics.specs.Questions.{made, made_binding}
use Rattle.spec_semantics.specs.Same.{ended, left}
use Rattle.spec_semantics.specs.Small.{at, root, one, literal_at, name_at, label_if, written_if, jump_a, first, block_of, break_of}
use Rattle.spec_semantics.specs.Small.{StoredExprs, id, number, stored_one, stored_name, stored_block, event_of, literal_event, read_name}
use Rattle.spec_semantics.specs.Small.{end_of_temps}
use Rattle.spec_semantics.specs.Forms.{yes}
use Rattle.spec_semantics.specs.Examples.{no}
use Rattle.spec_semantics.specs.Patterned.{PatternExample, StoredPats, BothDoFuel, pat_number, binding_number, wild_at, wild_data}
use Rattle.spec_semantics.specs.Patterned.{x_at, x_data, stored_x, binding_x}
use Rattle.hir_base.specs.declared.op.LogicOp.TheVariants as logic
use Rattle.hir_base.specs.declared.op.BinaryOp.TheVariants as operator

-- `{}`
abbrev pub empty_at : ℕ → Block
empty_at n = tree.block (at n) false None tt None tree.no_stmts tree.no_expr

abbrev pub stored_empty : Stored
stored_empty = hir.Block false None None [] None

-- `while c b` at the node 0, with a label of this hygiene or none
abbrev pub while_of : Option HygieneId → Expr → Block → Expr
while_of h c b = tree.while_expr (at 0) (label_if h) (written_if h) (tree.some_expr c) (tree.some_block b)

-- what a condition stands in whose number this is: the name and the block, beginning at this number
abbrev pub stored_wrapped : ℕ → ℕ → ℕ → StoredExprs
stored_wrapped c p name = (made 0, Some 0)
    ∷ (hir.Block false None None (statement.Let (pat_number p) None (Some (id c)) None ∷ []) (Some (id name)), Some 0)
    ∷ []

-- what comes behind its body and its condition, whose numbers these are: the break, the turn and the loop, beginning at this number
abbrev pub stored_while : Option LabelId → ℕ → ℕ → ℕ → ℕ → StoredExprs
stored_while label b c out iteration = (hir.Break None None, Some 0)
    ∷ (hir.If (id c) (id b) (Some (id out)), Some 0)
    ∷ (hir.Loop (id iteration) label source.While, Some 0)
    ∷ []

-- the pattern that binds the name, whose binding has this number
abbrev pub made_pat : ℕ → StoredPats
made_pat n = (pat.Bind (binding_number n) None, None) ∷ []

-- `while a {}`

abbrev pub while_a : PatternExample
while_a = record {
  written = tree.some_expr (while_of None (name_at 97 1) (empty_at 2));
  nodes = (stored_empty, Some 2) ∷ (hir.Path (stored_name 97) root, Some 1) ∷ (stored_wrapped 1 0 2 ++ stored_while None 0 3 4 5);
  pats = made_pat 0;
  bindings = made_binding 0 ∷ [];
  root = 6;
}

-- With no turn it is cut before anything happens.
abbrev pub WhileHasNoIteration : Type 0
WhileHasNoIteration = BothDoFuel while_a 0 [] [] (left cut)

-- the condition is read, has this value, its temporaries end, and it is tested at the form
abbrev pub asked : ℕ → List Event → List Event
asked n after = event_of (read_name 97) [] 1 ∷ end_of_temps ∷ event_of (test is_true) (reply n ∷ []) 0 ∷ after

-- With one turn: where the condition doesn't hold the loop ends with unit, else it is cut.
abbrev pub EndsItsTemporaries : Type 0
EndsItsTemporaries = BothDoFuel while_a 1 (no 11 ∷ no 12 ∷ no 13 ∷ []) (asked 11 []) (ended unit)
    × BothDoFuel while_a 1 (no 11 ∷ no 12 ∷ yes 13 ∷ []) (asked 11 []) (left cut)

-- The second turn asks again: where the condition doesn't hold then the loop ends with unit, else it is cut.
abbrev pub AsksAgain : Type 0
AsksAgain = BothDoFuel while_a 2 (no 11 ∷ no 12 ∷ yes 13 ∷ no 14 ∷ no 15 ∷ no 16 ∷ []) (asked 11 (asked 14 [])) (ended unit)
    × BothDoFuel while_a 2 (no 11 ∷ no 12 ∷ yes 13 ∷ no 14 ∷ no 15 ∷ yes 16 ∷ []) (asked 11 (asked 14 [])) (left cut)

-- `while a { continue; 1 }`

abbrev pub while_continued : PatternExample
while_continued = record {
  written = tree.some_expr (while_of None (name_at 97 1)
      (block_of 2 None (first (tree.continue_expr (at 3) None) tree.no_stmts) (literal_at 4 one)));
  nodes = (hir.Continue None, Some 3)
      ∷ (stored_one, Some 4)
      ∷ (stored_block None (statement.Expr (id 0) true ∷ []) 1, Some 2)
      ∷ (hir.Path (stored_name 97) root, Some 1)
      ∷ (stored_wrapped 3 0 4 ++ stored_while None 2 5 6 7);
  pats = made_pat 0;
  bindings = made_binding 0 ∷ [];
  root = 8;
}

-- The continue ends the turn, and the next one asks again.
abbrev pub ContinuesTheWhile : Type 0
ContinuesTheWhile =
    BothDoFuel while_continued 2 (no 11 ∷ no 12 ∷ yes 13 ∷ no 14 ∷ no 15 ∷ no 16 ∷ []) (asked 11 (asked 14 [])) (ended unit)

-- `while continue {}`

abbrev pub continue_in_condition : PatternExample
continue_in_condition = record {
  written = tree.some_expr (while_of None (tree.continue_expr (at 1) None) (empty_at 2));
  nodes = (stored_empty, Some 2) ∷ (hir.Continue None, Some 1) ∷ (stored_wrapped 1 0 2 ++ stored_while None 0 3 4 5);
  pats = made_pat 0;
  bindings = made_binding 0 ∷ [];
  root = 6;
}

-- `while break 1 {}`

abbrev pub break_in_condition : PatternExample
break_in_condition = record {
  written = tree.some_expr (while_of None (break_of 1 None (literal_at 3 one)) (empty_at 2));
  nodes = (stored_empty, Some 2)
      ∷ (stored_one, Some 3)
      ∷ (hir.Break None (Some (id 1)), Some 1)
      ∷ (stored_wrapped 2 0 3 ++ stored_while None 0 4 5 6);
  pats = made_pat 0;
  bindings = made_binding 0 ∷ [];
  root = 7;
}

-- The continue ends the turn before anything is tested, and another follows. The value of the break is that of the loop.
abbrev pub JumpsInItsCondition : Type 0
JumpsInItsCondition = BothDoFuel continue_in_condition 2 [] [] (left cut)
    × BothDoFuel break_in_condition 1 (no 11 ∷ []) (literal_event one 3 ∷ []) (ended (reply 11))

-- `'a: while match a { _ => break 'a } {}`

abbrev pub label_in_condition : PatternExample
label_in_condition = record {
  written = tree.some_expr (while_of (Some root)
      (tree.match_expr (at 2) (tree.some_expr (name_at 97 3)) (tree.more_arms
      (tree.arm (wild_at 4) (tree.some_expr (tree.break_expr (at 5) (Some jump_a) tree.no_expr)) tree.no_guard) tree.no_arms))
      (empty_at 6));
  nodes = (stored_empty, Some 6)
      ∷ (hir.Path (stored_name 97) root, Some 3)
      ∷ (hir.Break (Some (number 0)) None, Some 5)
      ∷ (hir.Match (id 1) (record { pat = pat_number 0; guard = None; expr = id 2 } ∷ []), Some 2)
      ∷ (stored_wrapped 3 1 4 ++ stored_while (Some (number 0)) 0 5 6 7);
  pats = (pat.Wild, Some 4) ∷ made_pat 0;
  bindings = made_binding 0 ∷ [];
  root = 8;
}

-- The condition lies under the label: the break leaves the loop before its condition is tested.
abbrev pub LeavesByItsCondition : Type 0
LeavesByItsCondition = BothDoFuel label_in_condition 1 (no 11 ∷ yes 12 ∷ [])
    (event_of (read_name 97) [] 3 ∷ event_of (test (matches (wild_data 4))) (reply 11 ∷ []) 4 ∷ [])
    (ended unit)

-- `while a && (let x = b) {}`

abbrev pub let_in_condition : PatternExample
let_in_condition = record {
  written = tree.some_expr (while_of None
      (tree.lazy_expr (at 1) logic.And (tree.some_expr (name_at 97 3))
      (tree.some_expr (tree.paren_expr (at 4) (tree.some_expr (tree.let_expr (at 5) (x_at 6) (tree.some_expr (name_at 98 7)))))))
      (empty_at 2));
  nodes = (stored_empty, Some 2)
      ∷ (hir.Path (stored_name 97) root, Some 3)
      ∷ (hir.Path (stored_name 98) root, Some 7)
      ∷ (hir.Let (pat_number 0) (id 2), Some 5)
      ∷ (hir.BinaryOp (Some (operator.LogicOp logic.And)) (id 1) (id 3), Some 1)
      ∷ stored_while None 0 4 5 6;
  pats = (stored_x, Some 6) ∷ [];
  bindings = binding_x ∷ [];
  root = 7;
}

-- what happens up to the test of the whole, where the `let` is told this
abbrev pub asks_its_let : Bool → List Event
asks_its_let fits =
    event_of (read_name 97) [] 3
    ∷ event_of (test is_true) (reply 11 ∷ []) 1
    ∷ event_of (read_name 98) [] 7
    ∷ event_of (test (matches (x_data 6))) (reply 13 ∷ []) 6
    ∷ event_of (test is_true) (truth fits ∷ []) 0
    ∷ []

-- A condition that holds a `let` stands as it is written, and its temporaries last while the body runs.
abbrev pub KeepsItsTemporaries : Type 0
KeepsItsTemporaries =
    BothDoFuel let_in_condition 1 (no 11 ∷ yes 12 ∷ no 13 ∷ no 14 ∷ no 15 ∷ []) (asks_its_let false) (ended unit)
    × BothDoFuel let_in_condition 1 (no 11 ∷ yes 12 ∷ no 13 ∷ yes 14 ∷ yes 15 ∷ []) (asks_its_let true) (left cut)
