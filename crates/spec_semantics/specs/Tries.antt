-- Small bodies with `try`, and what they do.
use Rattle.std.specs.Prelude.{◌≡◌, ℕ, ◌+◌, Bool, false, true, List, [], ◌∷◌, ◌++◌, map, Option, Some, None, option_map}
use Rattle.hir_store.specs.Stored.{Store, SourceMap}
use Rattle.hir_store.specs.declared.hir.Expr.{Expr as Stored}
use Rattle.hir_store.specs.declared.hir.Expr.TheVariants as hir
use Rattle.hir_store.specs.declared.hir.Statement.{Statement}
use Rattle.hir_store.specs.declared.hir.Statement.TheVariants as statement
use Rattle.hir_store.specs.declared.ids.BlockId.{BlockId}
use Rattle.hir_store.specs.declared.ids.ExprId.{ExprId}
use Rattle.hir_store.specs.declared.ids.LangItemId.{LangItemId}
use Rattle.hir_store.specs.declared.pat.Pat.TheVariants as pat
use Rattle.hir_env.specs.ResolvedTree as tree
use Rattle.hir_env.specs.ResolvedTree.{Expr, OptionExpr, Stmts}
use Rattle.spec_data.specs.Data as datum
use Rattle.hir_lower_scope.specs.Scopes.{try_scope, barrier}
use Rattle.spec_semantics.specs.Run.{reply, unit, Event, event_at, Oracle, enter, bound, leave, returned, missing, cut}
use Rattle.spec_semantics.specs.Syntax.{written_body, run_expr}
use Rattle.spec_semantics.specs.Store.{stored_body}
use Rattle.spec_semantics.specs.Same.{Ending, ended, left, begin}
use Rattle.spec_semantics.specs.Small.{end_of_temps, at, root, one, two, literal_at, jump_a, in_braces, first, block_of, loop_of, break_of}
use Rattle.spec_semantics.specs.Small.{StoredExprs, id, number, stored_one, stored_two, stored_block, stored_loop}
use Rattle.spec_semantics.specs.Small.{event_of, literal_event, Example, BothDo, Does}
use Rattle.spec_semantics.specs.Forms.{yes, name_a, name_b, stored_a, stored_b, reads_a, reads_b}
use Rattle.spec_semantics.specs.Patterned.{PatternExample, BothDoPatterned, BothDoFuel, patterns_in, map_of_patterns}
use Rattle.spec_semantics.specs.Patterned.{pat_number, binding_number}
use Rattle.spec_semantics.specs.Typed.{StoredTypes, type_number, never, stored_never, never_data}
use Rattle.spec_semantics.specs.Questions.{lang, items_with, all_items, question_at, stored_item, made, made_binding, stored_question}
use Rattle.spec_semantics.specs.Questions.{question_pats, question_bindings, calls_item, made_data, tests_kind}
use Rattle.spec_semantics.specs.Examples.{no}

-- the item that the value of a `try` goes through
abbrev pub output : Option LangItemId
output = Some (lang 6)

-- `try { ss e }`
abbrev pub try_of : ℕ → Option LangItemId → Stmts → OptionExpr → Expr
try_of n i ss e = tree.try_expr (at n) i tree.no_type None ss e

-- what leaves for the label with this number
abbrev pub leaves_for : ℕ → ExprId → Stored
leaves_for l e = hir.Break (Some (number l)) (Some e)

-- Behind what is in it: the item, which has the number f, its call with the value v, and the block with the label l.
abbrev pub stored_try : ℕ → Option LangItemId → ℕ → List Statement → ℕ → ℕ → StoredExprs
stored_try n i l ss v f = (stored_item i, Some n)
    ∷ (hir.Call (id f) (id v ∷ []), Some n)
    ∷ (stored_block (Some (number l)) ss (1 + f), Some n)
    ∷ []

-- `try { a?; b }`

abbrev pub question_first : Option LangItemId → Option LangItemId → PatternExample
question_first into i = record {
  written = tree.some_expr (try_of 0 i (first (question_at 3 (items_with into (Some (lang 5))) name_a) tree.no_stmts)
      (tree.some_expr name_b));
  nodes = (stored_a, Some 1)
      ∷ (stored_question (record { node = 3; operand = 0; binding = 0; name = 1; conversion = into; leaving = leaves_for 0 })
      ++ (stored_b, Some 2) ∷ stored_try 0 i 0 (statement.Expr (id 8) true ∷ []) 9 10);
  pats = question_pats 0;
  bindings = question_bindings 1;
  root = 12;
}

-- the operand is read at this node's `?`, and what it branches to is of the second kind, or of the first
abbrev pub emitted_no : ℕ → List Event → List Event
emitted_no n behind = reads_a ∷ calls_item 1 (reply 11) n ∷ tests_kind 2 12 ∷ tests_kind 3 12 ∷ behind

abbrev pub emitted_yes : ℕ → List Event → List Event
emitted_yes n behind = reads_a ∷ calls_item 1 (reply 11) n ∷ tests_kind 2 12 ∷ behind

-- What is made of the residual is the value of the `try`, as it is, and b isn't read.
abbrev pub LeavesTheTry : Type 0
LeavesTheTry = BothDoPatterned (question_first (Some (lang 4)) output) (no 11 ∷ no 12 ∷ no 13 ∷ yes 14 ∷ no 15 ∷ [])
    (emitted_no 3 (calls_item 4 (reply 14) 3 ∷ []))
    (ended (reply 15))

-- Without what makes a value of it, the whole body ends there.
abbrev pub LacksItsConversionInside : Type 0
LacksItsConversionInside =
    BothDoPatterned (question_first None output) (no 11 ∷ no 12 ∷ no 13 ∷ yes 14 ∷ []) (emitted_no 3 []) (left missing)

-- Where there is no item for the value of the `try`, its statements run, and b isn't read.
abbrev pub LacksItsOutput : Type 0
LacksItsOutput =
    BothDoPatterned (question_first (Some (lang 4)) None) (no 11 ∷ no 12 ∷ yes 13 ∷ []) (emitted_yes 3 (end_of_temps ∷ [])) (left missing)
    × BothDoPatterned (question_first (Some (lang 4)) None) (no 11 ∷ no 12 ∷ no 13 ∷ yes 14 ∷ no 15 ∷ [])
    (emitted_no 3 (calls_item 4 (reply 14) 3 ∷ []))
    (ended (reply 15))

-- `try { try { a? }; b }`

abbrev pub try_inside : PatternExample
try_inside = record {
  written = tree.some_expr (try_of 0 output
      (first (try_of 4 output tree.no_stmts (tree.some_expr (question_at 3 all_items name_a))) tree.no_stmts)
      (tree.some_expr name_b));
  nodes = (stored_a, Some 1)
      ∷ (stored_question (record { node = 3; operand = 0; binding = 0; name = 2; conversion = Some (lang 4); leaving = leaves_for 1 })
      ++ (stored_try 4 output 1 [] 8 9
      ++ (stored_b, Some 2) ∷ stored_try 0 output 0 (statement.Expr (id 11) true ∷ []) 12 13));
  pats = question_pats 0;
  bindings = question_bindings 2;
  root = 15;
}

-- The inner one is left alone, and its value goes through no item; that of the outer one does.
abbrev pub LeavesTheInnerTry : Type 0
LeavesTheInnerTry = BothDoPatterned try_inside (no 11 ∷ no 12 ∷ no 13 ∷ yes 14 ∷ no 15 ∷ no 16 ∷ no 17 ∷ no 18 ∷ [])
    (emitted_no 3 (calls_item 4 (reply 14) 3 ∷ end_of_temps ∷ reads_b ∷ calls_item 6 (reply 17) 0 ∷ []))
    (ended (reply 18))

-- `try { loop { a? } }`

abbrev pub question_in_loop : PatternExample
question_in_loop = record {
  written = tree.some_expr (try_of 0 output tree.no_stmts
      (tree.some_expr (loop_of 4 None (in_braces 5 None (question_at 3 all_items name_a)))));
  nodes = (stored_a, Some 1)
      ∷ (stored_question (record { node = 3; operand = 0; binding = 0; name = 1; conversion = Some (lang 4); leaving = leaves_for 0 })
      ++ (stored_block None [] 8, Some 5)
      ∷ (stored_loop None 9, Some 4)
      ∷ stored_try 0 output 0 [] 10 11);
  pats = question_pats 0;
  bindings = question_bindings 1;
  root = 13;
}

-- It leaves the loop as well.
abbrev pub LeavesPastTheLoop : Type 0
LeavesPastTheLoop = BothDoFuel question_in_loop 2 (no 11 ∷ no 12 ∷ no 13 ∷ yes 14 ∷ no 15 ∷ [])
    (emitted_no 3 (calls_item 4 (reply 14) 3 ∷ []))
    (ended (reply 15))

-- `try { a? }`

abbrev pub question_last : PatternExample
question_last = record {
  written = tree.some_expr (try_of 0 output tree.no_stmts (tree.some_expr (question_at 3 all_items name_a)));
  nodes = (stored_a, Some 1)
      ∷ (stored_question (record { node = 3; operand = 0; binding = 0; name = 1; conversion = Some (lang 4); leaving = leaves_for 0 })
      ++ stored_try 0 output 0 [] 8 9);
  pats = question_pats 0;
  bindings = question_bindings 1;
  root = 11;
}

-- Where it goes on, its value is the tail and goes through the item; what is made of a residual doesn't.
abbrev pub GoesOnToTheOutput : Type 0
GoesOnToTheOutput =
    BothDoPatterned question_last (no 11 ∷ no 12 ∷ yes 13 ∷ no 14 ∷ []) (emitted_yes 3 (calls_item 6 (reply 13) 0 ∷ []))
    (ended (reply 14))
    × BothDoPatterned question_last (no 11 ∷ no 12 ∷ no 13 ∷ yes 14 ∷ no 15 ∷ []) (emitted_no 3 (calls_item 4 (reply 14) 3 ∷ []))
    (ended (reply 15))

-- `try { a }`, with a as its tail or as its last statement, with a number or none; and `try {}`

abbrev pub stored_only : Option BlockId → StoredExprs
stored_only b = (stored_a, Some 1)
    ∷ (stored_item output, Some 0)
    ∷ (hir.Call (id 1) (id 0 ∷ []), Some 0)
    ∷ (hir.Block false (Some (number 0)) b [] (Some (id 2)), Some 0)
    ∷ []

abbrev pub tail_only : Option BlockId → Example
tail_only b = record {
  written = tree.some_expr (tree.try_expr (at 0) output tree.no_type b tree.no_stmts (tree.some_expr name_a));
  nodes = stored_only b;
  root = 3;
}

abbrev pub last_only : Example
last_only = record {
  written = tree.some_expr (try_of 0 output (tree.more_stmts (tree.expr_stmt (tree.some_expr name_a) false) tree.no_stmts) tree.no_expr);
  nodes = stored_only None;
  root = 3;
}

abbrev pub try_empty : Example
try_empty = record {
  written = tree.some_expr (try_of 0 output tree.no_stmts tree.no_expr);
  nodes = (stored_item output, Some 0)
      ∷ (hir.Tuple [], Some 0)
      ∷ (hir.Call (id 0) (id 1 ∷ []), Some 0)
      ∷ (stored_block (Some (number 0)) [] 2, Some 0)
      ∷ [];
  root = 3;
}

-- What is the value of the block goes through the item, where the block stands: unit too.
abbrev pub GoesThroughTheOutput : Type 0
GoesThroughTheOutput =
    BothDo (tail_only None) 0 (no 11 ∷ no 12 ∷ []) (reads_a ∷ calls_item 6 (reply 11) 0 ∷ []) (ended (reply 12))
    × BothDo last_only 0 (no 11 ∷ no 12 ∷ []) (reads_a ∷ calls_item 6 (reply 11) 0 ∷ []) (ended (reply 12))
    × BothDo try_empty 0 (no 11 ∷ []) (calls_item 6 unit 0 ∷ []) (ended (reply 11))
    × BothDo (tail_only (Some (record { 0 = 7 }))) 0 (no 11 ∷ no 12 ∷ no 13 ∷ [])
    (event_of (enter (Some (record { 0 = 7 })) false) [] 0 ∷ reads_a ∷ calls_item 6 (reply 12) 0 ∷ []) (ended (reply 13))

-- with a written type

-- and types, each with its node
pub record TypedTry : Type 0 where
  pub example : PatternExample
  pub types : StoredTypes

abbrev pub typed_in : TypedTry → Store
typed_in x = record (patterns_in x.example) { types = map (λ t. t.0) x.types }

abbrev pub map_of_typed : TypedTry → SourceMap
map_of_typed x = record (map_of_patterns x.example) { type_sources = map (λ t. option_map at t.1) x.types }

-- as it is written and as it is stored
pub record BothDoTypedTry (x : TypedTry) (answers : Oracle) (es : List Event) (end : Ending) : Type 0 where
  pub written : Does (written_body x.example.written) 0 answers es end
  pub stored : Does (stored_body (typed_in x) (map_of_typed x) (id x.example.root)) 0 answers es end

-- Behind the block b: the made name g, which is bound by the pattern p and has the number e, and the block around both.
abbrev pub stored_typed : ℕ → ℕ → ℕ → ℕ → StoredExprs
stored_typed b g p e = (made g, Some 0)
    ∷ (stored_block None (statement.Let (pat_number p) (Some (type_number 0)) (Some (id b)) None ∷ []) e, Some 0)
    ∷ []

-- `try bikeshed ! { a }`

abbrev pub typed_tail : TypedTry
typed_tail = record {
  example = record {
    written = tree.some_expr (tree.try_expr (at 0) output never None tree.no_stmts (tree.some_expr name_a));
    nodes = (stored_a, Some 1) ∷ (stored_try 0 output 0 [] 0 1 ++ stored_typed 3 1 0 4);
    pats = (pat.Bind (binding_number 0) None, None) ∷ [];
    bindings = made_binding 1 ∷ [];
    root = 5;
  };
  types = stored_never;
}

abbrev pub binds_typed : ℕ → Event
binds_typed n = event_at (bound made_data (datum.some_type never_data)) (reply n ∷ []) None

-- What the item answers is bound to the type, at no node, and the answer to that is the value.
abbrev pub BindsToItsType : Type 0
BindsToItsType = BothDoTypedTry typed_tail (no 11 ∷ no 12 ∷ no 13 ∷ [])
    (reads_a ∷ calls_item 6 (reply 11) 0 ∷ binds_typed 12 ∷ end_of_temps ∷ [])
    (ended (reply 13))

-- `try bikeshed ! { a?; b }`

abbrev pub typed_question : TypedTry
typed_question = record {
  example = record {
    written = tree.some_expr (tree.try_expr (at 0) output never None (first (question_at 4 all_items name_a) tree.no_stmts)
        (tree.some_expr name_b));
    nodes = (stored_a, Some 1)
        ∷ (stored_question (record { node = 4; operand = 0; binding = 0; name = 1; conversion = Some (lang 5); leaving = leaves_for 0 })
        ++ ((stored_b, Some 2) ∷ stored_try 0 output 0 (statement.Expr (id 8) true ∷ []) 9 10)
        ++ stored_typed 12 3 4 13);
    pats = question_pats 0 ++ (pat.Bind (binding_number 2) None, None) ∷ [];
    bindings = question_bindings 1 ++ made_binding 3 ∷ [];
    root = 14;
  };
  types = stored_never;
}

-- What makes a value of the residual is what does so for a body, and that is bound to the type, too.
abbrev pub ConvertsAsForABody : Type 0
ConvertsAsForABody = BothDoTypedTry typed_question (no 11 ∷ no 12 ∷ no 13 ∷ yes 14 ∷ no 15 ∷ no 16 ∷ [])
    (emitted_no 4 (calls_item 5 (reply 14) 4 ∷ binds_typed 15 ∷ end_of_temps ∷ []))
    (ended (reply 16))

-- jumps out of a `try`

-- `loop { try { break 1 }; 2 }`

abbrev pub break_in_try : Example
break_in_try = record {
  written = tree.some_expr (loop_of 0 None (block_of 2 None
      (first (try_of 3 output tree.no_stmts (tree.some_expr (break_of 4 None (literal_at 5 one)))) tree.no_stmts)
      (literal_at 6 two)));
  nodes = (stored_one, Some 5)
      ∷ (hir.Break None (Some (id 0)), Some 4)
      ∷ (stored_try 3 output 0 [] 1 2
      ++ (stored_two, Some 6)
      ∷ (stored_block None (statement.Expr (id 4) true ∷ []) 5, Some 2)
      ∷ (stored_loop None 6, Some 0)
      ∷ []);
  root = 7;
}

-- `loop { try { 1; continue }; 2 }`

abbrev pub continue_in_try : Example
continue_in_try = record {
  written = tree.some_expr (loop_of 0 None (block_of 2 None
      (first (try_of 3 output (first (literal_at 5 one) tree.no_stmts) (tree.some_expr (tree.continue_expr (at 4) None))) tree.no_stmts)
      (literal_at 6 two)));
  nodes = (stored_one, Some 5)
      ∷ (hir.Continue None, Some 4)
      ∷ (stored_try 3 output 0 (statement.Expr (id 0) true ∷ []) 1 2
      ++ (stored_two, Some 6)
      ∷ (stored_block None (statement.Expr (id 4) true ∷ []) 5, Some 2)
      ∷ (stored_loop None 6, Some 0)
      ∷ []);
  root = 7;
}

-- `'a: { try { break 'a 1 }; 2 }`

abbrev pub break_past_try : Example
break_past_try = record {
  written = tree.some_expr (tree.block_expr (block_of 0 (Some root)
      (first (try_of 3 output tree.no_stmts (tree.some_expr (break_of 4 (Some jump_a) (literal_at 5 one)))) tree.no_stmts)
      (literal_at 6 two)));
  nodes = (stored_one, Some 5)
      ∷ (hir.Break (Some (number 0)) (Some (id 0)), Some 4)
      ∷ (stored_try 3 output 1 [] 1 2
      ++ (stored_two, Some 6)
      ∷ (stored_block (Some (number 0)) (statement.Expr (id 4) true ∷ []) 5, Some 0)
      ∷ []);
  root = 6;
}

-- They pass it: the break leaves the loop, the continue ends its turn, and the break by name leaves what bears the name.
abbrev pub JumpsPassTheTry : Type 0
JumpsPassTheTry =
    BothDo break_in_try 1 (no 11 ∷ []) (literal_event one 5 ∷ []) (ended (reply 11))
    × BothDo continue_in_try 2 [] (literal_event one 5 ∷ end_of_temps ∷ literal_event one 5 ∷ end_of_temps ∷ []) (left cut)
    × BothDo break_past_try 0 (no 11 ∷ []) (literal_event one 5 ∷ []) (ended (reply 11))

-- Inside a `try` and behind a barrier `a?` returns.
abbrev pub BarrierHidesTheTry : Type 0
BarrierHidesTheTry = (fuel : ℕ) (typed : Bool)
    → (run_expr fuel (question_at 3 all_items name_a) (barrier ∷ try_scope typed ∷ [])
    (begin (no 11 ∷ no 12 ∷ no 13 ∷ yes 14 ∷ no 15 ∷ []))).0 ≡ leave (returned (reply 15))
