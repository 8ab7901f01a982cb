-- Small bodies of operators, lists, `return` and unsafe blocks, and what they do.
use Rattle.std.specs.Prelude.{◌≡◌, ℕ, true, false, List, [], ◌∷◌, Option, Some, None}
use Rattle.hir_base.specs.declared.op.ArithOp.TheVariants as arith
use Rattle.hir_base.specs.declared.op.BinaryOp.{BinaryOp}
use Rattle.hir_base.specs.declared.op.BinaryOp.TheVariants as ast
use Rattle.hir_base.specs.declared.op.LogicOp.{LogicOp}
use Rattle.hir_base.specs.declared.op.LogicOp.TheVariants as logic
use Rattle.hir_store.specs.declared.hir.Expr.{Expr as Stored}
use Rattle.hir_store.specs.declared.hir.Expr.TheVariants as hir
use Rattle.hir_store.specs.declared.hir.RecordSpread.TheVariants as spread
use Rattle.hir_store.specs.declared.ids.BlockId.{BlockId}
use Rattle.hir_store.specs.declared.name.Name.{Name}
use Rattle.hir_store.specs.declared.name.Name.TheVariants as name
use Rattle.hir_env.specs.ResolvedTree as tree
use Rattle.hir_env.specs.ResolvedTree.{Gone, Expr, Exprs}
use Rattle.hir_lower_scope.specs.Scopes.{Scope}
use Rattle.spec_semantics.specs.Run.{unit, reply, truth, Event, Answer, test, is_true, enter, operator, tuple, missing, returned}
use Rattle.spec_data.specs.Data.{no_args}
use Rattle.spec_semantics.specs.Run.{method_call, made_record, field_defaults, rest_of, yielding, yeeted}
use Rattle.spec_semantics.specs.Syntax.{run_each}
use Rattle.spec_semantics.specs.Same.{ended, left}
use Rattle.spec_semantics.specs.Small.{at, root, one, literal_at, name_at, in_braces, loop_of}
use Rattle.spec_semantics.specs.Small.{id, stored_one, stored_name, stored_block, stored_loop}
use Rattle.spec_semantics.specs.Small.{path_of, bare_data, event_of, literal_event, read_name, Example, BothDo}
use Rattle.spec_semantics.specs.Examples.{no}

abbrev pub yes : ℕ → Answer
yes n = record { yes = true; value = n }

-- the names a, at node 1, and b, at node 2
abbrev pub name_a : Expr
name_a = name_at 97 1

abbrev pub name_b : Expr
name_b = name_at 98 2

abbrev pub stored_a : Stored
stored_a = hir.Path (stored_name 97) root

abbrev pub stored_b : Stored
stored_b = hir.Path (stored_name 98) root

abbrev pub reads_a : Event
reads_a = event_of (read_name 97) [] 1

abbrev pub reads_b : Event
reads_b = event_of (read_name 98) [] 2

-- `a + b`

abbrev pub plus : Option BinaryOp
plus = Some (ast.ArithOp arith.Add)

abbrev pub sum : Example
sum = record {
  written = tree.some_expr (tree.binary_expr (at 0) (tree.operator plus) (tree.some_expr name_a) (tree.some_expr name_b));
  nodes = (stored_a, Some 1) ∷ (stored_b, Some 2) ∷ (hir.BinaryOp plus (id 0) (id 1), Some 0) ∷ [];
  root = 2;
}

-- The left side is read, then the right one, and then the operator happens to both values, where the sum stands.
abbrev pub OperatesInOrder : Type 0
OperatesInOrder = BothDo sum 0 (no 11 ∷ no 12 ∷ no 13 ∷ [])
    (reads_a ∷ reads_b ∷ event_of (operator plus) (reply 11 ∷ reply 12 ∷ []) 0 ∷ [])
    (ended (reply 13))

-- `a && b` and `a || b`

abbrev pub lazy_of : LogicOp → Example
lazy_of op = record {
  written = tree.some_expr (tree.lazy_expr (at 0) op (tree.some_expr name_a) (tree.some_expr name_b));
  nodes = (stored_a, Some 1) ∷ (stored_b, Some 2) ∷ (hir.BinaryOp (Some (ast.LogicOp op)) (id 0) (id 1), Some 0) ∷ [];
  root = 2;
}

-- the value 11 of the left side is tested
abbrev pub tests_a : Event
tests_a = event_of (test is_true) (reply 11 ∷ []) 0

-- No decides an `and`, yes an `or`: the right side doesn't happen.
abbrev pub DecidesByLeft : Type 0
DecidesByLeft =
    BothDo (lazy_of logic.And) 0 (no 11 ∷ no 12 ∷ []) (reads_a ∷ tests_a ∷ []) (ended (truth false))
    × BothDo (lazy_of logic.Or) 0 (no 11 ∷ yes 12 ∷ []) (reads_a ∷ tests_a ∷ []) (ended (truth true))

-- Else it happens, and its value is the whole's.
abbrev pub DecidesByRight : Type 0
DecidesByRight =
    BothDo (lazy_of logic.And) 0 (no 11 ∷ yes 12 ∷ no 13 ∷ []) (reads_a ∷ tests_a ∷ reads_b ∷ []) (ended (reply 13))
    × BothDo (lazy_of logic.Or) 0 (no 11 ∷ no 12 ∷ no 13 ∷ []) (reads_a ∷ tests_a ∷ reads_b ∷ []) (ended (reply 13))

-- `f(loop { return 1 })`

abbrev pub return_inside : Example
return_inside = record {
  written = tree.some_expr (tree.call_expr (at 0) (tree.some_expr (name_at 102 1)) true
      (tree.more_exprs
      (loop_of 2 None (in_braces 3 None (tree.leaving_expr (at 4) tree.returning (tree.some_expr (literal_at 5 one)))))
      tree.no_exprs));
  nodes = (hir.Path (stored_name 102) root, Some 1)
      ∷ (stored_one, Some 5)
      ∷ (hir.Return (Some (id 1)), Some 4)
      ∷ (stored_block None [] 2, Some 3)
      ∷ (stored_loop None 3, Some 2)
      ∷ (hir.Call (id 0) (id 4 ∷ []), Some 0)
      ∷ [];
  root = 5;
}

-- Neither the loop nor the call catches it: the call doesn't happen.
abbrev pub ReturnsFromInside : Type 0
ReturnsFromInside = BothDo return_inside 1 [] (event_of (read_name 102) [] 1 ∷ literal_event one 5 ∷ []) (left (returned (reply 0)))

-- `()`, `(, a)` and `(a, b)` with a disabled b

abbrev pub nothing : Example
nothing = record {
  written = tree.some_expr (tree.list_expr (at 0) (tree.tuple_of false) tree.no_exprs);
  nodes = (hir.Tuple [], Some 0) ∷ [];
  root = 0;
}

abbrev pub EmptyTupleIsSilent : Type 0
EmptyTupleIsSilent = BothDo nothing 0 [] [] (ended unit)

abbrev pub front_missing : Example
front_missing = record {
  written = tree.some_expr (tree.list_expr (at 0) (tree.tuple_of true) (tree.more_exprs name_a tree.no_exprs));
  nodes = (stored_a, Some 1) ∷ (hir.Missing, None) ∷ (hir.Tuple (id 1 ∷ id 0 ∷ []), Some 0) ∷ [];
  root = 2;
}

-- What is missing stands in front: a is not read.
abbrev pub MissesItsFront : Type 0
MissesItsFront = BothDo front_missing 0 [] [] (left missing)

-- by the condition at this node
abbrev pub disabled_at : ℕ → Gone
disabled_at n = record { entered = []; condition = Some (at n, record { 0 = 0 }) }

abbrev pub second_disabled : Example
second_disabled = record {
  written = tree.some_expr (tree.list_expr (at 0) (tree.tuple_of false)
      (tree.more_exprs name_a (tree.more_exprs (tree.disabled_expr (disabled_at 2) name_b) tree.no_exprs)));
  nodes = (stored_a, Some 1) ∷ (hir.Tuple (id 0 ∷ []), Some 0) ∷ [];
  root = 1;
}

-- The tuple is one of one element.
abbrev pub LeavesOutTheSecond : Type 0
LeavesOutTheSecond = BothDo second_disabled 0 (no 11 ∷ no 12 ∷ [])
    (reads_a ∷ event_of tuple (reply 11 ∷ []) 0 ∷ [])
    (ended (reply 12))

-- `(a, b)`

abbrev pub pair : Example
pair = record {
  written = tree.some_expr (tree.list_expr (at 0) (tree.tuple_of false)
      (tree.more_exprs name_a (tree.more_exprs name_b tree.no_exprs)));
  nodes = (stored_a, Some 1) ∷ (stored_b, Some 2) ∷ (hir.Tuple (id 0 ∷ id 1 ∷ []), Some 0) ∷ [];
  root = 2;
}

-- Both are read in order, and the tuple is made of both values.
abbrev pub MakesAPair : Type 0
MakesAPair = BothDo pair 0 (no 11 ∷ no 12 ∷ no 13 ∷ [])
    (reads_a ∷ reads_b ∷ event_of tuple (reply 11 ∷ reply 12 ∷ []) 0 ∷ [])
    (ended (reply 13))

-- `a.m(b)`

abbrev pub name_m : Name
name_m = name.Text (109 ∷ [])

abbrev pub method_called : Example
method_called = record {
  written = tree.some_expr (tree.method_call_expr (at 0) (tree.some_expr name_a) name_m (tree.more_exprs name_b tree.no_exprs)
      tree.no_arg_list);
  nodes = (stored_a, Some 1) ∷ (stored_b, Some 2) ∷ (hir.MethodCall (id 0) name_m None (id 1 ∷ []), Some 0) ∷ [];
  root = 2;
}

-- The receiver is read, then the argument, and then the method of that name is called with both.
abbrev pub CallsTheMethod : Type 0
CallsTheMethod = BothDo method_called 0 (no 11 ∷ no 12 ∷ no 13 ∷ [])
    (reads_a ∷ reads_b ∷ event_of (method_call name_m no_args) (reply 11 ∷ reply 12 ∷ []) 0 ∷ [])
    (ended (reply 13))

-- `c { m: a, m: a, ..b }` with a disabled second field

abbrev pub record_made : Example
record_made = record {
  written = tree.some_expr (tree.record_expr (at 0) (path_of 99) (record { has_list = true; has_dots = true })
      (tree.more_fields (tree.named_field (at 3) name_m (tree.some_expr name_a))
      (tree.more_fields (tree.disabled_field (at 4) (record { 0 = 0 }) (tree.named_field (at 4) name_m (tree.some_expr name_a)))
      tree.no_fields))
      (tree.spread_of name_b));
  nodes = (stored_a, Some 1)
      ∷ (stored_b, Some 2)
      ∷ (hir.RecordLit (stored_name 99) (record { name = name_m; expr = id 0 } ∷ []) (spread.Expr (id 1)), Some 0)
      ∷ [];
  root = 2;
}

-- The field is read, then the record that the others come from, and the record is made of both values.
abbrev pub MakesARecord : Type 0
MakesARecord = BothDo record_made 0 (no 11 ∷ no 12 ∷ no 13 ∷ [])
    (reads_a ∷ reads_b
    ∷ event_of (made_record (bare_data (name.Text (99 ∷ []))) (name_m ∷ []) rest_of) (reply 11 ∷ reply 12 ∷ []) 0 ∷ [])
    (ended (reply 13))

-- `c { m: a, .. }`

abbrev pub record_of_defaults : Example
record_of_defaults = record {
  written = tree.some_expr (tree.record_expr (at 0) (path_of 99) (record { has_list = true; has_dots = true })
      (tree.more_fields (tree.named_field (at 3) name_m (tree.some_expr name_a)) tree.no_fields) tree.field_defaults);
  nodes = (stored_a, Some 1)
      ∷ (hir.RecordLit (stored_name 99) (record { name = name_m; expr = id 0 } ∷ []) spread.FieldDefaults, Some 0)
      ∷ [];
  root = 1;
}

-- The field is read, and the record is made of its value, told that the others have their defaults.
abbrev pub MakesOfDefaults : Type 0
MakesOfDefaults = BothDo record_of_defaults 0 (no 11 ∷ no 12 ∷ [])
    (reads_a ∷ event_of (made_record (bare_data (name.Text (99 ∷ []))) (name_m ∷ []) field_defaults) (reply 11 ∷ []) 0 ∷ [])
    (ended (reply 12))

-- `yield` and `do yeet 1`

abbrev pub yield_alone : Example
yield_alone = record {
  written = tree.some_expr (tree.yield_expr (at 0) tree.no_expr);
  nodes = (hir.Yield None, Some 0) ∷ [];
  root = 0;
}

-- Unit is yielded, and the answer is the value.
abbrev pub YieldsUnit : Type 0
YieldsUnit = BothDo yield_alone 0 (no 11 ∷ []) (event_of yielding (unit ∷ []) 0 ∷ []) (ended (reply 11))

abbrev pub yeet_one : Example
yeet_one = record {
  written = tree.some_expr (tree.leaving_expr (at 0) tree.yeeting (tree.some_expr (literal_at 1 one)));
  nodes = (stored_one, Some 1) ∷ (hir.Yeet (Some (id 0)), Some 0) ∷ [];
  root = 1;
}

-- That is not a return.
abbrev pub YeetsItsValue : Type 0
YeetsItsValue = BothDo yeet_one 0 (no 11 ∷ []) (literal_event one 1 ∷ []) (left (yeeted (reply 11)))

-- the elements of both
abbrev pub followed : Exprs → Exprs → Exprs
followed tree.no_exprs after = after
followed (tree.more_exprs e es) after = tree.more_exprs e (followed es after)

-- So a disabled element of any list is nothing, wherever it stands.
abbrev pub ElementIsNothing : Type 0
ElementIsNothing =
    (fuel : ℕ) (before after : Exprs) (why : Gone) (e : Expr) (ss : List Scope)
    → run_each fuel (followed before (tree.more_exprs (tree.disabled_expr why e) after)) ss ≡ run_each fuel (followed before after) ss

-- `unsafe { 1 }`, as a scope of items or not

abbrev pub unsafe_with : Option BlockId → Example
unsafe_with number = record {
  written = tree.some_expr (tree.block_expr (tree.block (at 0) true None tt number tree.no_stmts (tree.some_expr (literal_at 1 one))));
  nodes = (stored_one, Some 1) ∷ (hir.Block true None number [] (Some (id 0)), Some 0) ∷ [];
  root = 1;
}

abbrev pub unsafe_block : Example
unsafe_block = unsafe_with None

abbrev pub unsafe_scope : Example
unsafe_scope = unsafe_with (Some (record { 0 = 7 }))

-- It is entered, with its number where it has one, before what is in it happens.
abbrev pub EntersTheUnsafe : Type 0
EntersTheUnsafe =
    BothDo unsafe_block 0 (no 11 ∷ no 12 ∷ []) (event_of (enter None true) [] 0 ∷ literal_event one 1 ∷ []) (ended (reply 12))
    × BothDo unsafe_scope 0 (no 11 ∷ no 12 ∷ [])
    (event_of (enter (Some (record { 0 = 7 })) true) [] 0 ∷ literal_event one 1 ∷ [])
    (ended (reply 12))
