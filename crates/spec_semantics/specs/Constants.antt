-- Small bodies with repeat arrays and const blocks, and what they do: what is in a length or a const block is a body inside, and
-- doesn't run with what is around it.
use Rattle.std.specs.Prelude.{◌≡◌, ℕ, List, [], ◌∷◌, ◌++◌, map, Some, None}
use Rattle.hir_store.specs.Stored.{Store}
use Rattle.hir_store.specs.declared.hir.Array.TheVariants as array
use Rattle.hir_store.specs.declared.hir.Expr.{Expr as Stored}
use Rattle.hir_store.specs.declared.hir.Expr.TheVariants as hir
use Rattle.hir_store.specs.declared.ids.ExprId.{ExprId}
use Rattle.hir_env.specs.ResolvedTree as tree
use Rattle.hir_env.specs.ResolvedTree.{Expr, OptionExpr}
use Rattle.spec_semantics.specs.Inner.{Bodies, Inside, bodies_in, by_itself, inner_bodies}
use Rattle.spec_semantics.specs.InnerRows.{constants}
use Rattle.spec_semantics.specs.Run.{reply, unit, repeated, const_block, returned, cut}
use Rattle.spec_semantics.specs.Same.{ended, left, stray_break}
use Rattle.spec_semantics.specs.Small.{at, root, one, two, literal_at, jump_a, in_braces, loop_of}
use Rattle.spec_semantics.specs.Small.{only, id, number, stored_one, stored_two, stored_block, stored_loop}
use Rattle.spec_semantics.specs.Small.{event_of, literal_event, Example, BothDo}
use Rattle.spec_semantics.specs.Forms.{yes, name_a, stored_a, reads_a}
use Rattle.spec_semantics.specs.Patterned.{PatternExample, BothDoPatterned, patterns_in}
use Rattle.spec_semantics.specs.Questions.{lang, all_items, question_at, returns, stored_question, question_pats, question_bindings}
use Rattle.spec_semantics.specs.Questions.{calls_item, tests_kind}
use Rattle.spec_semantics.specs.Tries.{output, try_of, stored_try}
use Rattle.spec_semantics.specs.Examples.{no}

-- `[e; l]`
abbrev pub repeat_of : ℕ → Expr → Expr → Expr
repeat_of n e l = tree.repeat_expr (at n) (tree.some_expr e) (tree.constant (tree.some_expr l))

-- of these numbers
abbrev pub stored_repeat : ℕ → ℕ → Stored
stored_repeat e l = hir.Array (array.Repeat (id e) (record { expr = id l }))

-- The bodies inside it, as it is written and as it is stored, are these.
pub record HasBodies (written : OptionExpr) (store : Store) (number : ℕ) (bs : Bodies) (xs : List Inside) : Type 0 where
  pub listed : bodies_in written ≡ bs
  pub stored : inner_bodies store (id number) ≡ xs

-- each of them an expression
abbrev pub HasInside : OptionExpr → Store → ℕ → List OptionExpr → List ExprId → Type 0
HasInside written store number es is = HasBodies written store number (constants es) (map by_itself is)

-- `[1; 2]`

abbrev pub repeat_one : Example
repeat_one = record {
  written = tree.some_expr (repeat_of 0 (literal_at 1 one) (literal_at 2 two));
  nodes = (stored_one, Some 1) ∷ (stored_two, Some 2) ∷ (stored_repeat 0 1, Some 0) ∷ [];
  root = 2;
}

abbrev pub length_two : OptionExpr
length_two = tree.some_expr (literal_at 2 two)

-- What is repeated is the one operand. The length is a body inside, whose run is its own.
abbrev pub RepeatsItsOperand : Type 0
RepeatsItsOperand =
    BothDo repeat_one 0 (no 11 ∷ no 12 ∷ []) (literal_event one 1 ∷ event_of repeated (reply 11 ∷ []) 0 ∷ []) (ended (reply 12))
    × HasInside repeat_one.written (only repeat_one.nodes) 2 (length_two ∷ []) (id 1 ∷ [])
    × BothDo (record repeat_one { written = length_two; root = 1 }) 0 (no 11 ∷ []) (literal_event two 2 ∷ []) (ended (reply 11))

-- `const { 1 }`

abbrev pub block_of_one : OptionExpr
block_of_one = tree.some_expr (tree.block_expr (in_braces 0 None (literal_at 1 one)))

abbrev pub const_one : Example
const_one = record {
  written = tree.some_expr (tree.const_expr (at 0) (tree.constant block_of_one));
  nodes = (stored_one, Some 1) ∷ (stored_block None [] 0, Some 0) ∷ (hir.Const (record { expr = id 1 }), Some 0) ∷ [];
  root = 2;
}

-- It is one event without operands. The block is a body inside, whose run is its own.
abbrev pub HasItsBlockInside : Type 0
HasItsBlockInside =
    BothDo const_one 0 (no 11 ∷ []) (event_of const_block [] 0 ∷ []) (ended (reply 11))
    × HasInside const_one.written (only const_one.nodes) 2 (block_of_one ∷ []) (id 1 ∷ [])
    × BothDo (record const_one { written = block_of_one; root = 1 }) 0 (no 11 ∷ []) (literal_event one 1 ∷ []) (ended (reply 11))

-- `'a: loop { [1; break 'a] }`

abbrev pub break_out_of_length : OptionExpr
break_out_of_length = tree.some_expr (tree.break_expr (at 5) (Some jump_a) tree.no_expr)

abbrev pub break_in_length : Example
break_in_length = record {
  written = tree.some_expr (loop_of 0 (Some root) (in_braces 2 None
      (tree.repeat_expr (at 3) (tree.some_expr (literal_at 4 one)) (tree.constant break_out_of_length))));
  nodes = (stored_one, Some 4)
      ∷ (hir.Break None None, Some 5)
      ∷ (stored_repeat 0 1, Some 3)
      ∷ (stored_block None [] 2, Some 2)
      ∷ (stored_loop (Some (number 0)) 3, Some 0)
      ∷ [];
  root = 4;
}

-- The break leaves no loop: the array is made turn after turn, and the length by itself is a stray break.
abbrev pub StraysFromItsLength : Type 0
StraysFromItsLength =
    BothDo break_in_length 2 (no 11 ∷ no 12 ∷ no 13 ∷ no 14 ∷ [])
    (literal_event one 4 ∷ event_of repeated (reply 11 ∷ []) 3 ∷ literal_event one 4 ∷ event_of repeated (reply 13 ∷ []) 3 ∷ [])
    (left cut)
    × HasInside break_in_length.written (only break_in_length.nodes) 4 (break_out_of_length ∷ []) (id 1 ∷ [])
    × BothDo (record break_in_length { written = break_out_of_length; root = 1 }) 2 [] [] (stray_break unit)

-- `try { [1; a?] }`

abbrev pub question_out_of_length : OptionExpr
question_out_of_length = tree.some_expr (question_at 3 all_items name_a)

abbrev pub question_in_length : PatternExample
question_in_length = record {
  written = tree.some_expr (try_of 0 output tree.no_stmts (tree.some_expr
      (tree.repeat_expr (at 2) (tree.some_expr (literal_at 4 one)) (tree.constant question_out_of_length))));
  nodes = (stored_one, Some 4)
      ∷ (stored_a, Some 1)
      ∷ (stored_question (record { node = 3; operand = 1; binding = 0; name = 1; conversion = Some (lang 5); leaving = returns })
      ++ (stored_repeat 0 9, Some 2) ∷ stored_try 0 output 0 [] 10 11);
  pats = question_pats 0;
  bindings = question_bindings 1;
  root = 13;
}

-- The `try` goes on to its item, and what the `?` in the length brings is returned from that alone.
abbrev pub ReturnsFromItsLength : Type 0
ReturnsFromItsLength =
    BothDoPatterned question_in_length (no 11 ∷ no 12 ∷ no 13 ∷ [])
    (literal_event one 4 ∷ event_of repeated (reply 11 ∷ []) 2 ∷ calls_item 6 (reply 12) 0 ∷ [])
    (ended (reply 13))
    × HasInside question_in_length.written (patterns_in question_in_length) 13 (question_out_of_length ∷ []) (id 9 ∷ [])
    × BothDoPatterned (record question_in_length { written = question_out_of_length; root = 9 })
    (no 11 ∷ no 12 ∷ no 13 ∷ yes 14 ∷ no 15 ∷ [])
    (reads_a ∷ calls_item 1 (reply 11) 3 ∷ tests_kind 2 12 ∷ tests_kind 3 12 ∷ calls_item 5 (reply 14) 3 ∷ [])
    (left (returned (reply 15)))
