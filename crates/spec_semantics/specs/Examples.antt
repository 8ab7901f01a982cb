-- The body that docs/MEANING.md works out, on both sides.
use Rattle.std.specs.Prelude.{◌≡◌, ℕ, true, false, List, [], ◌∷◌, Some, None}
use Rattle.hir_store.specs.declared.hir.Expr.TheVariants as hir
use Rattle.hir_env.specs.ResolvedTree as tree
use Rattle.hir_env.specs.ResolvedTree.{OptionExpr}
use Rattle.spec_semantics.specs.Run.{reply, call, Event, value, test, is_true, Answer, Oracle, World}
use Rattle.spec_semantics.specs.Syntax.{run_syntax}
use Rattle.spec_semantics.specs.Store.{new_table, run_store}
use Rattle.spec_semantics.specs.Same.{begin, begin_with}
use Rattle.spec_semantics.specs.Small.{at, root, jump_a, one, literal_at, name_at, in_braces, loop_of, break_of}
use Rattle.spec_semantics.specs.Small.{StoredExprs, only, from, id, number, stored_one, stored_name, stored_block, stored_loop}
use Rattle.spec_semantics.specs.Small.{event_of, literal_event, read_name}

-- `'a: { loop { if f() { break 'a 1 } } }`
abbrev pub examples : OptionExpr
examples = tree.some_expr (tree.block_expr (in_braces 0 (Some root) (loop_of 2 None (in_braces 3 None
    (tree.if_expr (at 4) (tree.some_expr (tree.call_expr (at 5) (tree.some_expr (name_at 102 7)) true tree.no_exprs))
    (tree.some_block (in_braces 8 None (break_of 9 (Some jump_a) (literal_at 10 one))))
    tree.no_expr)))))

abbrev pub example_nodes : StoredExprs
example_nodes = (stored_one, Some 10)
    ∷ (hir.Break (Some (number 0)) (Some (id 0)), Some 9)
    ∷ (stored_block None [] 1, Some 8)
    ∷ (hir.Path (stored_name 102) root, Some 7)
    ∷ (hir.Call (id 3) [], Some 5)
    ∷ (hir.If (id 4) (id 2) None, Some 4)
    ∷ (stored_block None [] 5, Some 3)
    ∷ (stored_loop None 6, Some 2)
    ∷ (stored_block (Some (number 0)) [] 7, Some 0)
    ∷ []

abbrev pub no : ℕ → Answer
no n = record { yes = false; value = n }

-- the second call is answered what is tested with yes
abbrev pub example_answers : Oracle
example_answers = no 11 ∷ no 12 ∷ no 13 ∷ no 14 ∷ no 15 ∷ record { yes = true; value = 16 } ∷ no 17 ∷ []

abbrev pub example_events : List Event
example_events = event_of (read_name 102) [] 7
    ∷ event_of call (reply 11 ∷ []) 5
    ∷ event_of (test is_true) (reply 12 ∷ []) 4
    ∷ event_of (read_name 102) [] 7
    ∷ event_of call (reply 14 ∷ []) 5
    ∷ event_of (test is_true) (reply 15 ∷ []) 4
    ∷ literal_event one 10
    ∷ []

abbrev pub example_end : {T : Type 0} → T → World T
example_end table = record { answers = []; events = example_events; table = table }

-- The two runs with two turns: docs/MEANING.md has them in words.
abbrev pub RunsAsExample : Type 0
RunsAsExample = (run_syntax examples 2 (begin example_answers) ≡ (value (reply 17), example_end tt))
    × (run_store (only example_nodes) (from example_nodes) (id 8) 2 (begin_with new_table example_answers)
    ≡ (value (reply 17), example_end new_table))
