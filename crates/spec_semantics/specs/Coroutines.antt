-- Small bodies with coroutine blocks, and what they do: what is in such a block is a body inside, and doesn't run where the block stands.
use Rattle.std.specs.Prelude.{Bool, false, true, ℕ, List, [], ◌∷◌, ◌++◌, Option, Some, None}
use Rattle.hir_store.specs.declared.hir.CaptureBy.{CaptureBy}
use Rattle.hir_store.specs.declared.hir.CaptureBy.TheVariants as capture
use Rattle.hir_store.specs.declared.hir.ClosureKind.TheVariants as kind
use Rattle.hir_store.specs.declared.hir.CoroutineKind.{CoroutineKind}
use Rattle.hir_store.specs.declared.hir.CoroutineKind.TheVariants as coroutine
use Rattle.hir_store.specs.declared.hir.CoroutineSource.TheVariants as source
use Rattle.hir_store.specs.declared.hir.Expr.{Expr as Stored}
use Rattle.hir_store.specs.declared.hir.Expr.TheVariants as hir
use Rattle.hir_store.specs.declared.ids.BlockId.{BlockId}
use Rattle.hir_store.specs.declared.ids.HygieneId.{HygieneId}
use Rattle.hir_store.specs.declared.ids.LabelId.{LabelId}
use Rattle.hir_env.specs.ResolvedTree as tree
use Rattle.hir_env.specs.ResolvedTree.{Expr}
use Rattle.spec_data.specs.Data as datum
use Rattle.spec_semantics.specs.Inner.{InnerBody, by_itself, constant_body, coroutine_body}
use Rattle.spec_semantics.specs.Limits.{written_inner}
use Rattle.spec_semantics.specs.Run.{Event, Oracle, reply, closure, cut, enter, event_at, returned, unit, yielding}
use Rattle.spec_semantics.specs.Same.{Ending, ended, left, stray_break, stray_continue}
use Rattle.spec_semantics.specs.Store.{StoreBody, stored_body}
use Rattle.spec_semantics.specs.Small.{at, root, one, literal_at, jump_a, in_braces, loop_of, only, from, id, number, Does}
use Rattle.spec_semantics.specs.Small.{stored_one, stored_block, stored_loop, event_of, literal_event, Example, BothDo}
use Rattle.spec_semantics.specs.Forms.{yes, name_a, stored_a, reads_a}
use Rattle.spec_semantics.specs.Patterned.{PatternExample, BothDoPatterned, patterns_in, map_of_patterns}
use Rattle.spec_semantics.specs.Questions.{lang, all_items, question_at, returns, stored_question, question_pats, question_bindings}
use Rattle.spec_semantics.specs.Questions.{calls_item}
use Rattle.spec_semantics.specs.Tries.{output, try_of, stored_try, emitted_no}
use Rattle.spec_semantics.specs.Constants.{HasBodies}
use Rattle.spec_semantics.specs.Closures.{closure_at, stored_plain, plain_event}
use Rattle.spec_semantics.specs.Examples.{no}

-- `async { e }`, or one of another kind, behind which `move` stands or doesn't, with a number or none
abbrev pub coroutine_at : ℕ → CoroutineKind → Bool → Option BlockId → Expr → Expr
coroutine_at n k moves block e = tree.coroutine_expr (at n) k moves block tree.no_stmts (tree.some_expr e)

-- what is in it
abbrev pub inside : Option BlockId → Expr → InnerBody
inside block e = coroutine_body block tree.no_stmts (tree.some_expr e)

-- around the block of this number
abbrev pub stored_coroutine : CoroutineKind → CaptureBy → ℕ → Stored
stored_coroutine k c block = hir.Closure [] [] None (id block) (kind.Coroutine k source.Block) c

abbrev pub coroutine_event : CoroutineKind → CaptureBy → ℕ → Event
coroutine_event k c n = event_of (closure (kind.Coroutine k source.Block) c [] [] datum.no_type) [] n

-- an expression of an example, as a body by itself
abbrev pub stored_in : Example → ℕ → StoreBody
stored_in x n = stored_body (only x.nodes) (from x.nodes) (id n)

abbrev pub stored_in_patterned : PatternExample → ℕ → StoreBody
stored_in_patterned x n = stored_body (patterns_in x) (map_of_patterns x) (id n)

-- the body inside does this as it is written, and so does the stored one
pub record BothDoInside (b : InnerBody) (s : StoreBody) (fuel : ℕ) (answers : Oracle) (es : List Event) (end : Ending) : Type 0 where
  pub written : Does (written_inner b) fuel answers es end
  pub stored : Does s fuel answers es end

-- `async { 1 }`

abbrev pub coroutine_of_one : CoroutineKind → Bool → CaptureBy → Option BlockId → Example
coroutine_of_one k moves c block = record {
  written = tree.some_expr (coroutine_at 0 k moves block (literal_at 1 one));
  nodes = (stored_one, Some 1)
      ∷ (hir.Block false None block [] (Some (id 0)), None)
      ∷ (stored_coroutine k c 1, Some 0)
      ∷ [];
  root = 2;
}

abbrev pub without_number : CoroutineKind → Example
without_number k = coroutine_of_one k false capture.Ref None

-- It is one event, which says of which kind it is and whether it moves. What is in it is a body inside, whose run is its own.
abbrev pub MakesACoroutine : Type 0
MakesACoroutine = (k : CoroutineKind)
    → BothDo (without_number k) 0 (no 11 ∷ []) (coroutine_event k capture.Ref 0 ∷ []) (ended (reply 11))
    × BothDo (coroutine_of_one k true capture.Value None) 0 (no 11 ∷ []) (coroutine_event k capture.Value 0 ∷ []) (ended (reply 11))
    × HasBodies (without_number k).written (only (without_number k).nodes) 2 (inside None (literal_at 1 one) ∷ [])
    (by_itself (id 1) ∷ [])
    × BothDoInside (inside None (literal_at 1 one)) (stored_in (without_number k) 1) 0 (no 11 ∷ []) (literal_event one 1 ∷ [])
    (ended (reply 11))

abbrev pub seven : Option BlockId
seven = Some (record { 0 = 7 })

abbrev pub with_number : CoroutineKind → Example
with_number k = coroutine_of_one k false capture.Ref seven

-- With a number its block is entered when it runs, and not where it stands, at no node.
abbrev pub EntersAtNoNode : Type 0
EntersAtNoNode = (k : CoroutineKind)
    → BothDo (with_number k) 0 (no 11 ∷ []) (coroutine_event k capture.Ref 0 ∷ []) (ended (reply 11))
    × HasBodies (with_number k).written (only (with_number k).nodes) 2 (inside seven (literal_at 1 one) ∷ [])
    (by_itself (id 1) ∷ [])
    × BothDoInside (inside seven (literal_at 1 one)) (stored_in (with_number k) 1) 0 (no 11 ∷ no 12 ∷ [])
    (event_at (enter seven false) [] None ∷ literal_event one 1 ∷ []) (ended (reply 12))

-- `|| gen { yield a }`

abbrev pub yield_a : Expr
yield_a = tree.yield_expr (at 3) (tree.some_expr name_a)

abbrev pub gen_of_yield : Expr
gen_of_yield = coroutine_at 2 coroutine.Gen false None yield_a

abbrev pub yield_in_gen : Example
yield_in_gen = record {
  written = tree.some_expr (closure_at 0 gen_of_yield);
  nodes = (stored_a, Some 1)
      ∷ (hir.Yield (Some (id 0)), Some 3)
      ∷ (stored_block None [] 1, None)
      ∷ (stored_coroutine coroutine.Gen capture.Ref 2, Some 2)
      ∷ (stored_plain kind.Closure 3, Some 0)
      ∷ [];
  root = 4;
}

-- The `yield` is the coroutine's own: the closure around it is none that yields.
abbrev pub KeepsItsYield : Type 0
KeepsItsYield =
    BothDo yield_in_gen 0 (no 11 ∷ []) (plain_event kind.Closure 0 ∷ []) (ended (reply 11))
    × HasBodies yield_in_gen.written (only yield_in_gen.nodes) 4 (constant_body (tree.some_expr gen_of_yield) ∷ inside None yield_a ∷ [])
    (by_itself (id 3) ∷ by_itself (id 2) ∷ [])
    × BothDo (record yield_in_gen { written = tree.some_expr gen_of_yield; root = 3 }) 0 (no 11 ∷ [])
    (coroutine_event coroutine.Gen capture.Ref 2 ∷ []) (ended (reply 11))
    × BothDoInside (inside None yield_a) (stored_in yield_in_gen 2) 0 (no 11 ∷ no 12 ∷ [])
    (reads_a ∷ event_of yielding (reply 11 ∷ []) 3 ∷ []) (ended (reply 12))

-- `loop { async { break } }`, and `'a: loop { gen { continue 'a } }`

abbrev pub jump_in_coroutine : CoroutineKind → Option HygieneId → Expr → Stored → Option LabelId → Example
jump_in_coroutine k h jump stored_jump label = record {
  written = tree.some_expr (loop_of 0 h (in_braces 2 None (coroutine_at 3 k false None jump)));
  nodes = (stored_jump, Some 4)
      ∷ (stored_block None [] 0, None)
      ∷ (stored_coroutine k capture.Ref 1, Some 3)
      ∷ (stored_block None [] 2, Some 2)
      ∷ (stored_loop label 3, Some 0)
      ∷ [];
  root = 4;
}

abbrev pub plain_break : Expr
plain_break = tree.break_expr (at 4) None tree.no_expr

abbrev pub break_in_async : Example
break_in_async = jump_in_coroutine coroutine.Async None plain_break (hir.Break None None) None

abbrev pub continue_a : Expr
continue_a = tree.continue_expr (at 4) (Some jump_a)

abbrev pub continue_in_gen : Example
continue_in_gen = jump_in_coroutine coroutine.Gen (Some root) continue_a (hir.Continue None) (Some (number 0))

-- turn after turn
abbrev pub made_twice : CoroutineKind → List Event
made_twice k = coroutine_event k capture.Ref 3 ∷ coroutine_event k capture.Ref 3 ∷ []

-- Neither jump is for the loop: the coroutine is made turn after turn, and by itself what is in it is a stray jump.
abbrev pub StraysFromItsCoroutine : Type 0
StraysFromItsCoroutine =
    BothDo break_in_async 2 (no 11 ∷ no 12 ∷ []) (made_twice coroutine.Async) (left cut)
    × HasBodies break_in_async.written (only break_in_async.nodes) 4 (inside None plain_break ∷ [])
    (by_itself (id 1) ∷ [])
    × BothDoInside (inside None plain_break) (stored_in break_in_async 1) 2 [] [] (stray_break unit)
    × BothDo continue_in_gen 2 (no 11 ∷ no 12 ∷ []) (made_twice coroutine.Gen) (left cut)
    × HasBodies continue_in_gen.written (only continue_in_gen.nodes) 4 (inside None continue_a ∷ [])
    (by_itself (id 1) ∷ [])
    × BothDoInside (inside None continue_a) (stored_in continue_in_gen 1) 2 [] [] stray_continue

-- `try { async { a? } }`, and `try { async move { a? } }`

abbrev pub question_a : Expr
question_a = question_at 3 all_items name_a

abbrev pub question_in_coroutine : Bool → CaptureBy → PatternExample
question_in_coroutine moves c = record {
  written = tree.some_expr (try_of 0 output tree.no_stmts (tree.some_expr (coroutine_at 2 coroutine.Async moves None question_a)));
  nodes = (stored_a, Some 1)
      ∷ (stored_question (record { node = 3; operand = 0; binding = 0; name = 1; conversion = Some (lang 5); leaving = returns })
      ++ (stored_block None [] 8, None)
      ∷ (stored_coroutine coroutine.Async c 9, Some 2)
      ∷ stored_try 0 output 0 [] 10 11);
  pats = question_pats 0;
  bindings = question_bindings 1;
  root = 13;
}

-- the coroutine is made, and the item is called with it
abbrev pub OutputOfCoroutine : Bool → CaptureBy → Type 0
OutputOfCoroutine moves c = BothDoPatterned (question_in_coroutine moves c) (no 11 ∷ no 12 ∷ [])
    (coroutine_event coroutine.Async c 2 ∷ calls_item 6 (reply 11) 0 ∷ []) (ended (reply 12))

-- It goes on to the item of the `try`, and what the `?` brings is returned from the coroutine alone, made of as for a body.
abbrev pub ReturnsFromItsCoroutine : Type 0
ReturnsFromItsCoroutine =
    OutputOfCoroutine false capture.Ref × OutputOfCoroutine true capture.Value
    × HasBodies (question_in_coroutine false capture.Ref).written (patterns_in (question_in_coroutine false capture.Ref)) 13
    (inside None question_a ∷ []) (by_itself (id 9) ∷ [])
    × BothDoInside (inside None question_a) (stored_in_patterned (question_in_coroutine false capture.Ref) 9) 0
    (no 11 ∷ no 12 ∷ no 13 ∷ yes 14 ∷ no 15 ∷ []) (emitted_no 3 (calls_item 5 (reply 14) 3 ∷ [])) (left (returned (reply 15)))
