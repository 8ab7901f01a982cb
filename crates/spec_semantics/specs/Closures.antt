-- Small bodies with closures, and what they do: what a closure does when it is called is its body, which is a body inside.
use Rattle.std.specs.Prelude.{false, true, ℕ, [], ◌∷◌, ◌++◌, Some, None}
use Rattle.hir_store.specs.declared.hir.CaptureBy.TheVariants as capture
use Rattle.hir_store.specs.declared.hir.ClosureKind.{ClosureKind}
use Rattle.hir_store.specs.declared.hir.ClosureKind.TheVariants as kind
use Rattle.hir_store.specs.declared.hir.Expr.{Expr as Stored}
use Rattle.hir_store.specs.declared.hir.Expr.TheVariants as hir
use Rattle.hir_store.specs.declared.hir.Movability.TheVariants as movability
use Rattle.hir_store.specs.declared.ids.CfgId.{CfgId}
use Rattle.hir_store.specs.declared.pat.Pat.TheVariants as pat
use Rattle.hir_env.specs.ResolvedTree as tree
use Rattle.hir_env.specs.ResolvedTree.{Expr, OptionExpr, Params}
use Rattle.spec_data.specs.Data as datum
use Rattle.spec_semantics.specs.Constants.{HasInside, repeat_of, stored_repeat}
use Rattle.spec_semantics.specs.Run.{Event, reply, closure, cut, unit, yielding}
use Rattle.spec_semantics.specs.Same.{ended, left, stray_break}
use Rattle.spec_semantics.specs.Small.{at, root, one, literal_at, jump_a, in_braces, loop_of, only, id, number}
use Rattle.spec_semantics.specs.Small.{stored_one, stored_block, stored_loop, event_of, literal_event, Example, BothDo}
use Rattle.spec_semantics.specs.Patterned.{wild_at, wild_data, x_at, x_data, stored_x, binding_x, pat_number}
use Rattle.spec_semantics.specs.Tries.{TypedTry, BothDoTypedTry, typed_in}
use Rattle.spec_semantics.specs.Typed.{never, never_data, stored_never, type_number}
use Rattle.spec_semantics.specs.Examples.{no}

-- `|| e`, at this node
abbrev pub closure_at : ℕ → Expr → Expr
closure_at n e = tree.closure_expr (at n) false false tree.no_params tree.no_type (tree.some_expr e)

-- one without parameters, of this body
abbrev pub stored_plain : ClosureKind → ℕ → Stored
stored_plain k body = hir.Closure [] [] None (id body) k capture.Ref

abbrev pub plain_event : ClosureKind → ℕ → Event
plain_event k n = event_of (closure k capture.Ref [] [] datum.no_type) [] n

-- `yield`, at this node
abbrev pub yield_at : ℕ → Expr
yield_at n = tree.yield_expr (at n) tree.no_expr

-- `|_: !, x, #[cfg(..)] x| -> ! 1`

abbrev pub parameters : CfgId → Params
parameters by = tree.more_params (tree.param (wild_at 1) never) (tree.more_params (tree.param (x_at 4) tree.no_type)
    (tree.more_params (tree.disabled_param (at 6) by (tree.param (x_at 7) tree.no_type)) tree.no_params))

abbrev pub body_one : OptionExpr
body_one = tree.some_expr (literal_at 5 one)

abbrev pub with_parameters : CfgId → TypedTry
with_parameters by = record {
  example = record {
    written = tree.some_expr (tree.closure_expr (at 0) false false (parameters by) never body_one);
    nodes = (stored_one, Some 5)
        ∷ (
          hir.Closure (pat_number 0 ∷ pat_number 1 ∷ []) (Some (type_number 0) ∷ None ∷ []) (Some (type_number 1)) (id 0)
              kind.Closure capture.Ref,
          Some 0,
        )
        ∷ [];
    pats = (pat.Wild, Some 1) ∷ (stored_x, Some 4) ∷ [];
    bindings = binding_x ∷ [];
    root = 1;
  };
  types = stored_never ++ stored_never;
}

-- It is one event, with the patterns and the types of its parameters, of which one is disabled, and with what it returns. Its body is a
-- body inside, whose run is its own.
abbrev pub MakesAClosure : Type 0
MakesAClosure = (by : CfgId)
    → BothDoTypedTry (with_parameters by) (no 11 ∷ [])
    (event_of (closure kind.Closure capture.Ref (wild_data 1 ∷ x_data 4 ∷ []) (datum.some_type never_data ∷ datum.no_type ∷ [])
    (datum.some_type never_data)) [] 0 ∷ [])
    (ended (reply 11))
    × HasInside (with_parameters by).example.written (typed_in (with_parameters by)) 1 (body_one ∷ []) (id 0 ∷ [])
    × BothDoTypedTry (record (with_parameters by) { example = record (with_parameters by).example { written = body_one; root = 0 } })
    (no 11 ∷ []) (literal_event one 5 ∷ []) (ended (reply 11))

-- `static move || yield`

abbrev pub old_coroutine : Example
old_coroutine = record {
  written = tree.some_expr (tree.closure_expr (at 0) true true tree.no_params tree.no_type (tree.some_expr (yield_at 1)));
  nodes = (hir.Yield None, Some 1)
      ∷ (hir.Closure [] [] None (id 0) (kind.OldCoroutine movability.Static) capture.Value, Some 0)
      ∷ [];
  root = 1;
}

-- It is an old coroutine, since its body yields, and nothing is yielded by making it.
abbrev pub IsAnOldCoroutine : Type 0
IsAnOldCoroutine =
    BothDo old_coroutine 0 (no 11 ∷ [])
    (event_of (closure (kind.OldCoroutine movability.Static) capture.Value [] [] datum.no_type) [] 0 ∷ []) (ended (reply 11))
    × HasInside old_coroutine.written (only old_coroutine.nodes) 1 (tree.some_expr (yield_at 1) ∷ []) (id 0 ∷ [])
    × BothDo (record old_coroutine { written = tree.some_expr (yield_at 1); root = 0 }) 0 (no 11 ∷ [])
    (event_of yielding (unit ∷ []) 1 ∷ []) (ended (reply 11))

-- `|| || yield`, and `|| [1; yield]`

abbrev pub yield_in_closure : Example
yield_in_closure = record {
  written = tree.some_expr (closure_at 0 (closure_at 1 (yield_at 2)));
  nodes = (hir.Yield None, Some 2)
      ∷ (stored_plain (kind.OldCoroutine movability.Movable) 0, Some 1)
      ∷ (stored_plain kind.Closure 1, Some 0)
      ∷ [];
  root = 2;
}

abbrev pub yield_in_length : Example
yield_in_length = record {
  written = tree.some_expr (closure_at 0 (repeat_of 1 (literal_at 2 one) (yield_at 3)));
  nodes = (stored_one, Some 2)
      ∷ (hir.Yield None, Some 3)
      ∷ (stored_repeat 0 1, Some 1)
      ∷ (stored_plain kind.Closure 2, Some 0)
      ∷ [];
  root = 3;
}

-- One that stands in a body inside is that body's own: the closure around it is none that yields.
abbrev pub CountsNoYieldInside : Type 0
CountsNoYieldInside =
    BothDo yield_in_closure 0 (no 11 ∷ []) (plain_event kind.Closure 0 ∷ []) (ended (reply 11))
    × HasInside yield_in_closure.written (only yield_in_closure.nodes) 2
    (tree.some_expr (closure_at 1 (yield_at 2)) ∷ tree.some_expr (yield_at 2) ∷ []) (id 1 ∷ id 0 ∷ [])
    × BothDo (record yield_in_closure { written = tree.some_expr (closure_at 1 (yield_at 2)); root = 1 }) 0 (no 11 ∷ [])
    (plain_event (kind.OldCoroutine movability.Movable) 1 ∷ []) (ended (reply 11))
    × BothDo yield_in_length 0 (no 11 ∷ []) (plain_event kind.Closure 0 ∷ []) (ended (reply 11))
    × HasInside yield_in_length.written (only yield_in_length.nodes) 3
    (tree.some_expr (repeat_of 1 (literal_at 2 one) (yield_at 3)) ∷ tree.some_expr (yield_at 3) ∷ []) (id 2 ∷ id 1 ∷ [])

-- `'a: loop { || break 'a }`

abbrev pub break_out_of_closure : OptionExpr
break_out_of_closure = tree.some_expr (tree.break_expr (at 4) (Some jump_a) tree.no_expr)

abbrev pub break_in_closure : Example
break_in_closure = record {
  written = tree.some_expr (loop_of 0 (Some root) (in_braces 2 None
      (tree.closure_expr (at 3) false false tree.no_params tree.no_type break_out_of_closure)));
  nodes = (hir.Break None None, Some 4)
      ∷ (stored_plain kind.Closure 0, Some 3)
      ∷ (stored_block None [] 1, Some 2)
      ∷ (stored_loop (Some (number 0)) 2, Some 0)
      ∷ [];
  root = 3;
}

-- The break leaves no loop: the closure is made turn after turn, and its body by itself is a stray break.
abbrev pub StraysFromItsClosure : Type 0
StraysFromItsClosure =
    BothDo break_in_closure 2 (no 11 ∷ no 12 ∷ []) (plain_event kind.Closure 3 ∷ plain_event kind.Closure 3 ∷ []) (left cut)
    × HasInside break_in_closure.written (only break_in_closure.nodes) 3 (break_out_of_closure ∷ []) (id 0 ∷ [])
    × BothDo (record break_in_closure { written = break_out_of_closure; root = 0 }) 2 [] [] (stray_break unit)
