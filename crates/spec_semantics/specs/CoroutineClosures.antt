-- Small bodies with `async` and `gen` closures, and what they do: such a closure is made with what its parameters are handed to. What makes
-- its coroutine is a body inside, and so is the coroutine, which begins with a prelude that binds the parameters.
use Rattle.std.specs.Prelude.{ℕ, suc, ◌+◌, Bool, false, true, List, [], ◌∷◌, ◌++◌, map, Option, Some, None, option_map}
use Rattle.hir_binding.specs.declared.binding.BindingAnnotation.{BindingAnnotation}
use Rattle.hir_binding.specs.declared.binding.BindingAnnotation.TheVariants.{Unannotated, Mutable, Ref, RefMut}
use Rattle.hir_store.specs.declared.hir.CaptureBy.{CaptureBy}
use Rattle.hir_store.specs.declared.hir.CaptureBy.TheVariants as capture
use Rattle.hir_store.specs.declared.hir.ClosureKind.TheVariants as kind
use Rattle.hir_store.specs.declared.hir.CoroutineKind.{CoroutineKind}
use Rattle.hir_store.specs.declared.hir.CoroutineSource.{CoroutineSource}
use Rattle.hir_store.specs.declared.hir.CoroutineSource.TheVariants as source
use Rattle.hir_store.specs.declared.hir.Expr.{Expr as Stored}
use Rattle.hir_store.specs.declared.hir.Expr.TheVariants as hir
use Rattle.hir_store.specs.declared.hir.Statement.{Statement}
use Rattle.hir_store.specs.declared.hir.Statement.TheVariants as statement
use Rattle.hir_store.specs.declared.ids.CfgId.{CfgId}
use Rattle.hir_store.specs.declared.ids.HygieneId.{HygieneId}
use Rattle.hir_store.specs.declared.name.Name.{Name}
use Rattle.hir_store.specs.declared.name.Name.TheVariants as name
use Rattle.hir_store.specs.declared.pat.Binding.{Binding}
use Rattle.hir_store.specs.declared.pat.Pat.{Pat as StoredPat}
use Rattle.hir_store.specs.declared.pat.Pat.TheVariants as pat
use Rattle.hir_env.specs.ResolvedTree as tree
use Rattle.hir_env.specs.ResolvedTree.{OptionExpr, OptionPat, OptionType, Params, Pat}
use Rattle.spec_data.specs.Data as datum
use Rattle.spec_data.specs.Data.{OptionPatData, OptionTypeData, PatData, PatShape, pat_at}
use Rattle.spec_semantics.specs.Inner.{InnerBody, Inside, by_itself, making_body, prelude_body}
use Rattle.spec_semantics.specs.Limits.{stored_inside}
use Rattle.spec_semantics.specs.Run.{Value, Event, Oracle, reply, argument, bound, closure, cut, event_at, missing, read, unit}
use Rattle.spec_semantics.specs.Same.{Ending, ended, left, stray_break}
use Rattle.spec_semantics.specs.Store.{StoreBody}
use Rattle.spec_semantics.specs.Small.{end_of_temps, at, root, name_at, in_braces, loop_of, id, bare_data, event_of}
use Rattle.spec_semantics.specs.Small.{stored_name, stored_block, stored_loop}
use Rattle.spec_semantics.specs.Patterned.{StoredPats, BothDoFuel, pat_number, binding_number, wild_at, wild_data}
use Rattle.spec_semantics.specs.Typed.{never, never_data, stored_never, type_number}
use Rattle.spec_semantics.specs.Tries.{TypedTry, BothDoTypedTry, typed_in, map_of_typed}
use Rattle.spec_semantics.specs.Questions.{made}
use Rattle.spec_semantics.specs.Constants.{HasBodies}
use Rattle.spec_semantics.specs.Coroutines.{BothDoInside, plain_break}
use Rattle.spec_semantics.specs.Examples.{no}

-- written

-- `async ps e`, or one of another kind, behind which `move` stands or doesn't
abbrev pub coroutine_closure : CoroutineKind → Bool → Params → OptionExpr → OptionExpr
coroutine_closure k moves ps e = tree.some_expr (tree.coroutine_closure_expr (at 0) k moves ps tree.no_type e)

abbrev pub and_param : OptionPat → OptionType → Params → Params
and_param p t ps = tree.more_params (tree.param p t) ps

-- the name of this letter
abbrev pub letter : ℕ → Name
letter c = name.Text (c ∷ [])

abbrev pub named : ℕ → ℕ → HygieneId → BindingAnnotation → OptionPat → Pat
named c n h mode sub = tree.bind_pat (at n) (record { name = letter c; hygiene = h; mode = mode }) tt sub

-- x, which is bound at node 2, and read at node 3
abbrev pub x_named : HygieneId → BindingAnnotation → OptionPat → OptionPat
x_named h mode sub = tree.some_pat (named 120 2 h mode sub)

abbrev pub reads_x : OptionExpr
reads_x = tree.some_expr (name_at 120 3)

-- stored

abbrev pub binding_as : Name → HygieneId → BindingAnnotation → Binding
binding_as n h mode = record { name = n; mode = mode; hygiene = h; problems = None }

abbrev pub made_mut : ℕ → Binding
made_mut n = binding_as (name.Generated n) root Mutable

abbrev pub stored_bind : ℕ → StoredPat
stored_bind b = pat.Bind (binding_number b) None

-- `let p = e`
abbrev pub stored_let : ℕ → ℕ → Statement
stored_let p e = statement.Let (pat_number p) None (Some (id e)) None

-- the coroutine around the block of this number
abbrev pub stored_making : CoroutineKind → CoroutineSource → ℕ → Stored
stored_making k from b = hir.Closure [] [] None (id b) (kind.Coroutine k from) capture.Ref

-- the closure around that, with what its parameters are handed to
abbrev pub stored_closure : CoroutineKind → CaptureBy → List ℕ → List (Option ℕ) → ℕ → Stored
stored_closure k c ps ts n =
    hir.Closure (map pat_number ps) (map (λ t. option_map type_number t) ts) None (id n) (kind.CoroutineClosure k) c

-- the body that this expression is, which is handed the arguments of these parameters
abbrev pub inside_of : ℕ → List ℕ → Inside
inside_of n ps = record { expr = id n; formals = map pat_number ps }

abbrev pub run_inside : TypedTry → Inside → StoreBody
run_inside x i = stored_inside (typed_in x) (map_of_typed x) i

-- what happens

abbrev pub name_data : ℕ → ℕ → HygieneId → BindingAnnotation → OptionPatData → PatData
name_data c n h mode sub = pat_at (Some (at n)) (datum.bind_pattern (letter c) h mode sub)

-- a made name, at this node
abbrev pub made_at : ℕ → PatData
made_at n = pat_at (Some (at n)) datum.generated_pattern

-- where nobody wrote it
abbrev pub reads_at_no_node : ℕ → HygieneId → Event
reads_at_no_node c h = event_at (read (bare_data (letter c)) h) [] None

abbrev pub binds_at : ℕ → PatData → Value → Event
binds_at n p v = event_of (bound p datum.no_type) (v ∷ []) n

-- one event at no node, which captures by reference
abbrev pub making_event : CoroutineKind → CoroutineSource → Event
making_event k from = event_at (closure (kind.Coroutine k from) capture.Ref [] [] datum.no_type) [] None

abbrev pub closure_event : CoroutineKind → CaptureBy → List PatData → List OptionTypeData → Event
closure_event k c ps ts = event_of (closure (kind.CoroutineClosure k) c ps ts datum.no_type) [] 0

-- A closure is this event. Inside it are what makes its coroutine and the coroutine, the block in front of that, which is handed these
-- parameters; and the coroutine, told these answers, makes these events and ends so.
pub record MakesItsCoroutine (x : TypedTry) (k : CoroutineKind) (made : Event) (coroutine : InnerBody) (block : ℕ) (formals : List ℕ)
    (answers : Oracle) (es : List Event) (end : Ending) : Type 0 where
  pub made_once : BothDoTypedTry x (no 11 ∷ []) (made ∷ []) (ended (reply 11))
  pub bodies : HasBodies x.example.written (typed_in x) x.example.root (making_body k source.Closure ∷ coroutine ∷ [])
      (by_itself (id (suc block)) ∷ inside_of block formals ∷ [])
  pub making : BothDoInside (making_body k source.Closure) (run_inside x (by_itself (id (suc block)))) 0 (no 11 ∷ [])
      (making_event k source.Closure ∷ []) (ended (reply 11))
  pub runs : BothDoInside coroutine (run_inside x (inside_of block formals)) 0 answers es end

-- `async |x| x`, also with `mut x`, and with `move`

abbrev pub closure_of_x : CoroutineKind → HygieneId → BindingAnnotation → Bool → CaptureBy → TypedTry
closure_of_x k h mode moves c = record {
  example = record {
    written = coroutine_closure k moves (and_param (x_named h mode tree.no_pat) tree.no_type tree.no_params) reads_x;
    nodes = (hir.Path (stored_name 120) root, Some 3)
        ∷ (hir.Path (stored_name 120) h, None)
        ∷ (stored_block None (stored_let 0 1 ∷ []) 0, None)
        ∷ (stored_making k source.Closure 2, None)
        ∷ (stored_closure k c (1 ∷ []) (None ∷ []) 3, Some 0)
        ∷ [];
    pats = (stored_bind 0, Some 2) ∷ (stored_bind 1, Some 2) ∷ [];
    bindings = binding_as (letter 120) h mode ∷ binding_as (letter 120) h Mutable ∷ [];
    root = 4;
  };
  types = [];
}

-- It is made with a `mut x`. In the coroutine x is read at no node, bound to x as it was written, and read where that is written.
abbrev pub HandsInX : CoroutineKind → HygieneId → BindingAnnotation → Bool → CaptureBy → Type 0
HandsInX k h mode moves c = MakesItsCoroutine (closure_of_x k h mode moves c) k
    (closure_event k c (name_data 120 2 h Mutable datum.no_pattern ∷ []) (datum.no_type ∷ []))
    (prelude_body tree.no_self (x_named h mode tree.no_pat ∷ []) reads_x) 2 (1 ∷ [])
    (no 11 ∷ no 12 ∷ no 13 ∷ no 14 ∷ [])
    (reads_at_no_node 120 h ∷ binds_at 2 (name_data 120 2 h mode datum.no_pattern) (reply 11) ∷ end_of_temps
    ∷ event_of (read (bare_data (letter 120)) root) [] 3 ∷ [])
    (ended (reply 14))

-- Whether it moves is its own, and not its coroutine's.
abbrev pub HandsInByName : Type 0
HandsInByName = (k : CoroutineKind) (h : HygieneId)
    → HandsInX k h Unannotated false capture.Ref × HandsInX k h Unannotated true capture.Value × HandsInX k h Mutable false capture.Ref

-- `async |ref x| x`, also with `ref mut x`, and `async |x @ _| x`

-- of this pattern, which with its parts is stored as these, itself as the one with this number
abbrev pub closure_of_other : CoroutineKind → HygieneId → BindingAnnotation → OptionPat → StoredPats → ℕ → TypedTry
closure_of_other k h mode p ps n = record {
  example = record {
    written = coroutine_closure k false (and_param p tree.no_type tree.no_params) reads_x;
    nodes = (hir.Path (stored_name 120) root, Some 3)
        ∷ (hir.Path (stored_name 120) h, None)
        ∷ (hir.Path (stored_name 120) h, None)
        ∷ (stored_block None (stored_let (1 + n) 1 ∷ stored_let n 2 ∷ []) 0, None)
        ∷ (stored_making k source.Closure 3, None)
        ∷ (stored_closure k capture.Ref ((2 + n) ∷ []) (None ∷ []) 4, Some 0)
        ∷ [];
    pats = ps ++ (stored_bind 1, Some 2) ∷ (stored_bind 2, Some 2) ∷ [];
    bindings = binding_as (letter 120) h mode ∷ binding_as (letter 120) h Mutable ∷ binding_as (letter 120) h Mutable ∷ [];
    root = 5;
  };
  types = [];
}

-- x is bound to `mut x`, where the parameter's pattern stands, and that is read and bound to the pattern.
abbrev pub HandsInOther : CoroutineKind → HygieneId → BindingAnnotation → OptionPat → StoredPats → ℕ → PatData → Type 0
HandsInOther k h mode p ps n data_ = let mut_x = name_data 120 2 h Mutable datum.no_pattern in
    MakesItsCoroutine (closure_of_other k h mode p ps n) k (closure_event k capture.Ref (mut_x ∷ []) (datum.no_type ∷ []))
    (prelude_body tree.no_self (p ∷ []) reads_x) 3 ((2 + n) ∷ []) (no 11 ∷ no 12 ∷ no 13 ∷ no 14 ∷ no 15 ∷ no 16 ∷ no 17 ∷ [])
    (reads_at_no_node 120 h ∷ binds_at 2 mut_x (reply 11) ∷ end_of_temps ∷ reads_at_no_node 120 h ∷ binds_at 2 data_ (reply 14)
    ∷ end_of_temps ∷ event_of (read (bare_data (letter 120)) root) [] 3 ∷ [])
    (ended (reply 17))

abbrev pub HandsInByReference : CoroutineKind → HygieneId → BindingAnnotation → Type 0
HandsInByReference k h mode = HandsInOther k h mode (x_named h mode tree.no_pat) ((stored_bind 0, Some 2) ∷ []) 0
    (name_data 120 2 h mode datum.no_pattern)

abbrev pub HandsInByItsName : Type 0
HandsInByItsName = (k : CoroutineKind) (h : HygieneId)
    → HandsInByReference k h Ref × HandsInByReference k h RefMut
    × HandsInOther k h Unannotated (x_named h Unannotated (wild_at 4))
    ((pat.Wild, Some 4) ∷ (pat.Bind (binding_number 0) (Some (pat_number 0)), Some 2) ∷ []) 1
    (name_data 120 2 h Unannotated (datum.some_pattern (wild_data 4)))

-- `async |(y, z), #[cfg(..)] x, _: !| y`

abbrev pub y_and_z : OptionPat
y_and_z = tree.some_pat (tree.tuple_pat (at 2) false (tree.more_pats (named 121 5 root Unannotated tree.no_pat)
    (tree.more_pats (named 122 6 root Unannotated tree.no_pat) tree.no_pats)))

abbrev pub pair_of : PatData → PatData → PatShape
pair_of p q = datum.tuple_pattern None (datum.more_patterns p (datum.more_patterns q datum.no_patterns))

abbrev pub y_and_z_data : PatData
y_and_z_data = pat_at (Some (at 2))
    (pair_of (name_data 121 5 root Unannotated datum.no_pattern) (name_data 122 6 root Unannotated datum.no_pattern))

abbrev pub with_patterns : CfgId → Params
with_patterns by = and_param y_and_z tree.no_type (tree.more_params (tree.disabled_param (at 8) by
    (tree.param (x_named root Unannotated tree.no_pat) tree.no_type)) (and_param (wild_at 7) never tree.no_params))

abbrev pub reads_y : OptionExpr
reads_y = tree.some_expr (name_at 121 3)

abbrev pub closure_of_patterns : CoroutineKind → CfgId → TypedTry
closure_of_patterns k by = record {
  example = record {
    written = coroutine_closure k false (with_patterns by) reads_y;
    nodes = (hir.Path (stored_name 121) root, Some 3)
        ∷ (made 0, None)
        ∷ (made 0, None)
        ∷ (made 1, None)
        ∷ (made 1, None)
        ∷ (stored_block None (stored_let 4 1 ∷ stored_let 2 2 ∷ stored_let 5 3 ∷ stored_let 3 4 ∷ []) 0, None)
        ∷ (stored_making k source.Closure 5, None)
        ∷ (stored_closure k capture.Ref (6 ∷ 7 ∷ []) (None ∷ Some 0 ∷ []) 6, Some 0)
        ∷ [];
    pats = (stored_bind 0, Some 5)
        ∷ (stored_bind 1, Some 6)
        ∷ (pat.Tuple None (pat_number 0 ∷ pat_number 1 ∷ []), Some 2)
        ∷ (pat.Wild, Some 7)
        ∷ (stored_bind 2, Some 2)
        ∷ (stored_bind 3, Some 7)
        ∷ (stored_bind 4, Some 2)
        ∷ (stored_bind 5, Some 7)
        ∷ [];
    bindings = binding_as (letter 121) root Unannotated
        ∷ binding_as (letter 122) root Unannotated
        ∷ made_mut 0
        ∷ made_mut 1
        ∷ made_mut 0
        ∷ made_mut 1
        ∷ [];
    root = 7;
  };
  types = stored_never;
}

-- It is made with two names that nobody wrote. The pair is bound to the first argument, and what is left of the others to the second: no
-- name is read.
abbrev pub HandsInByGeneratedNames : Type 0
HandsInByGeneratedNames = (k : CoroutineKind) (by : CfgId) → MakesItsCoroutine (closure_of_patterns k by) k
    (closure_event k capture.Ref (made_at 2 ∷ made_at 7 ∷ []) (datum.no_type ∷ datum.some_type never_data ∷ []))
    (prelude_body tree.no_self (y_and_z ∷ wild_at 7 ∷ []) reads_y) 5 (6 ∷ 7 ∷ [])
    (no 11 ∷ no 12 ∷ no 13 ∷ no 14 ∷ no 15 ∷ no 16 ∷ no 17 ∷ [])
    (end_of_temps ∷ binds_at 2 y_and_z_data (argument 0) ∷ end_of_temps
    ∷ end_of_temps ∷ binds_at 7 (wild_data 7) (argument 1) ∷ end_of_temps
    ∷ event_of (read (bare_data (letter 121)) root) [] 3 ∷ [])
    (ended (reply 17))

-- `async |x|` without a body

abbrev pub closure_without_body : CoroutineKind → TypedTry
closure_without_body k = record (closure_of_x k root Unannotated false capture.Ref) {
  example = record (closure_of_x k root Unannotated false capture.Ref).example {
    written = coroutine_closure k false (and_param (x_named root Unannotated tree.no_pat) tree.no_type tree.no_params) tree.no_expr;
    nodes = (hir.Missing, None)
        ∷ (hir.Path (stored_name 120) root, None)
        ∷ (stored_block None (stored_let 0 1 ∷ []) 0, None)
        ∷ (stored_making k source.Closure 2, None)
        ∷ (stored_closure k capture.Ref (1 ∷ []) (None ∷ []) 3, Some 0)
        ∷ [];
  };
}

-- Behind its prelude the coroutine ends as missing.
abbrev pub MissesItsBody : Type 0
MissesItsBody = (k : CoroutineKind) → MakesItsCoroutine (closure_without_body k) k
    (closure_event k capture.Ref (name_data 120 2 root Mutable datum.no_pattern ∷ []) (datum.no_type ∷ []))
    (prelude_body tree.no_self (x_named root Unannotated tree.no_pat ∷ []) tree.no_expr) 2 (1 ∷ []) (no 11 ∷ no 12 ∷ [])
    (reads_at_no_node 120 root ∷ binds_at 2 (name_data 120 2 root Unannotated datum.no_pattern) (reply 11) ∷ end_of_temps ∷ [])
    (left missing)

-- `loop { async || break }`

abbrev pub break_in_closure : CoroutineKind → TypedTry
break_in_closure k = record {
  example = record {
    written = tree.some_expr (loop_of 1 None (in_braces 2 None
        (tree.coroutine_closure_expr (at 0) k false tree.no_params tree.no_type (tree.some_expr plain_break))));
    nodes = (hir.Break None None, Some 4)
        ∷ (stored_block None [] 0, None)
        ∷ (stored_making k source.Closure 1, None)
        ∷ (stored_closure k capture.Ref [] [] 2, Some 0)
        ∷ (stored_block None [] 3, Some 2)
        ∷ (stored_loop None 4, Some 1)
        ∷ [];
    pats = [];
    bindings = [];
    root = 5;
  };
  types = [];
}

-- without parameters
abbrev pub break_inside : InnerBody
break_inside = prelude_body tree.no_self [] (tree.some_expr plain_break)

-- The break is none for the loop: the closure is made turn after turn, and by itself the coroutine is a stray break.
abbrev pub StraysFromItsCoroutineClosure : Type 0
StraysFromItsCoroutineClosure = (k : CoroutineKind) → let x = break_in_closure k in
    BothDoFuel x.example 2 (no 11 ∷ no 12 ∷ []) (closure_event k capture.Ref [] [] ∷ closure_event k capture.Ref [] [] ∷ []) (left cut)
    × HasBodies x.example.written (typed_in x) 5 (making_body k source.Closure ∷ break_inside ∷ [])
    (by_itself (id 2) ∷ inside_of 1 [] ∷ [])
    × BothDoInside (making_body k source.Closure) (run_inside x (by_itself (id 2))) 2 (no 11 ∷ []) (making_event k source.Closure ∷ [])
    (ended (reply 11))
    × BothDoInside break_inside (run_inside x (inside_of 1 [])) 2 [] [] (stray_break unit)
