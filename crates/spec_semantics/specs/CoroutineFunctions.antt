-- A small body of a function with `async` or `gen`, and lists of the bodies inside such functions and closures: what the patterns of their
-- parameters hold is inside of the coroutine, where it is bound.
use Rattle.std.specs.Prelude.{◌≡◌, ℕ, codes, false, List, [], ◌∷◌, ◌++◌, map, Some, None}
use Rattle.hir_binding.specs.declared.binding.BindingAnnotation.{BindingAnnotation}
use Rattle.hir_binding.specs.declared.binding.BindingAnnotation.TheVariants.{Unannotated, Mutable}
use Rattle.hir_syntax.specs.declared.ast.Literal.{Literal}
use Rattle.hir_store.specs.Stored.{Store}
use Rattle.hir_store.specs.declared.hir.CaptureBy.TheVariants as capture
use Rattle.hir_store.specs.declared.hir.ClosureKind.TheVariants as kind
use Rattle.hir_store.specs.declared.hir.CoroutineKind.{CoroutineKind}
use Rattle.hir_store.specs.declared.hir.CoroutineSource.{CoroutineSource}
use Rattle.hir_store.specs.declared.hir.CoroutineSource.TheVariants as source
use Rattle.hir_store.specs.declared.hir.Expr.TheVariants as hir
use Rattle.hir_store.specs.declared.ids.HygieneId.{HygieneId}
use Rattle.hir_store.specs.declared.name.Name.{Name}
use Rattle.hir_store.specs.declared.name.Name.TheVariants as name
use Rattle.hir_store.specs.declared.pat.Pat.{Pat as StoredPat}
use Rattle.hir_store.specs.declared.pat.Pat.TheVariants as pat
use Rattle.hir_store.specs.declared.path.Path.TheVariants.{BarePath, Normal}
use Rattle.hir_store.specs.declared.path.PathKind.TheVariants.{Plain}
use Rattle.hir_store.specs.declared.type_ref.TypeRef.TheVariants as ty
use Rattle.hir_env.specs.ResolvedTree as tree
use Rattle.hir_env.specs.ResolvedTree.{OptionExpr, OptionPat, SelfFormal}
use Rattle.spec_data.specs.Data as datum
use Rattle.spec_data.specs.Tops.{Tops}
use Rattle.spec_semantics.specs.Inner.{Bodies, InnerBody, Inside, by_itself, constant_body, function_bodies, handed_to, inner_bodies}
use Rattle.spec_semantics.specs.Inner.{making_body, prelude_body}
use Rattle.spec_semantics.specs.InnerRows.{a_name, array, cast_to, never, never_array, plain}
use Rattle.spec_semantics.specs.Run.{reply, argument, bound, event_at, read, unit}
use Rattle.spec_semantics.specs.Same.{ended}
use Rattle.spec_semantics.specs.Small.{end_of_temps, at, root, one, two, literal_at, id, bare_data, stored_one, stored_two, stored_block}
use Rattle.spec_semantics.specs.Small.{stored_name}
use Rattle.spec_semantics.specs.Patterned.{pat_number}
use Rattle.spec_semantics.specs.Typed.{StoredTypes, type_number}
use Rattle.spec_semantics.specs.Tries.{TypedTry, typed_in}
use Rattle.spec_semantics.specs.Questions.{made}
use Rattle.spec_semantics.specs.Constants.{HasBodies}
use Rattle.spec_semantics.specs.Coroutines.{BothDoInside}
use Rattle.spec_semantics.specs.CoroutineClosures.{and_param, binding_as, binds_at, inside_of, letter, made_mut, making_event, name_data}
use Rattle.spec_semantics.specs.CoroutineClosures.{named}
use Rattle.spec_semantics.specs.CoroutineClosures.{reads_at_no_node, run_inside, stored_bind, stored_let, stored_making, y_and_z}
use Rattle.spec_semantics.specs.CoroutineClosures.{y_and_z_data}
use Rattle.spec_semantics.specs.Examples.{no}

-- `async fn f(self, x: A, (y, z): B) {}`, also with `mut self`

abbrev pub self_name : Name
self_name = name.Text (codes "self")

abbrev pub self_at : BindingAnnotation → HygieneId → SelfFormal
self_at mode h = tree.self_formal (at 1) (record { name = self_name; hygiene = h; mode = mode }) tt

-- the pair stands at node 2, so x does at another
abbrev pub x_first : Tops
x_first = tree.some_pat (named 120 4 root Unannotated tree.no_pat) ∷ y_and_z ∷ []

abbrev pub empty_body : OptionExpr
empty_body = tree.some_expr (tree.block_expr (tree.block (at 3) false None tt None tree.no_stmts tree.no_expr))

abbrev pub function_of_three : CoroutineKind → BindingAnnotation → HygieneId → TypedTry
function_of_three k mode h = record {
  example = record {
    written = empty_body;
    nodes = (hir.Block false None None [] None, Some 3)
        ∷ (hir.Path (BarePath (record { kind = Plain; segments = self_name ∷ [] })) h, None)
        ∷ (hir.Path (stored_name 120) root, None)
        ∷ (made 0, None)
        ∷ (made 0, None)
        ∷ (stored_block None (stored_let 4 1 ∷ stored_let 0 2 ∷ stored_let 5 3 ∷ stored_let 3 4 ∷ []) 0, None)
        ∷ (stored_making k source.Fn 5, None)
        ∷ [];
    pats = (stored_bind 1, Some 4)
        ∷ (stored_bind 2, Some 5)
        ∷ (stored_bind 3, Some 6)
        ∷ (pat.Tuple None (pat_number 1 ∷ pat_number 2 ∷ []), Some 2)
        ∷ (stored_bind 4, None)
        ∷ (stored_bind 5, Some 2)
        ∷ (stored_bind 6, Some 4)
        ∷ (stored_bind 7, Some 2)
        ∷ [];
    bindings = binding_as self_name h mode
        ∷ binding_as (letter 120) root Unannotated
        ∷ binding_as (letter 121) root Unannotated
        ∷ binding_as (letter 122) root Unannotated
        ∷ binding_as self_name h mode
        ∷ made_mut 0
        ∷ binding_as (letter 120) root Mutable
        ∷ made_mut 0
        ∷ [];
    root = 6;
  };
  types = [];
}

-- The bodies inside a function, as it is written and as it is stored, are these.
pub record FunctionHas (store : Store) (number : ℕ) (self : SelfFormal) (ps : Tops) (e : OptionExpr) (formals : List ℕ) (bs : Bodies)
    (xs : List Inside) : Type 0 where
  pub listed : function_bodies self ps e ≡ bs
  pub stored : handed_to (map pat_number formals) (inner_bodies store (id number)) ≡ xs

-- Its own run makes the coroutine, which is inside. That binds `self` to itself at no node, then x to itself, and then the pair to the
-- second argument: `self` isn't counted.
abbrev pub HandsInInOrder : Type 0
HandsInInOrder = (k : CoroutineKind) (mode : BindingAnnotation) (h : HygieneId) → let x = function_of_three k mode h in
    BothDoInside (making_body k source.Fn) (run_inside x (by_itself (id 6))) 0 (no 11 ∷ []) (making_event k source.Fn ∷ [])
    (ended (reply 11))
    × FunctionHas (typed_in x) 6 (self_at mode h) x_first empty_body (6 ∷ 7 ∷ []) (prelude_body (self_at mode h) x_first empty_body ∷ [])
    (inside_of 5 (6 ∷ 7 ∷ []) ∷ [])
    × BothDoInside (prelude_body (self_at mode h) x_first empty_body) (run_inside x (inside_of 5 (6 ∷ 7 ∷ []))) 0
    (no 11 ∷ no 12 ∷ no 13 ∷ no 14 ∷ no 15 ∷ no 16 ∷ no 17 ∷ no 18 ∷ no 19 ∷ [])
    (event_at (read (bare_data self_name) h) [] None
    ∷ event_at (bound (datum.pat_at None (datum.bind_pattern self_name h mode datum.no_pattern)) datum.no_type) (reply 11 ∷ []) None
    ∷ end_of_temps ∷ reads_at_no_node 120 root ∷ binds_at 4 (name_data 120 4 root Unannotated datum.no_pattern) (reply 14)
    ∷ end_of_temps ∷ end_of_temps ∷ binds_at 2 y_and_z_data (argument 1) ∷ end_of_temps ∷ [])
    (ended unit)

-- `async |<[!; 1]>::A: [!; 2]| -> [!; 1] 1 as [!; 2]`, and a function with that parameter and that body

abbrev pub with_constant : OptionPat
with_constant = tree.some_pat (tree.path_pat (at 2) (tree.some_path
    (tree.path None false (tree.type_segment (array (at 3) (never (at 4)) (tree.some_expr (literal_at 5 one))))
    (tree.more_segments (a_name plain) tree.no_segments) tree.no_path)))

abbrev pub cast_of_one : OptionExpr
cast_of_one = cast_to (at 10) (tree.some_expr (literal_at 11 one)) (tree.some_expr (literal_at 12 two))

-- `[!; e]` at this node, of a never at this one, behind this many types
abbrev pub stored_array : ℕ → ℕ → ℕ → ℕ → StoredTypes
stored_array at_array at_never n e =
    (ty.Never, Some at_never) ∷ (ty.Array (record { ty = type_number n; len = record { expr = id e } }), Some at_array) ∷ []

abbrev pub stored_path_pat : StoredPat
stored_path_pat = pat.Path (Normal (record {
  type_anchor = Some (type_number 1);
  mod_path = record { kind = Plain; segments = letter 65 ∷ [] };
  generic_args = None ∷ [];
})) root

-- the coroutine, and behind it the closure
abbrev pub closure_with_constants : CoroutineKind → CoroutineSource → ℕ → TypedTry
closure_with_constants k from n = record {
  example = record {
    written = tree.some_expr (tree.coroutine_closure_expr (at 0) k false
        (and_param with_constant (never_array (at 6) (tree.some_expr (literal_at 7 two))) tree.no_params)
        (never_array (at 8) (tree.some_expr (literal_at 9 one))) cast_of_one);
    nodes = (stored_one, Some 5)
        ∷ (stored_two, Some 7)
        ∷ (stored_one, Some 9)
        ∷ (stored_one, Some 11)
        ∷ (stored_two, Some 12)
        ∷ (hir.Cast (id 3) (type_number 7), Some 10)
        ∷ (made 0, None)
        ∷ (made 0, None)
        ∷ (stored_block None (stored_let 1 6 ∷ stored_let 0 7 ∷ []) 5, None)
        ∷ (stored_making k from 8, None)
        ∷ (
          hir.Closure (pat_number 2 ∷ []) (Some (type_number 3) ∷ []) (Some (type_number 5)) (id 9) (kind.CoroutineClosure k) capture.Ref,
          Some 0,
        )
        ∷ [];
    pats = (stored_path_pat, Some 2) ∷ (stored_bind 0, Some 2) ∷ (stored_bind 1, Some 2) ∷ [];
    bindings = made_mut 0 ∷ made_mut 0 ∷ [];
    root = n;
  };
  types = stored_array 3 4 0 0 ++ (stored_array 6 6 2 1 ++ (stored_array 8 8 4 2 ++ stored_array 10 10 6 4));
}

abbrev pub length_of : ℕ → Literal → InnerBody
length_of n l = constant_body (tree.some_expr (literal_at n l))

-- What makes the coroutine, then the lengths in the types of the parameter and of what is returned, then the coroutine with what is in the
-- pattern and in the body. Where a function has that parameter and that body, its coroutine stands alone in front of these.
abbrev pub KeepsConstantsInItsCoroutine : Type 0
KeepsConstantsInItsCoroutine = (k : CoroutineKind) → let inside = prelude_body tree.no_self (with_constant ∷ []) cast_of_one in
    HasBodies (closure_with_constants k source.Closure 10).example.written (typed_in (closure_with_constants k source.Closure 10)) 10
    (making_body k source.Closure ∷ length_of 7 two ∷ length_of 9 one ∷ inside ∷ length_of 5 one ∷ length_of 12 two ∷ [])
    (by_itself (id 9) ∷ by_itself (id 1) ∷ by_itself (id 2) ∷ inside_of 8 (2 ∷ []) ∷ by_itself (id 0) ∷ by_itself (id 4) ∷ [])
    × FunctionHas (typed_in (closure_with_constants k source.Fn 9)) 9 tree.no_self (with_constant ∷ []) cast_of_one (2 ∷ [])
    (inside ∷ length_of 5 one ∷ length_of 12 two ∷ []) (inside_of 8 (2 ∷ []) ∷ by_itself (id 0) ∷ by_itself (id 4) ∷ [])
