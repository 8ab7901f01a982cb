-- Worked lists of the bodies inside types, paths and expressions.
use Rattle.std.specs.Prelude.{◌≡◌, codes, true, false, List, [], ◌∷◌, map, Option, Some, None}
use Rattle.hir_syntax.specs.declared.ast.Literal.{Literal}
use Rattle.hir_store.specs.Generics.{of_args}
use Rattle.hir_store.specs.Pointers.{Pointer}
use Rattle.hir_store.specs.declared.hir.CoroutineKind.{CoroutineKind}
use Rattle.hir_store.specs.declared.hir.Expr.TheVariants as hir
use Rattle.hir_store.specs.declared.ids.BlockId.{BlockId}
use Rattle.hir_store.specs.declared.ids.ExprId.{ExprId}
use Rattle.hir_store.specs.declared.ids.LangItemId.{LangItemId}
use Rattle.hir_store.specs.declared.name.Name.{Name}
use Rattle.hir_store.specs.declared.name.Name.TheVariants as name
use Rattle.hir_store.specs.declared.path.GenericArg.TheVariants as arg
use Rattle.hir_store.specs.declared.path.GenericArgsParentheses.TheVariants as parens
use Rattle.hir_store.specs.declared.type_ref.TypeRef.TheVariants as ty
use Rattle.hir_env.specs.ResolvedTree as tree
use Rattle.hir_env.specs.ResolvedTree.{Type_, OptionType, OptionExpr, OptionPat, OptionPath, OptionArgs, Arg, FnHead, SegmentArgs, Segment}
use Rattle.hir_env.specs.ResolvedTree.{Signed, QuestionItems, Stmts}
use Rattle.spec_semantics.specs.Inner.{Bodies, InnerBody, constant_body, coroutine_body, limit_body, bodies_in, by_itself, inner_bodies}
use Rattle.spec_semantics.specs.Inner.{path_bodies, pat_part_bodies, type_bodies}
use Rattle.spec_semantics.specs.Small.{id, literal_at, name_at, one, two, stored_one, stored_two}
use Rattle.spec_semantics.specs.Small.{at as node}
use Rattle.spec_semantics.specs.Forms.{name_a, stored_a, name_m}
use Rattle.spec_semantics.specs.Typed.{StoredTypes, TypedExample, store_with, type_number}

abbrev pub constants : List OptionExpr → Bodies
constants es = map constant_body es

abbrev pub body : Pointer → Literal → OptionExpr
body at l = tree.some_expr (tree.literal_expr at l)

-- `[T; e]`
abbrev pub array : Pointer → Type_ → OptionExpr → Type_
array at t e = tree.array_type at (tree.constant e) (tree.some_type t)

abbrev pub never : Pointer → Type_
never at = tree.leaf_type at tree.never_leaf

-- `[!; e]`
abbrev pub never_array : Pointer → OptionExpr → OptionType
never_array at e = tree.some_type (array at (never at) e)

-- `e as [!; l]`
abbrev pub cast_to : Pointer → OptionExpr → OptionExpr → OptionExpr
cast_to at e l = tree.some_expr (tree.cast_expr at e (never_array at l))

-- `<a>`, and `<{e}>`
abbrev pub just : Arg → OptionArgs
just a = tree.some_arg_list (tree.more_args a tree.no_args)

abbrev pub constant : OptionExpr → Arg
constant e = tree.const_arg (tree.constant e)

-- behind a name
abbrev pub with_list : OptionArgs → SegmentArgs
with_list as' = tree.segment_args as' tree.no_parens false

abbrev pub with_array : Pointer → OptionExpr → SegmentArgs
with_array at e = with_list (just (tree.type_arg (never_array at e)))

abbrev pub a_name : SegmentArgs → Segment
a_name as' = tree.name_segment (name.Text (codes "A")) tt as'

abbrev pub plain : SegmentArgs
plain = with_list tree.no_arg_list

-- `A` with these arguments, and behind it another segment
abbrev pub one_segment : SegmentArgs → OptionPath
one_segment as' = tree.some_path (tree.path None false (a_name as') tree.no_segments tree.no_path)

abbrev pub then_another : SegmentArgs → Segment → OptionPath
then_another as' s = tree.some_path (tree.path None false (a_name as') (tree.more_segments s tree.no_segments) tree.no_path)

-- `<[!; e] as A>`, and behind it another segment or none
abbrev pub in_trait : Pointer → OptionExpr → OptionPath
in_trait at e =
    tree.some_path (tree.path None false (tree.trait_segment (array at (never at) e) at (one_segment plain)) tree.no_segments tree.no_path)

abbrev pub in_trait_then : Pointer → OptionExpr → OptionPath
in_trait_then at e = tree.some_path (tree.path None false (tree.trait_segment (array at (never at) e) at (one_segment plain))
    (tree.more_segments (a_name plain) tree.no_segments) tree.no_path)

-- `[[!; a]; b]`, `[!; a as [!; b]]` and `fn([!; a]) -> [!; b]`
abbrev pub TypesInOrder : Type 0
TypesInOrder = (at : Pointer) (a b : Literal) (head : FnHead)
    → (type_bodies (array at (array at (never at) (body at a)) (body at b)) ≡ constants (body at a ∷ body at b ∷ []))
    × (type_bodies (array at (never at) (cast_to at (body at a) (body at b)))
    ≡ constants (cast_to at (body at a) (body at b) ∷ body at b ∷ []))
    × (type_bodies (tree.fn_type at head (tree.more_parts (never_array at (body at a)) tree.no_parts) (never_array at (body at b)))
    ≡ constants (body at a ∷ body at b ∷ []))

-- `([!; a]) -> [!; b]` behind a name
abbrev pub with_parens : Pointer → OptionExpr → OptionExpr → SegmentArgs
with_parens at a b = tree.segment_args tree.no_arg_list
    (tree.some_parens (tree.more_parts (never_array at a) tree.no_parts) (tree.some_ret (never_array at b))) false

-- `<B<{a}> = [!; b]: A<{c}>, {d}>`
abbrev pub bound_first : Pointer → OptionExpr → OptionExpr → OptionExpr → OptionExpr → OptionArgs
bound_first at a b c d =
    let bound = tree.path_bound at (one_segment (with_list (just (constant c)))) false [] in
    let binding = tree.assoc_arg (name.Text (codes "B")) (just (constant a)) false (never_array at b)
    (tree.more_bounds bound tree.no_bounds) in
    tree.some_arg_list (tree.more_args binding (tree.more_args (constant d) tree.no_args))

-- `A<[!; a]>`, `A<[!; a]>::crate`, `<[!; a] as A>`, `<[!; a] as A>::A`, `A([!; a]) -> [!; b]` and
-- `A<B<{a}> = [!; b]: A<{c}>, {d}>`
abbrev pub PathsInOrder : Type 0
PathsInOrder = (at : Pointer) (a b c d : Literal)
    → (path_bodies (one_segment (with_array at (body at a))) ≡ constants (body at a ∷ []))
    × (path_bodies (then_another (with_array at (body at a)) tree.crate_segment) ≡ [])
    × (path_bodies (in_trait at (body at a)) ≡ [])
    × (path_bodies (in_trait_then at (body at a)) ≡ constants (body at a ∷ []))
    × (path_bodies (one_segment (with_parens at (body at a) (body at b))) ≡ constants (body at a ∷ body at b ∷ []))
    × (path_bodies (one_segment (with_list (bound_first at (body at a) (body at b) (body at c) (body at d))))
    ≡ constants (body at d ∷ body at a ∷ body at b ∷ body at c ∷ []))

-- `e.n::<{a}>(f as [!; b])`
abbrev pub method_of : Pointer → Name → OptionExpr → OptionExpr → OptionExpr → OptionExpr → OptionExpr
method_of at n e a f b = tree.some_expr (tree.method_call_expr at e n
    (tree.more_exprs (tree.cast_expr at f (never_array at b)) tree.no_exprs) (just (constant a)))

-- `A::<{a}> { n: e as [!; b] }`
abbrev pub record_of : Pointer → Name → OptionExpr → OptionExpr → OptionExpr → OptionExpr
record_of at n a e b = tree.some_expr (tree.record_expr at (one_segment (with_list (just (constant a))))
    (record { has_list = true; has_dots = false })
    (tree.more_fields (tree.named_field at n (cast_to at e b)) tree.no_fields) tree.no_spread)

-- `(e as [!; a])?`, and `try bikeshed [!; a] { e as [!; b] }`
abbrev pub question_of : Pointer → QuestionItems → OptionExpr → OptionExpr → OptionExpr
question_of at items e a = tree.some_expr (tree.question_expr at items (cast_to at e a))

abbrev pub typed_try_of : Pointer → OptionExpr → OptionExpr → OptionExpr → OptionExpr
typed_try_of at a e b = tree.some_expr (tree.try_expr at None (never_array at a) None tree.no_stmts (cast_to at e b))

-- `[l as [!; a]; l as [!; b]]`, and `const { l as [!; a] }`
abbrev pub repeat_of : Pointer → OptionExpr → OptionExpr → OptionExpr → OptionExpr
repeat_of at l a b = tree.some_expr (tree.repeat_expr at (cast_to at l a) (tree.constant (cast_to at l b)))

abbrev pub block_of : Pointer → OptionExpr → OptionExpr → OptionExpr
block_of at l a = tree.some_expr (tree.block_expr (tree.block at false None tt None tree.no_stmts (cast_to at l a)))

abbrev pub const_of : Pointer → OptionExpr → OptionExpr → OptionExpr
const_of at l a = tree.some_expr (tree.const_expr at (tree.constant (block_of at l a)))

-- `|A::<{a}>: [!; b], _: [!; c]| -> [!; d] e`
abbrev pub closure_with : Pointer → OptionExpr → OptionExpr → OptionExpr → OptionExpr → OptionExpr → OptionExpr
closure_with at a b c d e =
    let named = tree.some_pat (tree.path_pat at (one_segment (with_list (just (constant a))))) in
    let wild = tree.some_pat (tree.leaf_pat at tree.wild_leaf) in
    tree.some_expr (tree.closure_expr at false false
    (tree.more_params (tree.param named (never_array at b)) (tree.more_params (tree.param wild (never_array at c)) tree.no_params))
    (never_array at d) e)

-- `async { l as [!; a]; l as [!; b] }`, of any kind, and what is in it
abbrev pub cast_first : Pointer → OptionExpr → OptionExpr → Stmts
cast_first at l a = tree.more_stmts (tree.expr_stmt (cast_to at l a) true) tree.no_stmts

abbrev pub coroutine_with : Pointer → CoroutineKind → Option BlockId → OptionExpr → OptionExpr → OptionExpr → OptionExpr
coroutine_with at k block l a b = tree.some_expr (tree.coroutine_expr at k false block (cast_first at l a) (cast_to at l b))

abbrev pub coroutine_inside : Pointer → Option BlockId → OptionExpr → OptionExpr → OptionExpr → InnerBody
coroutine_inside at block l a b = coroutine_body block (cast_first at l a) (cast_to at l b)

abbrev pub ExprsInOrder : Type 0
ExprsInOrder = (at : Pointer) (a b e f : Literal) (n : Name) (items : QuestionItems) (k : CoroutineKind) (block : Option BlockId)
    → (bodies_in (method_of at n (body at e) (body at a) (body at f) (body at b)) ≡ constants (body at a ∷ body at b ∷ []))
    × (bodies_in (record_of at n (body at a) (body at e) (body at b)) ≡ constants (body at a ∷ body at b ∷ []))
    × (bodies_in (question_of at items (body at e) (body at a)) ≡ constants (body at a ∷ []))
    × (bodies_in (typed_try_of at (body at a) (body at e) (body at b)) ≡ constants (body at a ∷ body at b ∷ []))
    × (bodies_in (repeat_of at (body at e) (body at a) (body at b))
    ≡ constants (body at a ∷ cast_to at (body at e) (body at b) ∷ body at b ∷ []))
    × (bodies_in (const_of at (body at e) (body at a)) ≡ constants (block_of at (body at e) (body at a) ∷ body at a ∷ []))
    × (bodies_in (closure_with at (body at a) (body at b) (body at e) (body at f) (cast_to at (body at a) (body at b)))
    ≡ constants (body at a ∷ body at b ∷ body at e ∷ body at f ∷ cast_to at (body at a) (body at b) ∷ body at b ∷ []))
    × (bodies_in (coroutine_with at k block (body at e) (body at a) (body at b))
    ≡ coroutine_inside at block (body at e) (body at a) (body at b) ∷ constants (body at a ∷ body at b ∷ []))

-- `A::<{a}>(..)` with a part `A::<{b}>`, and the same behind a path that is refused
abbrev pub call_of : Pointer → OptionPath → OptionExpr → OptionPat
call_of at p b = tree.some_pat (tree.tuple_struct_pat at p false
    (tree.more_pats (tree.path_pat at (one_segment (with_list (just (constant b))))) tree.no_pats))

-- `match l { p if l as [!; a] => l as [!; b] }`
abbrev pub match_of : Pointer → OptionExpr → OptionPat → OptionExpr → OptionExpr → OptionExpr
match_of at l p a b = tree.some_expr (tree.match_expr at l
    (tree.more_arms (tree.arm p (cast_to at l b) (tree.guard (cast_to at l a))) tree.no_arms))

-- `[!; a] is ..l`
abbrev pub limited_type : Pointer → OptionExpr → LangItemId → Signed → Type_
limited_type at a i l = tree.pattern_type at (never_array at a) tree.no_pat
    (tree.some_type_pat (tree.range_type_pat at (tree.item_limit (Some i)) (tree.before_limit None (tree.literal_side at l))))

-- `l as [!; a] = l as [!; b]`
abbrev pub assigned_of : Pointer → Literal → OptionExpr → OptionExpr → OptionExpr
assigned_of at l a b = tree.some_expr (tree.assign_expr at tree.no_expr
    (tree.place_target at (tree.cast_expr at (body at l) (never_array at a))) (cast_to at (body at l) b))

-- `for p in h { b }`, of items that are all this one
abbrev pub for_over : Pointer → LangItemId → OptionPat → OptionExpr → OptionExpr → OptionExpr
for_over at i p h b =
    tree.some_expr (tree.for_expr at (record { into_iter = i; next = i; gives = i; is_done = i }) None tt p h b)

-- An arm has those of its pattern, of its guard and of its body, a `for` those of its head, of its pattern and of its body, and what is
-- assigned to comes first. In a type both ends of a range are bodies. A range that isn't made has none.
abbrev pub PatternsInOrder : Type 0
PatternsInOrder = (at : Pointer) (a b c d l : Literal) (i : LangItemId)
    → (bodies_in (match_of at (body at l) (call_of at (one_segment (with_list (just (constant (body at a))))) (body at b))
    (body at c) (body at d)) ≡ constants (body at a ∷ body at b ∷ body at c ∷ body at d ∷ []))
    × (pat_part_bodies (call_of at (then_another (with_list (just (constant (body at a)))) tree.crate_segment) (body at b)) ≡ [])
    × (type_bodies (limited_type at (body at a) i (record { minus = true; literal = l }))
    ≡ constant_body (body at a) ∷ limit_body (tree.item_limit (Some i))
    ∷ limit_body (tree.before_limit None (tree.literal_side at (record { minus = true; literal = l }))) ∷ [])
    × (bodies_in (assigned_of at l (body at a) (body at b)) ≡ constants (body at a ∷ body at b ∷ []))
    × (bodies_in (tree.some_expr (tree.range_expr at tree.itemless_range (cast_to at (body at l) (body at a)) tree.no_expr)) ≡ [])
    × (bodies_in (for_over at i (call_of at (one_segment (with_list (just (constant (body at b))))) (body at c))
    (cast_to at (body at l) (body at a)) (cast_to at (body at l) (body at d)))
    ≡ constants (body at a ∷ body at b ∷ body at c ∷ body at d ∷ []))

-- as they are written and as they are stored
pub record BothList (x : TypedExample) (es : List OptionExpr) (is : List ExprId) : Type 0 where
  pub written : bodies_in x.written ≡ constants es
  pub stored : inner_bodies (store_with x) (id x.root) ≡ map by_itself is

-- `1 as [!; 2]`, whose length is stored before what the array is of

abbrev pub stored_nevers : ExprId → StoredTypes
stored_nevers length =
    (ty.Never, Some 3) ∷ (ty.Array (record { ty = type_number 0; len = record { expr = length } }), Some 2) ∷ []

abbrev pub nevers_of_two : OptionType
nevers_of_two = tree.some_type (array (node 2) (never (node 3)) (tree.some_expr (literal_at 4 two)))

abbrev pub cast_to_nevers : TypedExample
cast_to_nevers = record {
  written = tree.some_expr (tree.cast_expr (node 0) (tree.some_expr (literal_at 1 one)) nevers_of_two);
  nodes = (stored_one, Some 1) ∷ (stored_two, Some 4) ∷ (hir.Cast (id 0) (type_number 1), Some 0) ∷ [];
  types = stored_nevers (id 1);
  root = 2;
}

-- `a.m::<{1}>(a as [!; 2])`, whose constant is stored behind the argument

abbrev pub constant_of_method : TypedExample
constant_of_method = record {
  written = tree.some_expr (tree.method_call_expr (node 0) (tree.some_expr name_a) name_m
      (tree.more_exprs (tree.cast_expr (node 5) (tree.some_expr (name_at 97 6)) nevers_of_two) tree.no_exprs)
      (just (constant (tree.some_expr (literal_at 7 one)))));
  nodes = (stored_a, Some 1)
      ∷ (stored_a, Some 6)
      ∷ (stored_two, Some 4)
      ∷ (hir.Cast (id 1) (type_number 1), Some 5)
      ∷ (stored_one, Some 7)
      ∷ (hir.MethodCall (id 0) name_m (Some (of_args (arg.Const (record { expr = id 4 }) ∷ []) false [] parens.No)) (id 3 ∷ []), Some 0)
      ∷ [];
  types = stored_nevers (id 2);
  root = 5;
}

abbrev pub StoredInOrder : Type 0
StoredInOrder =
    BothList cast_to_nevers (tree.some_expr (literal_at 4 two) ∷ []) (id 1 ∷ [])
    × BothList constant_of_method (tree.some_expr (literal_at 7 one) ∷ tree.some_expr (literal_at 4 two) ∷ []) (id 4 ∷ id 2 ∷ [])
