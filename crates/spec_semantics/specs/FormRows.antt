-- What each form lists of the bodies inside its parts: each part has one of its own, and none is lost.
use Rattle.std.specs.Prelude.{◌≡◌, ℕ, Bool, true, false, List, [], ◌∷◌, map, Some, None}
use Rattle.hir_base.specs.declared.op.LogicOp.{LogicOp}
use Rattle.hir_base.specs.declared.op.RangeOp.{RangeOp}
use Rattle.hir_syntax.specs.declared.ast.Literal.{Literal}
use Rattle.hir_store.specs.Pointers.{Pointer}
use Rattle.hir_store.specs.Names.{IsWritten}
use Rattle.hir_store.specs.declared.ids.GenericDefId.{GenericDefId}
use Rattle.hir_store.specs.declared.hir.Mutability.{Mutability}
use Rattle.hir_store.specs.declared.ids.LangItemId.{LangItemId}
use Rattle.hir_store.specs.declared.name.Name.{Name}
use Rattle.hir_env.specs.ResolvedTree as tree
use Rattle.hir_env.specs.ResolvedTree.{Expr, OptionExpr, Exprs, Block, OptionBlock, Type_, OptionType, Pat, OptionPat, Unary, Binary}
use Rattle.hir_env.specs.ResolvedTree.{Leaving, RangeForm, Use, PatUnary, TypeUnary, FnHead, Binder, Listing}
use Rattle.hir_env.specs.ResolvedTree.{Called, Origin, QuestionItems, Target}
use Rattle.hir_env.specs.declared.ctx.ImplTrait.TheVariants.{Error, Opaque, Argument}
use Rattle.spec_semantics.specs.Inner.{Bodies, bodies_in, pat_part_bodies, part_bodies}
use Rattle.spec_semantics.specs.InnerRows.{body, constants, constant, just, never_array, one_segment, with_list}

-- parts of a number, each with one body inside: `l as [!; k]`, `[!; k]`, and `A::<{k}>` as a pattern
module _ (at : Pointer) (l : Literal) (k : ℕ → Literal) where
  abbrev pub e : ℕ → Expr
  e i = tree.cast_expr at (body at l) (never_array at (body at (k i)))

  abbrev pub p : ℕ → OptionExpr
  p i = tree.some_expr (e i)

  abbrev pub t : ℕ → OptionType
  t i = never_array at (body at (k i))

  abbrev pub x : ℕ → Pat
  x i = tree.path_pat at (one_segment (with_list (just (constant (body at (k i))))))

  abbrev pub q : ℕ → OptionPat
  q i = tree.some_pat (x i)

  abbrev pub block : ℕ → Block
  block i = tree.block at false None tt None tree.no_stmts (p i)

  abbrev pub b : ℕ → OptionBlock
  b i = tree.some_block (block i)

  abbrev pub two : ℕ → Exprs
  two i = tree.more_exprs (e i) (tree.more_exprs (e 9) tree.no_exprs)

  abbrev pub all_of : List ℕ → Bodies
  all_of ns = constants (map (λ i. body at (k i)) ns)

  abbrev pub lists : Expr → List ℕ → Type 0
  lists y ns = bodies_in (tree.some_expr y) ≡ all_of ns

  abbrev pub type_lists : Type_ → List ℕ → Type 0
  type_lists y ns = part_bodies (tree.some_type y) ≡ all_of ns

  abbrev pub pat_lists : Pat → List ℕ → Type 0
  pat_lists y ns = pat_part_bodies (tree.some_pat y) ≡ all_of ns

abbrev pub ExprsListParts : Type 0
ExprsListParts = (at : Pointer) (l : Literal) (k : ℕ → Literal) (n : Name) (by_move : Bool) (op : LogicOp) (un : Unary) (bin : Binary)
    (m : Listing) (r : RangeForm) (lo : Leaving) (i : LangItemId) (name : Name) (items : QuestionItems)
    (c : Called)
    → let e = e at l k in let p = p at l k in let t = t at l k in let q = q at l k in let b = b at l k in let two = two at l k in
    let lists = lists at l k in
    lists (tree.if_expr at (p 0) (b 1) (p 2)) (0 ∷ 1 ∷ 2 ∷ [])
    × lists (tree.while_expr at None tt (p 0) (b 1)) (0 ∷ 1 ∷ [])
    × lists (tree.loop_expr at None tt (b 0)) (0 ∷ [])
    × lists (tree.call_expr at (p 0) true (two 1)) (0 ∷ 1 ∷ 9 ∷ [])
    × lists (tree.break_expr at None (p 0)) (0 ∷ [])
    × lists (tree.paren_expr at (p 0)) (0 ∷ [])
    × lists (tree.unary_expr at un (p 0)) (0 ∷ [])
    × lists (tree.binary_expr at bin (p 0) (p 1)) (0 ∷ 1 ∷ [])
    × lists (tree.lazy_expr at op (p 0) (p 1)) (0 ∷ 1 ∷ [])
    × lists (tree.list_expr at m (two 0)) (0 ∷ 9 ∷ [])
    × lists (tree.leaving_expr at lo (p 0)) (0 ∷ [])
    × lists (tree.become_expr at (p 0)) (0 ∷ [])
    × lists (tree.yield_expr at (p 0)) (0 ∷ [])
    × lists (tree.await_expr at None (p 0)) (0 ∷ [])
    × lists (tree.let_expr at (q 0) (p 1)) (0 ∷ 1 ∷ [])
    × lists (tree.range_expr at (tree.record_range i n) (p 0) (p 1)) (0 ∷ 1 ∷ [])
    × lists (tree.range_expr at (tree.call_range None) (p 0) (p 1)) (0 ∷ 1 ∷ [])
    × lists (tree.offset_of_expr at (t 0) []) (0 ∷ [])
    × lists (tree.record_expr at (one_segment (with_list (just (constant (body at (k 0)))))) (record { has_list = true; has_dots = true })
    (tree.more_fields (tree.named_field at n (p 1)) (tree.more_fields (tree.nameless_field at (p 8)) tree.no_fields))
    (tree.spread_of (e 2))) (0 ∷ 1 ∷ 2 ∷ [])
    × lists (tree.block_expr (tree.block at false None tt None
    (tree.more_stmts (tree.let_stmt (q 0) (t 1) (p 2) (b 3)) (tree.more_stmts (tree.expr_stmt (p 4) true) tree.no_stmts)) (p 5)))
    (0 ∷ 1 ∷ 2 ∷ 3 ∷ 4 ∷ 5 ∷ [])
    × lists (tree.nameless_expr at (p 0)) []
    × lists (tree.try_expr at None (t 0) None
    (tree.more_stmts (tree.let_stmt (q 1) tree.no_type tree.no_expr (b 2)) tree.no_stmts) (p 3)) (0 ∷ 1 ∷ 2 ∷ 3 ∷ [])
    × lists (tree.path_expr at (one_segment (with_list (just (constant (body at (k 0)))))) (record { 0 = 0 })) (0 ∷ [])
    × lists (tree.question_expr at items (p 0)) (0 ∷ [])
    × lists (tree.cast_expr at (p 0) (t 1)) (0 ∷ 1 ∷ [])
    × lists (tree.macro_expr at c (p 0)) (0 ∷ [])

abbrev pub TypesListParts : Type 0
TypesListParts = (at : Pointer) (l : Literal) (k : ℕ → Literal) (un : TypeUnary) (m : Mutability) (h : FnHead) (binder : Binder)
    (maybe : Bool) (def : GenericDefId) (c : Called)
    → let t = t at l k in let lists = type_lists at l k in
    let bound = λ (i : ℕ). tree.path_bound at (one_segment (with_list (just (constant (body at (k i)))))) maybe binder in
    let bounds = tree.more_bounds (bound 0) (tree.more_bounds (bound 1) tree.no_bounds) in
    lists (tree.paren_type (t 0)) (0 ∷ [])
    × lists (tree.for_type binder (t 0)) (0 ∷ [])
    × lists (tree.over_type at un (t 0)) (0 ∷ [])
    × lists (tree.tuple_type at (tree.more_parts (t 0) (tree.more_parts (t 1) tree.no_parts))) (0 ∷ 1 ∷ [])
    × lists (tree.ref_type at None m (t 0)) (0 ∷ [])
    × lists (tree.fn_type at h (tree.more_parts (t 0) (tree.more_parts (t 1) tree.no_parts)) (t 2)) (0 ∷ 1 ∷ 2 ∷ [])
    × lists (tree.impl_type at Opaque bounds) (0 ∷ 1 ∷ [])
    × lists (tree.impl_type at Error bounds) []
    × lists (tree.impl_type at (Argument def) bounds) []
    × lists (tree.dyn_type at bounds) (0 ∷ 1 ∷ [])
    × lists (tree.macro_type at c (t 0)) (0 ∷ [])

abbrev pub PatsListParts : Type 0
PatsListParts = (at : Pointer) (l : Literal) (k : ℕ → Literal) (n : Name) (u : Use) (w : IsWritten u.name) (form : PatUnary)
    (op : RangeOp) (c : Called)
    → let x = x at l k in let q = q at l k in let lists = pat_lists at l k in
    let some = λ (i : ℕ). one_segment (with_list (just (constant (body at (k i))))) in
    let two = λ (i j : ℕ). tree.more_pats (x i) (tree.more_pats (x j) tree.no_pats) in
    lists (tree.bind_pat at u w (q 0)) (0 ∷ [])
    × lists (tree.path_pat at (some 0)) (0 ∷ [])
    × lists (tree.tuple_struct_pat at (some 0) true (two 1 2)) (0 ∷ 1 ∷ 2 ∷ [])
    × lists (tree.tuple_pat at false (two 0 1)) (0 ∷ 1 ∷ [])
    × lists (tree.record_pat at (some 0) (tree.more_pat_fields (tree.pat_field at (Some n) (x 1))
    (tree.more_pat_fields (tree.pat_field at None (x 8)) tree.no_pat_fields)) true) (0 ∷ 1 ∷ [])
    × lists (tree.or_pat at (two 0 1)) (0 ∷ 1 ∷ [])
    × lists (tree.paren_pat at (q 0)) (0 ∷ [])
    × lists (tree.slice_pat at (two 0 1) (q 2) (two 3 4)) (0 ∷ 1 ∷ 2 ∷ 3 ∷ 4 ∷ [])
    × lists (tree.over_pat at form (q 0)) (0 ∷ [])
    × lists (tree.range_pat at (Some op) (tree.path_side at (some 0)) (tree.path_side at (some 1))) (0 ∷ 1 ∷ [])
    × lists (tree.macro_pat at c (q 0)) (0 ∷ [])
    × lists (tree.tuple_pat at false (tree.tracked_pats c (two 0 1))) (0 ∷ 1 ∷ [])

-- as the assignee expression, before a value
abbrev pub TargetsListParts : Type 0
TargetsListParts = (at : Pointer) (l : Literal) (k : ℕ → Literal) (n : Name) (o : Origin) (c : Called)
    → let place = λ (i : ℕ). tree.place_target at (e at l k i) in
    let some = λ (i : ℕ). one_segment (with_list (just (constant (body at (k i))))) in
    let two = λ (i j : ℕ). tree.more_targets (place i) (tree.more_targets (tree.macro_target None c (place j)) tree.no_targets) in
    let lists = λ (t : Target). lists at l k (tree.assign_expr at tree.no_expr t (p at l k 9)) in
    lists (place 0) (0 ∷ 9 ∷ [])
    × lists (tree.macro_target (Some at) c (place 0)) (0 ∷ 9 ∷ [])
    × lists (tree.tuple_target o (tree.tracked_targets c (tree.dots_targets (two 0 1)))) (0 ∷ 1 ∷ 9 ∷ [])
    × lists (tree.call_target o (some 0) (two 1 2)) (0 ∷ 1 ∷ 2 ∷ 9 ∷ [])
    × lists (tree.array_target o (two 0 1) (Some at) (two 2 3)) (0 ∷ 1 ∷ 2 ∷ 3 ∷ 9 ∷ [])
    × lists (tree.record_target o (some 0) (tree.more_target_fields (tree.target_field at (Some n) (place 1))
    (tree.more_target_fields (tree.target_field at None (place 8)) tree.no_target_fields)) true None) (0 ∷ 1 ∷ 9 ∷ [])
