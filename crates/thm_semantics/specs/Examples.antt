-- The body that docs/MEANING.md works out, and the small bodies of the theorems on runs, lowered into an empty store.
use Rattle.std.specs.Prelude.{◌≡◌, ℕ, true, false, List, [], ◌∷◌, Option, Some, None, Ok, Err}
use Rattle.hir_binding.specs.declared.binding.BindingAnnotation.{BindingAnnotation}
use Rattle.hir_binding.specs.declared.binding.BindingAnnotation.TheVariants.{Unannotated, Mutable, Ref, RefMut}
use Rattle.hir_store.specs.declared.hir.CaptureBy.TheVariants as capture
use Rattle.hir_store.specs.declared.hir.CoroutineKind.{CoroutineKind}
use Rattle.hir_store.specs.declared.hir.CoroutineSource.TheVariants as source
use Rattle.hir_store.specs.declared.hir.Expr.TheVariants as hir
use Rattle.hir_store.specs.declared.hir.Statement.TheVariants as statement
use Rattle.hir_store.specs.declared.ids.ExprId.{ExprId}
use Rattle.hir_store.specs.declared.ids.CfgId.{CfgId}
use Rattle.hir_store.specs.declared.ids.HygieneId.{HygieneId}
use Rattle.hir_store.specs.declared.ids.LabelId.{LabelId}
use Rattle.hir_store.specs.declared.ids.LangItemId.{LangItemId}
use Rattle.hir_store.specs.declared.ids.PatId.{PatId}
use Rattle.hir_store.specs.declared.pat.Pat.TheVariants as pat
use Rattle.hir_env.specs.ResolvedTree as tree
use Rattle.hir_env.specs.ResolvedTree.{OptionExpr, Limit, SelfFormal}
use Rattle.spec_data.specs.Tops.{Tops}
use Rattle.hir_lower_builder.specs.Builder.{Builder, new_builder}
use Rattle.hir_lower_builder.specs.Lowering.{Checked}
use Rattle.hir_lower_builder.specs.Lower.{lower_part, lower_limit}
use Rattle.spec_semantics.specs.Inner.{limit_body}
use Rattle.spec_semantics.specs.Small.{StoredExprs, only, from, at, one, id, number, Example, jump_with, jump_a, root, block_of, loop_of}
use Rattle.spec_semantics.specs.Small.{stored_block, stored_loop}
use Rattle.spec_semantics.specs.Rows.{break_out, break_past, continue_block, two_calls, numbered_block}
use Rattle.spec_semantics.specs.Fuel.{continue_early, continue_outer, nested, other, two_labels}
use Rattle.spec_semantics.specs.Fuel.{break_undeclared, continue_undeclared, break_second}
use Rattle.spec_semantics.specs.Endings.{missing_in_turn, break_alone, equal_labels, continue_past, unanswered}
use Rattle.spec_semantics.specs.Examples.{examples, example_nodes}
use Rattle.spec_semantics.specs.Typed.{TypedExample, store_with, map_with, cast_to_never, offset_in_never, method_of_never}
use Rattle.spec_semantics.specs.InnerRows.{cast_to_nevers, constant_of_method}
use Rattle.hir_base.specs.declared.op.LogicOp.TheVariants as logic
use Rattle.spec_semantics.specs.Forms.{sum, lazy_of, return_inside, nothing, front_missing, second_disabled, unsafe_block}
use Rattle.spec_semantics.specs.Forms.{unsafe_scope, pair, method_called, record_made, yield_alone, yeet_one}
use Rattle.spec_semantics.specs.Macros.{entered_alone, gone_argument, unentered_argument, one_then_two, one_alone, one_and_two}
use Rattle.spec_semantics.specs.Macros.{behind_definition, behind_its_block, before_definition, defining, entered_at, nine}
use Rattle.hir_lower_scope.specs.Theorems.{jump_by, one_of}
use Rattle.spec_semantics.specs.Patterned.{PatternExample, patterns_in, map_of_patterns, assignment, condition, arms, no_arms_at_all}
use Rattle.spec_semantics.specs.Patterned.{else_leaves, declared, range_record, range_call, range_full, range_without}
use Rattle.spec_semantics.specs.Patterned.{last_before_one, stored_last, binding_number, pat_number, wild_at}
use Rattle.spec_semantics.specs.Questions.{lang, question_alone, question_itemless, question_twice}
use Rattle.spec_semantics.specs.Tries.{TypedTry, typed_in, map_of_typed, output, question_first, question_in_loop, question_last}
use Rattle.spec_semantics.specs.Tries.{break_in_try, break_past_try, continue_in_try, last_only, tail_only, try_empty, try_inside}
use Rattle.spec_semantics.specs.Tries.{typed_question, typed_tail}
use Rattle.spec_semantics.specs.Fors.{for_x, for_inside, break_in_for, continue_in_for, break_in_head, break_in_head_under}
use Rattle.spec_semantics.specs.Fors.{reference_written}
use Rattle.spec_semantics.specs.Closures.{with_parameters, old_coroutine, yield_in_closure, yield_in_length, break_in_closure}
use Rattle.spec_semantics.specs.Coroutines.{coroutine_of_one, without_number, with_number, yield_in_gen, break_in_async, continue_in_gen}
use Rattle.spec_semantics.specs.Coroutines.{question_in_coroutine}
use Rattle.spec_semantics.specs.CoroutineClosures.{closure_of_x, closure_of_other, closure_of_patterns, closure_without_body, stored_bind}
use Rattle.spec_semantics.specs.CoroutineClosures.{x_named, break_in_closure as break_in_coroutine_closure}
use Rattle.spec_semantics.specs.CoroutineFunctions.{closure_with_constants, empty_body, function_of_three, self_at, x_first}
use Rattle.spec_semantics.specs.Constants.{repeat_one, const_one, break_in_length, question_in_length}
use Rattle.spec_semantics.specs.Whiles.{while_a, while_continued, continue_in_condition, break_in_condition, label_in_condition}
use Rattle.spec_semantics.specs.Conditions.{item_then_a}
use Rattle.spec_semantics.specs.Whiles.{let_in_condition}
use Rattle.thm_semantics.specs.Functions.{Received, coroutine_function, lower_receiver, lower_tops}

-- the answer is this expression, and these expressions are stored, each with its source
abbrev pub Made : StoredExprs → ExprId → Checked ExprId → Builder → Type 0
Made ns top (Ok i) b = (i ≡ top) × (b.stored.exprs.entries ≡ (only ns).exprs) × (b.stored.exprs.sources ≡ (from ns).expr_sources)
Made ns top (Err e) b = ⊥

abbrev pub lowered_alone : OptionExpr → Checked ExprId × Builder
lowered_alone e = lower_part e (new_builder 4294967295)

abbrev pub LoweredAs : StoredExprs → ExprId → OptionExpr → Type 0
LoweredAs ns top e = Made ns top (lowered_alone e).0 (lowered_alone e).1

abbrev pub ExampleIsStored : Type 0
ExampleIsStored = LoweredAs example_nodes (id 8) examples

abbrev pub IsStored : Example → Type 0
IsStored x = LoweredAs x.nodes (id x.root) x.written

-- and these types, each with its source
abbrev pub TypesMade : TypedExample → Builder → Type 0
TypesMade x b = (b.stored.types.entries ≡ (store_with x).types) × (b.stored.types.sources ≡ (map_with x).type_sources)

abbrev pub IsTyped : TypedExample → Type 0
IsTyped x = LoweredAs x.nodes (id x.root) x.written × TypesMade x (lowered_alone x.written).1

abbrev pub TypedAreStored : Type 0
TypedAreStored = IsTyped cast_to_never × IsTyped offset_in_never × IsTyped method_of_never
    × IsTyped cast_to_nevers × IsTyped constant_of_method

-- and these patterns, each with its source, and these bindings
abbrev pub PatternsMade : PatternExample → Builder → Type 0
PatternsMade x b = (b.stored.pats.entries ≡ (patterns_in x).pats) × (b.stored.pats.sources ≡ (map_of_patterns x).pat_sources)
    × (b.stored.bindings.entries ≡ (patterns_in x).bindings)

abbrev pub IsPatterned : PatternExample → Type 0
IsPatterned x = LoweredAs x.nodes (id x.root) x.written × PatternsMade x (lowered_alone x.written).1

-- the end of a range whose body is that of the theorem
abbrev pub before_one : LangItemId → Limit
before_one i = tree.before_limit (Some i) (tree.literal_side (at 1) (record { minus = false; literal = one }))

abbrev pub LimitIsStored : LangItemId → Type 0
LimitIsStored i = (limit_body (before_one i) ≡ last_before_one i)
    × Made (stored_last i) (id 2) (lower_limit (before_one i) (new_builder 4294967295)).0
    (lower_limit (before_one i) (new_builder 4294967295)).1

abbrev pub RangesAreStored : Type 0
RangesAreStored = (i : LangItemId)
    → IsPatterned (range_record i) × IsPatterned (range_call i) × IsPatterned (range_full i) × LimitIsStored i

abbrev pub ArmsAreStored : Type 0
ArmsAreStored = (by : CfgId) → IsPatterned (arms by) × IsPatterned (declared by)

abbrev pub PatternedAreStored : Type 0
PatternedAreStored = ((e : OptionExpr) → IsPatterned (assignment e)) × IsPatterned condition × IsPatterned no_arms_at_all
    × IsPatterned else_leaves × IsPatterned range_without × ArmsAreStored × RangesAreStored

abbrev pub WhilesAreStored : Type 0
WhilesAreStored = IsPatterned while_a × IsPatterned while_continued × IsPatterned continue_in_condition × IsPatterned break_in_condition
    × IsPatterned label_in_condition × IsPatterned let_in_condition

abbrev pub QuestionsAreStored : Type 0
QuestionsAreStored = IsPatterned (question_alone None) × IsPatterned (question_alone (Some (lang 5))) × IsPatterned question_itemless
    × IsPatterned question_twice

abbrev pub ForsAreStored : Type 0
ForsAreStored = IsPatterned for_x × IsPatterned for_inside × IsPatterned break_in_for × IsPatterned continue_in_for
    × IsPatterned (break_in_head None None) × IsPatterned (break_in_head (Some jump_a) (Some (number 0)))
    × IsPatterned (break_in_head_under None None (Some jump_a) (Some (number 0))) × IsStored reference_written

-- and these types, each with its source
abbrev pub IsTypedTry : TypedTry → Type 0
IsTypedTry x = let b = (lowered_alone x.example.written).1 in
    IsPatterned x.example × (b.stored.types.entries ≡ (typed_in x).types) × (b.stored.types.sources ≡ (map_of_typed x).type_sources)

abbrev pub TriesAreStored : Type 0
TriesAreStored = IsPatterned (question_first (Some (lang 4)) output) × IsPatterned (question_first None output)
    × IsPatterned (question_first (Some (lang 4)) None) × IsPatterned try_inside × IsPatterned question_in_loop × IsPatterned question_last
    × IsStored (tail_only None) × IsStored (tail_only (Some (record { 0 = 7 }))) × IsStored last_only × IsStored try_empty
    × IsTypedTry typed_tail × IsTypedTry typed_question × IsStored break_in_try × IsStored continue_in_try × IsStored break_past_try

abbrev pub ConstantsAreStored : Type 0
ConstantsAreStored = IsStored repeat_one × IsStored const_one × IsStored break_in_length × IsPatterned question_in_length

abbrev pub ClosuresAreStored : Type 0
ClosuresAreStored = ((by : CfgId) → IsTypedTry (with_parameters by)) × IsStored old_coroutine × IsStored yield_in_closure
    × IsStored yield_in_length × IsStored break_in_closure

abbrev pub CoroutinesAreStored : Type 0
CoroutinesAreStored =
    ((k : CoroutineKind) → IsStored (without_number k) × IsStored (coroutine_of_one k true capture.Value None) × IsStored (with_number k))
    × IsStored yield_in_gen × IsStored break_in_async × IsStored continue_in_gen
    × IsPatterned (question_in_coroutine false capture.Ref) × IsPatterned (question_in_coroutine true capture.Value)

-- by a name in between, of this mode, or of a name that something stands behind
abbrev pub OtherNamesAreStored : Type 0
OtherNamesAreStored = (k : CoroutineKind) (h : HygieneId)
    → IsTypedTry (closure_of_other k h Ref (x_named h Ref tree.no_pat) ((stored_bind 0, Some 2) ∷ []) 0)
    × IsTypedTry (closure_of_other k h RefMut (x_named h RefMut tree.no_pat) ((stored_bind 0, Some 2) ∷ []) 0)
    × IsTypedTry (closure_of_other k h Unannotated (x_named h Unannotated (wild_at 4))
    ((pat.Wild, Some 4) ∷ (pat.Bind (binding_number 0) (Some (pat_number 0)), Some 2) ∷ []) 1)

-- The function's arguments are handed to these, and these expressions, patterns and bindings are stored.
abbrev pub FunctionMade : TypedTry → List PatId → Checked ((Received × Received) × ExprId) → Builder → Type 0
FunctionMade x formals (Ok r) b =
    (r.0.0.1 ≡ formals) × Made x.example.nodes (id x.example.root) (Ok r.1) b × PatternsMade x.example b
FunctionMade x formals (Err e) b = ⊥

abbrev pub IsFunction : CoroutineKind → SelfFormal → Tops → OptionExpr → List PatId → TypedTry → Type 0
IsFunction k self ps e formals x =
    let lowered = coroutine_function k (lower_tops [] ps) (lower_part e) (lower_receiver self) (new_builder 4294967295) in
    FunctionMade x formals lowered.0 lowered.1

abbrev pub FunctionIsStored : Type 0
FunctionIsStored = (k : CoroutineKind) (mode : BindingAnnotation) (h : HygieneId)
    → IsFunction k (self_at mode h) x_first empty_body (pat_number 6 ∷ pat_number 7 ∷ []) (function_of_three k mode h)

abbrev pub CoroutineClosuresAreStored : Type 0
CoroutineClosuresAreStored =
    ((k : CoroutineKind) (h : HygieneId) → IsTypedTry (closure_of_x k h Unannotated false capture.Ref)
    × IsTypedTry (closure_of_x k h Unannotated true capture.Value) × IsTypedTry (closure_of_x k h Mutable false capture.Ref))
    × OtherNamesAreStored
    × ((k : CoroutineKind) (by : CfgId) → IsTypedTry (closure_of_patterns k by))
    × ((k : CoroutineKind) → IsTypedTry (closure_without_body k) × IsTypedTry (break_in_coroutine_closure k)
    × IsTypedTry (closure_with_constants k source.Closure 10))

-- The calls are entered, and what they stand for is lowered.
abbrev pub CallsAreStored : Type 0
CallsAreStored = IsStored entered_alone × IsStored gone_argument × IsStored unentered_argument

-- `'a: loop { macro_rules! m {..} m!() }`, where m!() stands for `break 'a` that the macro of this number wrote
abbrev pub jump_spliced : ℕ → Option LabelId → Example
jump_spliced outer label = record {
  written = tree.some_expr (loop_of 2 (Some root) (block_of 3 None
      (defining (tree.more_stmts (tree.call_stmt (entered_at 5)) tree.no_stmts))
      (tree.macro_expr (at 4) tree.spliced (tree.some_expr (tree.break_expr (at 6) (Some (jump_by (one_of 0 0 outer))) tree.no_expr)))));
  nodes = (hir.Break label None, Some 6)
      ∷ (stored_block None (statement.MacroDef nine ∷ []) 0, Some 3)
      ∷ (stored_loop (Some (number 0)) 1, Some 2)
      ∷ [];
  root = 2;
}

-- A jump behind the definition of its macro has the number of the label that was open there, and no other jump has one.
abbrev pub DefinitionsAreStored : Type 0
DefinitionsAreStored = IsStored one_then_two × IsStored one_alone × IsStored one_and_two
    × IsStored (behind_definition 9 (Some (number 0))) × IsStored (behind_definition 8 None)
    × IsStored behind_its_block × IsStored before_definition
    × IsStored (jump_spliced 9 (Some (number 0))) × IsStored (jump_spliced 8 None)

-- What a theorem says of a small body as it is stored is said of what lowering stores.
abbrev pub ExamplesAreStored : Type 0
ExamplesAreStored = IsStored break_out × IsStored break_past × IsStored continue_block × IsStored two_calls × IsStored numbered_block
    × IsStored continue_early × IsStored continue_outer × IsStored (nested None jump_a None (number 0))
    × IsStored (two_labels jump_a 0) × IsStored (two_labels (jump_with other) 1)
    × IsStored break_undeclared × IsStored continue_undeclared × IsStored break_second
    × IsStored sum × IsStored (lazy_of logic.And) × IsStored (lazy_of logic.Or) × IsStored return_inside
    × IsStored nothing × IsStored front_missing × IsStored second_disabled × IsStored unsafe_block
    × IsStored unsafe_scope × IsStored pair × IsStored method_called × IsStored record_made × IsStored yield_alone × IsStored yeet_one
    × IsStored missing_in_turn × IsStored break_alone × IsStored equal_labels × IsStored continue_past × IsStored unanswered
    × IsStored item_then_a
    × TypedAreStored × PatternedAreStored × WhilesAreStored × QuestionsAreStored × TriesAreStored × ForsAreStored
    × ConstantsAreStored × ClosuresAreStored × CoroutinesAreStored × CoroutineClosuresAreStored × FunctionIsStored × CallsAreStored
    × DefinitionsAreStored
