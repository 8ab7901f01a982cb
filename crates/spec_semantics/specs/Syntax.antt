-- How a written body runs: over the resolved tree, by the rules of the Rust Reference for each form. It knows no store, no
-- numbers and no stack of labels.
use Rattle.std.specs.Prelude.{ℕ, Bool, true, false, codes, List, [], ◌∷◌, ◌++◌, map, Option, Some, None, if◌then◌else◌}
use Rattle.hir_store.specs.declared.hir.CaptureBy.{CaptureBy}
use Rattle.hir_store.specs.declared.hir.ClosureKind.TheVariants as kind
use Rattle.hir_store.specs.declared.hir.CoroutineKind.{CoroutineKind}
use Rattle.hir_store.specs.declared.hir.CoroutineSource.{CoroutineSource}
use Rattle.hir_store.specs.declared.hir.CoroutineSource.TheVariants as source
use Rattle.hir_store.specs.declared.name.Name.{Name}
use Rattle.hir_store.specs.declared.name.Name.TheVariants as name
use Rattle.hir_store.specs.declared.ids.BlockId.{BlockId}
use Rattle.hir_store.specs.declared.ids.HygieneId.{HygieneId}
use Rattle.hir_store.specs.declared.ids.LangItemId.{LangItemId}
use Rattle.hir_store.specs.declared.ids.MacroDefId.{MacroDefId}
use Rattle.hir_base.specs.declared.op.LogicOp.{LogicOp}
use Rattle.hir_base.specs.declared.op.BinaryOp.TheVariants as ast
use Rattle.hir_env.specs.Conditions.{holds_let}
use Rattle.hir_env.specs.NodeMap.{Site}
use Rattle.hir_env.specs.Answering.{site_of}
use Rattle.hir_env.specs.ResolvedTree as tree
use Rattle.hir_env.specs.ResolvedTree.{Leaf, Unary, Binary, Listing, Leaving, RangeForm}
use Rattle.hir_env.specs.ResolvedTree.{Label, Expr, OptionExpr, Exprs, Fields, Spread, Block, OptionBlock, Stmts, Arms, Guard}
use Rattle.hir_env.specs.ResolvedTree.{ForItems, Target, Targets, TargetFields, OptionType, Params, QuestionItems}
use Rattle.hir_env.specs.Targets.{head_pointer}
use Rattle.spec_semantics.specs.Run.{Value, reply, unit, item, mutable_to, truth, is_true, matches, test, bound, Operation, literal}
use Rattle.spec_semantics.specs.Run.{call}
use Rattle.spec_semantics.specs.Run.{Outcome, break, continue, leave, missing, Body, Run}
use Rattle.spec_semantics.specs.Run.{underscore, include_bytes, field, prefix, reference, operator, index, array, method_call}
use Rattle.spec_semantics.specs.Run.{repeated, const_block, closure}
use Rattle.spec_semantics.specs.Run.{yielding, awaiting, cast, SpreadForm, no_spread, field_defaults, rest_of, made_record, offset_of}
use Rattle.spec_semantics.specs.Run.{Leave, returned, became, yeeted, unmatched, made_tuple, lazy_logic, read_path, binds, assigns}
use Rattle.spec_semantics.specs.Run.{ends, ends_temps, pure, ◌>>=◌, ◌>>◌, event, ask, tests, tests_pattern, in_block_scope}
use Rattle.spec_semantics.specs.Catching.{iteration, loop, block}
use Rattle.hir_lower_scope.specs.ScopeRibs.{Try}
use Rattle.hir_lower_scope.specs.Scopes.{Scope, loop_scope, macro_scope, try_scope, Count, break_target, continue_target, innermost_try}
use Rattle.hir_lower_scope.specs.Scopes.{scope_out, continue_past_block, scopes_in_block}
use Rattle.spec_data.specs.Closures.{capture_of, kind_of, params_types}
use Rattle.spec_data.specs.Data.{PathData, item_path, OptionTypeData, no_type, some_type, PatData, pat_at, generated_pattern}
use Rattle.spec_data.specs.Data.{path_pattern, tuple_struct_pattern, no_patterns, more_patterns}
use Rattle.spec_data.specs.Literals.{literal_data}
use Rattle.spec_data.specs.Lookup.{lookup_hygiene}
use Rattle.spec_data.specs.Patterns.{written_pat}
use Rattle.spec_data.specs.Preludes.{formal_patterns}
use Rattle.spec_data.specs.Rule.{PathRead}
use Rattle.spec_data.specs.Targets.{target_data}
use Rattle.spec_data.specs.Tops.{params_tops}
use Rattle.spec_data.specs.Written.{path_of, root_hygiene, written_path, written_type, written_option_type, written_args}
use Rattle.spec_semantics.specs.Left.{is_kept, is_left, is_last, field_names}

-- it keeps nothing besides
abbrev pub SyntaxRun : Type 0 → Type 0
SyntaxRun A = Run (Unit {0}) Count A

abbrev pub SyntaxBody : Type 0
SyntaxBody = Body (Unit {0}) Count

-- a path that is absent or refused is missing
abbrev pub run_path : Option PathData → HygieneId → Option Site → SyntaxRun Value
run_path None h site = ends (leave missing)
run_path (Some p) h site = read_path p (lookup_hygiene p h) site

-- what is left out does nothing that is known
abbrev pub run_leaf : Leaf → Option Site → SyntaxRun Value
run_leaf tree.underscore site = ask underscore [] site
run_leaf tree.include_bytes site = ask include_bytes [] site
run_leaf tree.left_out site = ends (leave missing)

abbrev pub unary_operation : Unary → Operation
unary_operation (tree.field_of name) = field name
unary_operation (tree.prefix_of op) = prefix op
unary_operation (tree.reference_to rawness mutability) = reference rawness mutability

-- `&&` and `||`: the left side, a test of it at the form, and the right side where that doesn't decide
abbrev pub run_lazy : LogicOp → SyntaxRun Value → SyntaxRun Value → Option Site → SyntaxRun Value
run_lazy op left right site = do
  v ← left
  holds ← tests is_true v site
  lazy_logic op holds right

abbrev pub binary_operation : Binary → Operation
binary_operation (tree.operator op) = operator op
binary_operation tree.index_of = index

-- Every operator but `&&` and `||` has the values of both sides.
abbrev pub run_binary : Binary → SyntaxRun Value → SyntaxRun Value → Option Site → SyntaxRun Value
run_binary (tree.operator (Some (ast.LogicOp op))) left right site = run_lazy op left right site
run_binary form left right site = do
  v ← left
  w ← right
  ask (binary_operation form) (v ∷ w ∷ []) site

-- a leading comma stands for an element in front that is missing
abbrev pub run_list : Listing → SyntaxRun (List Value) → Option Site → SyntaxRun Value
run_list (tree.tuple_of true) elements site = ends (leave missing)
run_list (tree.tuple_of false) elements site = do
  vs ← elements
  made_tuple vs site
run_list tree.array_of elements site = do
  vs ← elements
  ask array vs site

abbrev pub leaves_with : Leaving → Value → Leave
leaves_with tree.returning v = returned v
leaves_with tree.yeeting v = yeeted v

-- a block with a label catches the breaks that are for it
abbrev pub catch_label : Option Label → SyntaxRun Value → SyntaxRun Value
catch_label None m = m
catch_label (Some l) m = block scope_out continue_past_block m

abbrev pub spread_form : Spread → SpreadForm
spread_form tree.no_spread = no_spread
spread_form tree.field_defaults = field_defaults
spread_form (tree.spread_of e) = rest_of

-- A record has the values of its fields, and behind them that of the record that the others come from. One whose path is absent
-- or refused is missing.
abbrev pub run_record : Option PathData → List Name → SpreadForm → SyntaxRun (List Value) → SyntaxRun (List Value) → Option Site
    → SyntaxRun Value
run_record None names form fields others site = ends (leave missing)
run_record (Some p) names form fields others site = do
  vs ← fields
  ws ← others
  ask (made_record p names form) (vs ++ ws) site

-- A range has the values of its ends, where they are there. It is made as a record of an item, or as what a call of one answers.
abbrev pub end_name : Name → OptionExpr → List Name
end_name n tree.no_expr = []
end_name n (tree.some_expr e) = n ∷ []

abbrev pub range_names : Name → OptionExpr → OptionExpr → List Name
range_names last start end = end_name (name.Text (codes "start")) start ++ end_name last end

abbrev pub run_range : RangeForm → OptionExpr → OptionExpr → SyntaxRun (List Value) → SyntaxRun (List Value) → Option Site
    → SyntaxRun Value
run_range (tree.record_range i last) start end of_start of_end site =
    run_record (Some (item_path i)) (range_names last start end) no_spread of_start of_end site
run_range (tree.call_range None) start end of_start of_end site = ends (leave missing)
run_range (tree.call_range (Some i)) start end of_start of_end site = do
  vs ← of_start
  ws ← of_end
  ask call (item i ∷ (vs ++ ws)) site
run_range tree.itemless_range start end of_start of_end site = ends (leave missing)

-- an item that is absent is missing
abbrev pub run_item : Option LangItemId → SyntaxRun Value
run_item None = ends (leave missing)
run_item (Some i) = pure (item i)

-- `?` (Rust Reference, the question mark operator; `try` blocks)

-- what nobody wrote: a name that stands for what a test or a `let` is answered
abbrev pub unnamed_pattern : PatData
unnamed_pattern = pat_at None generated_pattern

-- the item around it
abbrev pub item_pattern : LangItemId → PatData
item_pattern i = pat_at None (tuple_struct_pattern (item_path i) None (more_patterns unnamed_pattern no_patterns))

-- What makes of a residual the value of the `try` that it is for, or of the body where it is for none. A `try` that says its type
-- takes what a body takes.
abbrev pub residual_item : QuestionItems → Option (Try ℕ) → Option LangItemId
residual_item items None = items.from_residual
residual_item items (Some t) = if t.typed then items.from_residual else items.into_try_type

-- it leaves the `try` with its value, or else the body
abbrev pub leaves_try : Option (Try ℕ) → Value → Outcome Count Value
leaves_try None v = leave (returned v)
leaves_try (Some t) v = break (Some t.place) v

abbrev pub run_residual : QuestionItems → Option (Try ℕ) → Value → Option Site → SyntaxRun Value
run_residual items t v site = do
  f ← run_item (residual_item items t)
  w ← ask call (f ∷ v ∷ []) site
  ends (leaves_try t w)

-- What the operand branches to is tested for both kinds, at no node. The first gives what the test is answered.
abbrev pub run_question : QuestionItems → Option (Try ℕ) → SyntaxRun Value → Option Site → SyntaxRun Value
run_question items t operand site = do
  v ← operand
  w ← ask call (item items.branch ∷ v ∷ []) site
  a ← event (test (matches (item_pattern items.goes_on))) (w ∷ []) None
  if a.yes then pure (reply a.value) else (do
    b ← event (test (matches (item_pattern items.breaks))) (w ∷ []) None
    if b.yes then run_residual items t (reply b.value) site else ends (leave unmatched))

-- `try`

-- its value goes through a call of the item
abbrev pub through_item : Option LangItemId → Option Site → SyntaxRun Value → SyntaxRun Value
through_item i site m = do
  f ← run_item i
  v ← m
  ask call (f ∷ v ∷ []) site

-- one with a written type gives what the `let` of that type is answered
abbrev pub run_typed : OptionTypeData → SyntaxRun Value → SyntaxRun Value
run_typed no_type m = m
run_typed (some_type t) m = do
  v ← m
  a ← event (bound unnamed_pattern (some_type t)) (v ∷ []) None
  ends_temps (pure (reply a.value))

-- The block, which is entered where it has a number; what a `?` brings it is its value as it is.
abbrev pub run_try : OptionTypeData → Option BlockId → Option Site → SyntaxRun Value → SyntaxRun Value
run_try t number site m = run_typed t (in_block_scope false number site (block scope_out continue_past_block m))

abbrev pub is_typed : OptionType → Bool
is_typed tree.no_type = false
is_typed (tree.some_type t) = true

-- what gives the value of a block that is no `try`
abbrev pub as_it_is : SyntaxRun Value → SyntaxRun Value
as_it_is m = m

-- A closure is made as what it is: an old coroutine where its body yields.
abbrev pub closure_of : Bool → Bool → Params → OptionType → OptionExpr → Operation
closure_of by_move is_static ps t e =
    closure (kind_of is_static e) (capture_of by_move) (map written_pat (params_tops ps)) (map written_option_type (params_types ps))
    (written_option_type t)

-- A coroutine is made as a closure that has neither parameters nor types.
abbrev pub made_coroutine : CoroutineKind → CoroutineSource → CaptureBy → Operation
made_coroutine k from by = closure (kind.Coroutine k from) by [] [] no_type

-- that of a block
abbrev pub coroutine_of : CoroutineKind → Bool → Operation
coroutine_of k by_move = made_coroutine k source.Block (capture_of by_move)

-- An `async` or `gen` closure is made with what the outside hands its parameters to.
abbrev pub coroutine_closure_of : CoroutineKind → Bool → Params → OptionType → Operation
coroutine_closure_of k by_move ps t =
    closure (kind.CoroutineClosure k) (capture_of by_move) (formal_patterns (map written_pat (params_tops ps)))
    (map written_option_type (params_types ps)) (written_option_type t)

-- parts beside a path that is absent or refused don't run
abbrev pub if_read : {A : Type 0} → Option PathRead → A → A → A
if_read None there behind = behind
if_read (Some p) there behind = there

-- the temporaries of a condition end before it is tested, but those of one that holds a `let`, which the body may use
abbrev pub ends_of_condition : {A : Type 0} → Bool → SyntaxRun A → SyntaxRun A
ends_of_condition true m = m
ends_of_condition false m = ends_temps m

-- A turn of `while` runs the condition and tests it at the form; where it doesn't hold the turn ends the loop with unit. It is said
-- whether the condition holds a `let`.
abbrev pub while_iteration : Bool → SyntaxRun Value → SyntaxRun Value → Option Site → SyntaxRun (Option Value)
while_iteration lets condition body site = do
  v ← condition
  ends_of_condition lets (do
    holds ← tests is_true v site
    if holds then iteration body else pure (Some unit))

abbrev pub run_while : ℕ → Bool → SyntaxRun Value → SyntaxRun Value → Option Site → SyntaxRun Value
run_while fuel lets condition body site = loop scope_out fuel (while_iteration lets condition body site)

-- `for` (Rust Reference, iterator loops)

-- the item that holds nothing, and the one that holds what fits the pattern
abbrev pub done_pattern : LangItemId → PatData
done_pattern i = pat_at None (path_pattern (item_path i) root_hygiene)

abbrev pub gives_pattern : LangItemId → PatData → PatData
gives_pattern i p = pat_at None (tuple_struct_pattern (item_path i) None (more_patterns p no_patterns))

-- A turn of `for` asks the iterator for the next one, by a mutable reference to it. What that answers is tested for both kinds, at no
-- node: where there is no next one the turn ends the loop with unit, and where there is one that fits the pattern the body runs.
abbrev pub for_iteration : ForItems → PatData → Value → SyntaxRun Value → Option Site → SyntaxRun (Option Value)
for_iteration items p iterator body site = do
  v ← ask call (item items.next ∷ mutable_to iterator ∷ []) site
  is_done ← tests (matches (done_pattern items.is_done)) v None
  if is_done then pure (Some unit) else (do
    fits ← tests (matches (gives_pattern items.gives p)) v None
    if fits then iteration body else ends (leave unmatched))

-- What makes an iterator of the head is called once, at the head's node.
abbrev pub run_for : ℕ → ForItems → PatData → SyntaxRun Value → Option Site → SyntaxRun Value → Option Site → SyntaxRun Value
run_for fuel items p head head_site body site = do
  iterator ← through_item (Some items.into_iter) head_site head
  loop scope_out fuel (for_iteration items p iterator body site)

-- The definition of a macro encloses what is behind it in its block. One without a number is an item.
abbrev pub behind_def : Option MacroDefId → List Scope → List Scope
behind_def None ss = ss
behind_def (Some d) ss = macro_scope d ∷ ss

-- with so many turns at each entry of a loop
module _ (fuel : ℕ) where
  abbrev mutual
    pub run_expr : Expr → List Scope → SyntaxRun Value
    run_expr (tree.disabled_expr why e) ss = ends (leave missing)
    run_expr (tree.literal_expr at l) ss = ask (literal (literal_data l)) [] (Some (site_of at))
    run_expr (tree.path_expr at p h) ss = run_path (written_path p) h (Some (site_of at))
    run_expr (tree.paren_expr at e) ss = run_part e ss
    -- a call is what it stands for
    run_expr (tree.macro_expr at called e) ss = run_part e ss
    run_expr (tree.call_expr at f has_list es) ss = do
      v ← run_part f ss
      vs ← run_each es ss
      ask call (v ∷ vs) (Some (site_of at))
    run_expr (tree.if_expr at c t e) ss = do
      v ← run_part c ss
      holds ← tests is_true v (Some (site_of at))
      if holds then run_block_part t ss else run_or_unit e ss
    run_expr (tree.loop_expr at label _ b) ss = loop scope_out fuel (iteration (run_block_part b (loop_scope label ∷ ss)))
    -- its condition lies under its label, too
    run_expr (tree.while_expr at label _ c b) ss =
        run_while fuel (holds_let c) (run_part c (loop_scope label ∷ ss)) (run_block_part b (loop_scope label ∷ ss)) (Some (site_of at))
    -- its head lies outside of its label, and so does its pattern
    run_expr (tree.for_expr at items label _ p h b) ss =
        run_for fuel items (written_pat p) (run_part h ss) (Some (site_of (head_pointer at h))) (run_part b (loop_scope label ∷ ss))
        (Some (site_of at))
    run_expr (tree.question_expr at items e) ss = run_question items (innermost_try ss) (run_part e ss) (Some (site_of at))
    run_expr (tree.itemless_expr at) ss = ends (leave missing)
    run_expr (tree.try_expr at i t number stmts tail) ss =
        let here = Some (site_of at) in
        run_try (written_option_type t) number here
        (run_stmts stmts (is_left tail) (through_item i here) (run_tail tail) (try_scope (is_typed t) ∷ ss))
    run_expr (tree.break_expr at jump e) ss = do
      v ← run_or_unit e ss
      ends (break (break_target ss jump) v)
    run_expr (tree.continue_expr at jump) ss = ends (continue (continue_target ss jump))
    run_expr (tree.block_expr b) ss = run_block b ss
    run_expr (tree.leaf_expr at form) ss = run_leaf form (Some (site_of at))
    run_expr (tree.unary_expr at form e) ss = do
      v ← run_part e ss
      ask (unary_operation form) (v ∷ []) (Some (site_of at))
    run_expr (tree.binary_expr at form a b) ss = run_binary form (run_part a ss) (run_part b ss) (Some (site_of at))
    run_expr (tree.lazy_expr at op a b) ss = run_lazy op (run_part a ss) (run_part b ss) (Some (site_of at))
    run_expr (tree.list_expr at form es) ss = run_list form (run_each es ss) (Some (site_of at))
    -- its length is a body inside
    run_expr (tree.repeat_expr at e c) ss = do
      v ← run_part e ss
      ask repeated (v ∷ []) (Some (site_of at))
    -- what is in it is a body inside
    run_expr (tree.const_expr at c) ss = ask const_block [] (Some (site_of at))
    -- its body is a body inside
    run_expr (tree.closure_expr at by_move is_static ps t e) ss = ask (closure_of by_move is_static ps t e) [] (Some (site_of at))
    -- and so is what is in it
    run_expr (tree.coroutine_expr at k by_move number stmts tail) ss = ask (coroutine_of k by_move) [] (Some (site_of at))
    -- what makes its coroutine is a body inside, and so is the coroutine
    run_expr (tree.coroutine_closure_expr at k by_move ps t e) ss = ask (coroutine_closure_of k by_move ps t) [] (Some (site_of at))
    run_expr (tree.method_call_expr at e name es generics) ss = do
      v ← run_part e ss
      vs ← run_each es ss
      ask (method_call name (written_args generics)) (v ∷ vs) (Some (site_of at))
    run_expr (tree.cast_expr at e t) ss = do
      v ← run_part e ss
      ask (cast (written_type t)) (v ∷ []) (Some (site_of at))
    run_expr (tree.record_expr at p head fs s) ss =
        run_record (written_path p) (field_names fs) (spread_form s) (run_fields fs ss) (run_spread s ss) (Some (site_of at))
    run_expr (tree.offset_of_expr at t names) ss = ask (offset_of (written_type t) names) [] (Some (site_of at))
    run_expr (tree.leaving_expr at form e) ss = do
      v ← run_or_unit e ss
      ends (leave (leaves_with form v))
    run_expr (tree.become_expr at e) ss = do
      v ← run_part e ss
      ends (leave (became v))
    run_expr (tree.yield_expr at e) ss = do
      v ← run_or_unit e ss
      ask yielding (v ∷ []) (Some (site_of at))
    run_expr (tree.await_expr at location e) ss = do
      v ← run_part e ss
      ask awaiting (v ∷ []) (Some (site_of at))
    run_expr (tree.nameless_expr at e) ss = ends (leave missing)
    run_expr (tree.let_expr at p e) ss = do
      v ← run_part e ss
      fits ← tests_pattern (written_pat p) v
      pure (truth fits)
    run_expr (tree.match_expr at e arms) ss = do
      v ← run_part e ss
      run_arms arms v (Some (site_of at)) ss
    run_expr (tree.range_expr at form start end) ss =
        run_range form start end (run_present start ss) (run_present end ss) (Some (site_of at))
    -- the value comes before the places that it goes to
    run_expr (tree.assign_expr at e t v) ss = do
      w ← run_part v ss
      ws ← run_places t ss (pure [])
      assigns (target_data t) (w ∷ ws) (Some (site_of at))

    -- a part that is absent is missing
    pub run_part : OptionExpr → List Scope → SyntaxRun Value
    run_part tree.no_expr ss = ends (leave missing)
    run_part (tree.some_expr e) ss = run_expr e ss

    pub run_block_part : OptionBlock → List Scope → SyntaxRun Value
    run_block_part tree.no_block ss = ends (leave missing)
    run_block_part (tree.some_block b) ss = run_block b ss

    -- an absent `else` is unit, and so is an absent value of what leaves or yields
    pub run_or_unit : OptionExpr → List Scope → SyntaxRun Value
    run_or_unit tree.no_expr ss = pure unit
    run_or_unit (tree.some_expr e) ss = run_expr e ss

    -- an absent initializer or end of a range is no operand
    pub run_present : OptionExpr → List Scope → SyntaxRun (List Value)
    run_present tree.no_expr ss = pure []
    run_present (tree.some_expr e) ss = do
      v ← run_expr e ss
      pure (v ∷ [])

    -- The arms that are kept are tried in order, the first that fits runs.
    pub run_arms : Arms → Value → Option Site → List Scope → SyntaxRun Value
    run_arms tree.no_arms v site ss = ends (leave unmatched)
    run_arms (tree.more_arms (tree.disabled_arm at by a) arms) v site ss = run_arms arms v site ss
    run_arms (tree.more_arms (tree.arm p e g) arms) v site ss = do
      fits ← tests_pattern (written_pat p) v
      if fits then run_guarded g site (run_part e ss) (run_arms arms v site ss) ss else run_arms arms v site ss

    -- the body, or the arms behind it where its guard doesn't hold
    pub run_guarded : Guard → Option Site → SyntaxRun Value → SyntaxRun Value → List Scope → SyntaxRun Value
    run_guarded tree.no_guard site body others ss = body
    run_guarded (tree.guard c) site body others ss = do
      v ← run_part c ss
      holds ← tests is_true v site
      if holds then body else others

    -- what follows a `let` statement, or its `else`, which leaves the block
    pub run_else : OptionBlock → Bool → SyntaxRun Value → List Scope → SyntaxRun Value
    run_else tree.no_block fits others ss = others
    run_else (tree.some_block b) true others ss = others
    run_else (tree.some_block b) false others ss = do
      run_block b ss
      ends (leave unmatched)

    -- the places in the assignee expression, in their order, before others
    pub run_places : Target → List Scope → SyntaxRun (List Value) → SyntaxRun (List Value)
    run_places (tree.absent_target at) ss behind = behind
    run_places (tree.place_target at e) ss behind = do
      v ← run_expr e ss
      vs ← behind
      pure (v ∷ vs)
    run_places (tree.wild_target at) ss behind = behind
    run_places (tree.macro_target at called t) ss behind = run_places t ss behind
    run_places (tree.path_target at p h) ss behind = behind
    run_places (tree.tuple_target at ts) ss behind = run_each_place ts ss behind
    run_places (tree.call_target at p ts) ss behind = if_read (path_of p) (run_each_place ts ss behind) behind
    run_places (tree.array_target at before dots after) ss behind = run_each_place before ss (run_each_place after ss behind)
    run_places (tree.record_target at p fs dots spread) ss behind = if_read (path_of p) (run_field_places fs ss behind) behind

    pub run_each_place : Targets → List Scope → SyntaxRun (List Value) → SyntaxRun (List Value)
    run_each_place tree.no_targets ss behind = behind
    run_each_place (tree.more_targets t ts) ss behind = run_places t ss (run_each_place ts ss behind)
    run_each_place (tree.dots_targets ts) ss behind = run_each_place ts ss behind
    run_each_place (tree.tracked_targets called ts) ss behind = run_each_place ts ss behind

    -- a field without a name is no part of the record
    pub run_field_places : TargetFields → List Scope → SyntaxRun (List Value) → SyntaxRun (List Value)
    run_field_places tree.no_target_fields ss behind = behind
    run_field_places (tree.more_target_fields (tree.target_field at (Some n) t) fs) ss behind =
        run_places t ss (run_field_places fs ss behind)
    run_field_places (tree.more_target_fields f fs) ss behind = run_field_places fs ss behind

    -- the elements that are kept, from left to right
    pub run_each : Exprs → List Scope → SyntaxRun (List Value)
    run_each tree.no_exprs ss = pure []
    run_each (tree.more_exprs e es) ss = if is_kept e then (do
      v ← run_expr e ss
      vs ← run_each es ss
      pure (v ∷ vs)) else run_each es ss

    -- the fields that are kept and have a name, from left to right
    pub run_fields : Fields → List Scope → SyntaxRun (List Value)
    run_fields tree.no_fields ss = pure []
    run_fields (tree.more_fields (tree.named_field at name e) fs) ss = do
      v ← run_part e ss
      vs ← run_fields fs ss
      pure (v ∷ vs)
    run_fields (tree.more_fields f fs) ss = run_fields fs ss

    pub run_spread : Spread → List Scope → SyntaxRun (List Value)
    run_spread tree.no_spread ss = pure []
    run_spread tree.field_defaults ss = pure []
    run_spread (tree.spread_of e) ss = do
      v ← run_expr e ss
      pure (v ∷ [])

    pub run_block : Block → List Scope → SyntaxRun Value
    run_block (tree.block at is_unsafe label _ number stmts tail) ss =
        in_block_scope is_unsafe number (Some (site_of at))
        (catch_label label (run_stmts stmts (is_left tail) as_it_is (run_tail tail) (scopes_in_block label ss)))

    -- the tail that is written, where it is left
    pub run_tail : OptionExpr → List Scope → SyntaxRun Value
    run_tail tree.no_expr ss = pure unit
    run_tail (tree.some_expr e) ss = if is_kept e then run_expr e ss else pure unit

    -- The statements that are left, in order, and then the tail; the last of them may give the block its value. What gives it goes
    -- through `out`.
    pub run_stmts : Stmts → Bool → (SyntaxRun Value → SyntaxRun Value) → (List Scope → SyntaxRun Value) → List Scope → SyntaxRun Value
    run_stmts tree.no_stmts has_tail out tail ss = out (tail ss)
    run_stmts (tree.more_stmts (tree.disabled_stmt at by s) stmts) has_tail out tail ss = run_stmts stmts has_tail out tail ss
    run_stmts (tree.more_stmts tree.item_stmt stmts) has_tail out tail ss = run_stmts stmts has_tail out tail ss
    run_stmts (tree.more_stmts (tree.call_stmt c) stmts) has_tail out tail ss = run_stmts stmts has_tail out tail ss
    run_stmts (tree.more_stmts (tree.macro_stmt k d) stmts) has_tail out tail ss = run_stmts stmts has_tail out tail (behind_def d ss)
    run_stmts (tree.more_stmts (tree.let_stmt p t e b) stmts) has_tail out tail ss = do
      vs ← run_present e ss
      fits ← binds (written_pat p) (written_option_type t) vs
      run_else b fits (ends_temps (run_stmts stmts has_tail out tail ss)) ss
    run_stmts (tree.more_stmts (tree.expr_stmt e semi) stmts) has_tail out tail ss =
        if is_left e
        then (if is_last semi stmts has_tail then out (run_part e ss) else (do
          run_part e ss
          ends_temps (run_stmts stmts has_tail out tail ss)))
        else run_stmts stmts has_tail out tail ss

-- the run of a body that stands by itself, with so many turns
abbrev pub run_syntax : OptionExpr → ℕ → SyntaxRun Value
run_syntax e fuel = run_part fuel e []

abbrev pub written_body : OptionExpr → SyntaxBody
written_body e = record { table = tt; run = run_syntax e }

-- What is in a coroutine block stands by itself, too. It runs as a block does, but is entered at no node.
abbrev pub run_coroutine : Option BlockId → Stmts → OptionExpr → ℕ → SyntaxRun Value
run_coroutine number stmts tail fuel =
    in_block_scope false number None (run_stmts fuel stmts (is_left tail) as_it_is (run_tail fuel tail) [])

abbrev pub written_coroutine : Option BlockId → Stmts → OptionExpr → SyntaxBody
written_coroutine number stmts tail = record { table = tt; run = run_coroutine number stmts tail }
