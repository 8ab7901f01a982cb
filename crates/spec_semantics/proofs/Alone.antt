-- A body behind a barrier runs as if nothing were outside.
use Rattle.std.proofs.Common.{◌≡◌, ℕ, Bool, true, false, if◌then◌else◌, List, [], ◌∷◌, ◌++◌, Option, Some, None, refl, ap}
use Rattle.hir_env.specs.NodeMap.{Site}
use Rattle.hir_env.specs.Answering.{site_of}
use Rattle.hir_env.specs.ResolvedTree as tree
use Rattle.hir_env.specs.ResolvedTree.{Label, Expr, OptionExpr, Exprs, Fields, Spread, Block, OptionBlock, Stmts, Arms, Guard}
use Rattle.hir_env.specs.ResolvedTree.{Target, Targets, TargetFields}
use Rattle.hir_env.specs.Targets.{head_pointer}
use Rattle.hir_lower_scope.specs.Scopes.{Scope, loop_scope, macro_scope, try_scope, barrier, scope_out, scopes_in_block}
use Rattle.hir_lower_scope.proofs.Alone.{nothing_outside}
use Rattle.spec_data.specs.Patterns.{written_pat}
use Rattle.spec_data.specs.Targets.{target_data}
use Rattle.spec_data.specs.Written.{path_of, written_path, written_type, written_option_type, written_args}
use Rattle.spec_semantics.specs.Run.{Value, unit, truth, is_true, call, method_call, cast, yielding, awaiting, break, continue, leave}
use Rattle.spec_semantics.specs.Run.{repeated, became, unmatched, ends, ends_temps, pure, ◌>>=◌, ◌>>◌, ask, tests, tests_pattern, binds}
use Rattle.spec_semantics.specs.Run.{assigns, in_block_scope}
use Rattle.spec_semantics.specs.Catching.{iteration, loop}
use Rattle.hir_env.specs.Conditions.{holds_let}
use Rattle.spec_semantics.specs.Left.{is_kept, is_left, is_last, field_names}
use Rattle.spec_semantics.specs.Syntax.{run_for, run_question, run_try, is_typed, through_item, as_it_is}
use Rattle.spec_semantics.specs.Syntax.{SyntaxRun, catch_label, run_expr, run_part, run_block_part, run_or_unit, run_each}
use Rattle.spec_semantics.specs.Syntax.{run_while, spread_form, run_record, run_fields, run_spread, run_range, if_read, run_present}
use Rattle.spec_semantics.specs.Syntax.{run_arms}
use Rattle.spec_semantics.specs.Syntax.{run_guarded, run_else, run_places, run_each_place, run_field_places}
use Rattle.spec_semantics.specs.Syntax.{run_block, run_tail, run_stmts, unary_operation, run_binary, run_lazy, run_list, leaves_with}
use Rattle.spec_semantics.specs.Rows.{RunsAlone}

module _ (fuel : ℕ) (outer : List Scope) where
  in_block_alone : (label : Option Label) (inner : List Scope)
      → scopes_in_block label (inner ++ barrier ∷ outer) ≡ scopes_in_block label inner ++ barrier ∷ outer
  in_block_alone None inner = refl
  in_block_alone (Some l) inner = refl

  mutual
    expr_alone : (e : Expr) (inner : List Scope) → run_expr fuel e (inner ++ barrier ∷ outer) ≡ run_expr fuel e inner
    expr_alone (tree.disabled_expr why e) inner = refl
    expr_alone (tree.literal_expr at l) inner = refl
    expr_alone (tree.path_expr at x h) inner = refl
    expr_alone (tree.paren_expr at e) inner = part_alone e inner
    expr_alone (tree.macro_expr at called e) inner = part_alone e inner
    expr_alone (tree.call_expr at f has_list es) inner = λ i.
        part_alone f inner i >>= (λ v. each_alone es inner i >>= (λ vs. ask call (v ∷ vs) (Some (site_of at))))
    expr_alone (tree.if_expr at c t e) inner = λ i.
        part_alone c inner i >>= (λ v. tests is_true v (Some (site_of at))
        >>= (λ holds. if holds then block_part_alone t inner i else or_unit_alone e inner i))
    expr_alone (tree.loop_expr at label _ b) inner = λ i. loop scope_out fuel (iteration (block_part_alone b (loop_scope label ∷ inner) i))
    expr_alone (tree.while_expr at label _ c b) inner = λ i.
        run_while fuel (holds_let c) (part_alone c (loop_scope label ∷ inner) i) (block_part_alone b (loop_scope label ∷ inner) i)
        (Some (site_of at))
    expr_alone (tree.for_expr at items label _ p h b) inner = λ i.
        run_for fuel items (written_pat p) (part_alone h inner i) (Some (site_of (head_pointer at h)))
        (part_alone b (loop_scope label ∷ inner) i) (Some (site_of at))
    expr_alone (tree.question_expr at items e) inner = λ i.
        run_question items ((nothing_outside inner outer None).tries i) (part_alone e inner i) (Some (site_of at))
    expr_alone (tree.itemless_expr at) inner = refl
    expr_alone (tree.try_expr at item t number ss e) inner =
        let here = Some (site_of at) in
        ap (run_try (written_option_type t) number here)
        (stmts_alone ss (is_left e) (through_item item here) (run_tail fuel e) (tail_alone e) (try_scope (is_typed t) ∷ inner))
    expr_alone (tree.break_expr at jump e) inner = λ i.
        or_unit_alone e inner i >>= (λ v. ends (break ((nothing_outside inner outer jump).breaks i) v))
    expr_alone (tree.continue_expr at jump) inner = λ i. ends (continue ((nothing_outside inner outer jump).continues i))
    expr_alone (tree.block_expr b) inner = block_alone b inner
    expr_alone (tree.leaf_expr at form) inner = refl
    expr_alone (tree.unary_expr at form e) inner = λ i.
        part_alone e inner i >>= (λ v. ask (unary_operation form) (v ∷ []) (Some (site_of at)))
    expr_alone (tree.binary_expr at form a b) inner = λ i.
        run_binary form (part_alone a inner i) (part_alone b inner i) (Some (site_of at))
    expr_alone (tree.lazy_expr at op a b) inner = λ i. run_lazy op (part_alone a inner i) (part_alone b inner i) (Some (site_of at))
    expr_alone (tree.list_expr at form es) inner = λ i. run_list form (each_alone es inner i) (Some (site_of at))
    expr_alone (tree.repeat_expr at e c) inner = λ i.
        part_alone e inner i >>= (λ v. ask repeated (v ∷ []) (Some (site_of at)))
    expr_alone (tree.const_expr at c) inner = refl
    expr_alone (tree.closure_expr at by_move is_static ps t e) inner = refl
    expr_alone (tree.coroutine_expr at k by_move number ss e) inner = refl
    expr_alone (tree.coroutine_closure_expr at k by_move ps t e) inner = refl
    expr_alone (tree.method_call_expr at e name es generics) inner = λ i.
        part_alone e inner i >>= (λ v. each_alone es inner i
        >>= (λ vs. ask (method_call name (written_args generics)) (v ∷ vs) (Some (site_of at))))
    expr_alone (tree.cast_expr at e t) inner = λ i.
        part_alone e inner i >>= (λ v. ask (cast (written_type t)) (v ∷ []) (Some (site_of at)))
    expr_alone (tree.record_expr at p head fs s) inner = λ i.
        run_record (written_path p) (field_names fs) (spread_form s) (fields_alone fs inner i) (spread_alone s inner i) (Some (site_of at))
    expr_alone (tree.offset_of_expr at t names) inner = refl
    expr_alone (tree.leaving_expr at form e) inner = λ i. or_unit_alone e inner i >>= (λ v. ends (leave (leaves_with form v)))
    expr_alone (tree.become_expr at e) inner = λ i. part_alone e inner i >>= (λ v. ends (leave (became v)))
    expr_alone (tree.yield_expr at e) inner = λ i. or_unit_alone e inner i >>= (λ v. ask yielding (v ∷ []) (Some (site_of at)))
    expr_alone (tree.await_expr at location e) inner = λ i.
        part_alone e inner i >>= (λ v. ask awaiting (v ∷ []) (Some (site_of at)))
    expr_alone (tree.nameless_expr at e) inner = refl
    expr_alone (tree.let_expr at p e) inner = λ i.
        part_alone e inner i >>= (λ v. tests_pattern (written_pat p) v >>= (λ fits. pure (truth fits)))
    expr_alone (tree.match_expr at e arms) inner = λ i.
        part_alone e inner i >>= (λ v. arms_alone arms v (Some (site_of at)) inner i)
    expr_alone (tree.range_expr at form start end) inner = λ i.
        run_range form start end (present_alone start inner i) (present_alone end inner i) (Some (site_of at))
    expr_alone (tree.assign_expr at e t v) inner = λ i.
        part_alone v inner i >>= (λ w. places_alone t inner (pure []) (pure []) refl i
        >>= (λ ws. assigns (target_data t) (w ∷ ws) (Some (site_of at))))

    pub part_alone : (e : OptionExpr) (inner : List Scope) → run_part fuel e (inner ++ barrier ∷ outer) ≡ run_part fuel e inner
    part_alone tree.no_expr inner = refl
    part_alone (tree.some_expr e) inner = expr_alone e inner

    block_part_alone : (b : OptionBlock) (inner : List Scope)
        → run_block_part fuel b (inner ++ barrier ∷ outer) ≡ run_block_part fuel b inner
    block_part_alone tree.no_block inner = refl
    block_part_alone (tree.some_block b) inner = block_alone b inner

    or_unit_alone : (e : OptionExpr) (inner : List Scope) → run_or_unit fuel e (inner ++ barrier ∷ outer) ≡ run_or_unit fuel e inner
    or_unit_alone tree.no_expr inner = refl
    or_unit_alone (tree.some_expr e) inner = expr_alone e inner

    present_alone : (e : OptionExpr) (inner : List Scope) → run_present fuel e (inner ++ barrier ∷ outer) ≡ run_present fuel e inner
    present_alone tree.no_expr inner = refl
    present_alone (tree.some_expr e) inner = λ i. expr_alone e inner i >>= (λ v. pure (v ∷ []))

    arms_alone : (arms : Arms) (v : Value) (site : Option Site) (inner : List Scope)
        → run_arms fuel arms v site (inner ++ barrier ∷ outer) ≡ run_arms fuel arms v site inner
    arms_alone tree.no_arms v site inner = refl
    arms_alone (tree.more_arms (tree.disabled_arm at by a) arms) v site inner = arms_alone arms v site inner
    arms_alone (tree.more_arms (tree.arm p e g) arms) v site inner = λ i.
        tests_pattern (written_pat p) v >>= (λ fits. if fits
        then guarded_alone g site inner (part_alone e inner) (arms_alone arms v site inner) i
        else arms_alone arms v site inner i)

    -- where the body and the arms behind it are alike
    guarded_alone : (g : Guard) (site : Option Site) (inner : List Scope) {body body' others others' : SyntaxRun Value}
        → body ≡ body' → others ≡ others'
        → run_guarded fuel g site body others (inner ++ barrier ∷ outer) ≡ run_guarded fuel g site body' others' inner
    guarded_alone tree.no_guard site inner h k = h
    guarded_alone (tree.guard c) site inner h k = λ i.
        part_alone c inner i >>= (λ v. tests is_true v site >>= (λ holds. if holds then h i else k i))

    else_alone : (b : OptionBlock) (fits : Bool) (inner : List Scope) {others others' : SyntaxRun Value} → others ≡ others'
        → run_else fuel b fits others (inner ++ barrier ∷ outer) ≡ run_else fuel b fits others' inner
    else_alone tree.no_block fits inner h = h
    else_alone (tree.some_block b) true inner h = h
    else_alone (tree.some_block b) false inner h = λ i. block_alone b inner i >> ends (leave unmatched)

    places_alone : (t : Target) (inner : List Scope) (m n : SyntaxRun (List Value)) → m ≡ n
        → run_places fuel t (inner ++ barrier ∷ outer) m ≡ run_places fuel t inner n
    places_alone (tree.absent_target at) inner m n h = h
    places_alone (tree.place_target at e) inner m n h = λ i. expr_alone e inner i >>= (λ v. h i >>= (λ vs. pure (v ∷ vs)))
    places_alone (tree.wild_target at) inner m n h = h
    places_alone (tree.macro_target at called t) inner m n h = places_alone t inner m n h
    places_alone (tree.path_target at p l) inner m n h = h
    places_alone (tree.tuple_target at ts) inner m n h = each_place_alone ts inner m n h
    places_alone (tree.call_target at p ts) inner m n h = λ i. if_read (path_of p) (each_place_alone ts inner m n h i) (h i)
    places_alone (tree.array_target at before dots after) inner m n h =
        each_place_alone before inner _ _ (each_place_alone after inner m n h)
    places_alone (tree.record_target at p fs dots spread) inner m n h = λ i. if_read (path_of p) (field_places_alone fs inner m n h i) (h i)

    each_place_alone : (ts : Targets) (inner : List Scope) (m n : SyntaxRun (List Value)) → m ≡ n
        → run_each_place fuel ts (inner ++ barrier ∷ outer) m ≡ run_each_place fuel ts inner n
    each_place_alone tree.no_targets inner m n h = h
    each_place_alone (tree.more_targets t ts) inner m n h = places_alone t inner _ _ (each_place_alone ts inner m n h)
    each_place_alone (tree.dots_targets ts) inner m n h = each_place_alone ts inner m n h
    each_place_alone (tree.tracked_targets called ts) inner m n h = each_place_alone ts inner m n h

    field_places_alone : (fs : TargetFields) (inner : List Scope) (m n : SyntaxRun (List Value)) → m ≡ n
        → run_field_places fuel fs (inner ++ barrier ∷ outer) m ≡ run_field_places fuel fs inner n
    field_places_alone tree.no_target_fields inner m n h = h
    field_places_alone (tree.more_target_fields (tree.target_field at (Some k) t) fs) inner m n h =
        places_alone t inner _ _ (field_places_alone fs inner m n h)
    field_places_alone (tree.more_target_fields (tree.target_field at None t) fs) inner m n h = field_places_alone fs inner m n h
    field_places_alone (tree.more_target_fields (tree.disabled_target_field at by) fs) inner m n h = field_places_alone fs inner m n h
    field_places_alone (tree.more_target_fields tree.partless_target_field fs) inner m n h = field_places_alone fs inner m n h

    each_alone : (es : Exprs) (inner : List Scope) → run_each fuel es (inner ++ barrier ∷ outer) ≡ run_each fuel es inner
    each_alone tree.no_exprs inner = refl
    each_alone (tree.more_exprs e es) inner = λ i.
        if is_kept e
        then (expr_alone e inner i >>= (λ v. each_alone es inner i >>= (λ vs. pure (v ∷ vs))))
        else each_alone es inner i

    fields_alone : (fs : Fields) (inner : List Scope) → run_fields fuel fs (inner ++ barrier ∷ outer) ≡ run_fields fuel fs inner
    fields_alone tree.no_fields inner = refl
    fields_alone (tree.more_fields (tree.named_field at name e) fs) inner = λ i.
        part_alone e inner i >>= (λ v. fields_alone fs inner i >>= (λ vs. pure (v ∷ vs)))
    fields_alone (tree.more_fields (tree.nameless_field at e) fs) inner = fields_alone fs inner
    fields_alone (tree.more_fields (tree.disabled_field at by f) fs) inner = fields_alone fs inner

    spread_alone : (s : Spread) (inner : List Scope) → run_spread fuel s (inner ++ barrier ∷ outer) ≡ run_spread fuel s inner
    spread_alone tree.no_spread inner = refl
    spread_alone tree.field_defaults inner = refl
    spread_alone (tree.spread_of e) inner = λ i. expr_alone e inner i >>= (λ v. pure (v ∷ []))

    block_alone : (b : Block) (inner : List Scope) → run_block fuel b (inner ++ barrier ∷ outer) ≡ run_block fuel b inner
    block_alone (tree.block at is_unsafe label _ number ss e) inner = rw (in_block_alone label inner)
        (ap (λ m. in_block_scope is_unsafe number (Some (site_of at)) (catch_label label m))
        (stmts_alone ss (is_left e) as_it_is (run_tail fuel e) (tail_alone e) (scopes_in_block label inner)))

    tail_alone : (e : OptionExpr) (inner : List Scope) → run_tail fuel e (inner ++ barrier ∷ outer) ≡ run_tail fuel e inner
    tail_alone tree.no_expr inner = refl
    tail_alone (tree.some_expr e) inner = λ i. if is_kept e then expr_alone e inner i else pure unit

    stmts_alone : (ss : Stmts) (has_tail : Bool) (out : SyntaxRun Value → SyntaxRun Value) (tail : List Scope → SyntaxRun Value)
        → ((inner : List Scope) → tail (inner ++ barrier ∷ outer) ≡ tail inner) → (inner : List Scope)
        → run_stmts fuel ss has_tail out tail (inner ++ barrier ∷ outer) ≡ run_stmts fuel ss has_tail out tail inner
    stmts_alone tree.no_stmts has_tail out tail h inner = ap out (h inner)
    stmts_alone (tree.more_stmts (tree.disabled_stmt at by s) ss) has_tail out tail h inner = stmts_alone ss has_tail out tail h inner
    stmts_alone (tree.more_stmts tree.item_stmt ss) has_tail out tail h inner = stmts_alone ss has_tail out tail h inner
    stmts_alone (tree.more_stmts (tree.call_stmt c) ss) has_tail out tail h inner = stmts_alone ss has_tail out tail h inner
    stmts_alone (tree.more_stmts (tree.macro_stmt k None) ss) has_tail out tail h inner = stmts_alone ss has_tail out tail h inner
    stmts_alone (tree.more_stmts (tree.macro_stmt k (Some d)) ss) has_tail out tail h inner =
        stmts_alone ss has_tail out tail h (macro_scope d ∷ inner)
    stmts_alone (tree.more_stmts (tree.let_stmt p t e b) ss) has_tail out tail h inner = λ i.
        present_alone e inner i >>= (λ vs. binds (written_pat p) (written_option_type t) vs
        >>= (λ fits. else_alone b fits inner (ap ends_temps (stmts_alone ss has_tail out tail h inner)) i))
    stmts_alone (tree.more_stmts (tree.expr_stmt e semi) ss) has_tail out tail h inner = λ i.
        if is_left e
        then (if is_last semi ss has_tail then out (part_alone e inner i)
        else (part_alone e inner i >> ends_temps (stmts_alone ss has_tail out tail h inner i)))
        else stmts_alone ss has_tail out tail h inner i

pub runs_alone : RunsAlone
runs_alone fuel e inner outer = part_alone fuel outer e inner
