-- What is told of a tree, by its parts in the order of lowering.
use Rattle.std.specs.Prelude.{Bool, true, false, not, [], Option, Some, None, is_some}
use Rattle.hir_store.specs.Pointers.{Pointer}
use Rattle.hir_store.specs.declared.diagnostics.ExpressionStoreDiagnostics.TheVariants.{InactiveCode, PatternArgInExternFn}
use Rattle.hir_env.specs.ResolvedTree as tree
use Rattle.hir_env.specs.ResolvedTree.{Binder, Type_, OptionType, Parts, Path, OptionPath, Segments, Segment, SegmentArgs, OptionParens}
use Rattle.hir_env.specs.ResolvedTree.{OptionRet, OptionArgs, Args, Arg, Bounds, Bound, Side, TypePat, OptionTypePat, TypePats, Limit}
use Rattle.hir_env.specs.ResolvedTree.{Pat, OptionPat, Pats, PatFields, PatField, Target, Targets, TargetFields, TargetField, Constant}
use Rattle.hir_env.specs.ResolvedTree.{Expr}
use Rattle.hir_env.specs.ResolvedTree.{OptionExpr, Exprs, Fields, Field, Spread, Block, OptionBlock, Stmts, Stmt, Arms, Arm, Guard}
use Rattle.hir_env.specs.ResolvedTree.{Param, Params}
use Rattle.hir_env.specs.Conditions.{holds_let}
use Rattle.spec_data.specs.Data.{no_types, tuple_shape, typed}
use Rattle.spec_data.specs.Patterns.{is_dots, ellipsis_of}
use Rattle.spec_data.specs.Targets.{target_dots}
use Rattle.spec_data.specs.Uses.{FirstUses}
use Rattle.spec_data.specs.Written.{absent_data, lifetime_data, parts_data, type_data, unit_data}
use Rattle.thm_logic.specs.PathSeen.{Seen, nothing_seen, at_first, segments_read, own_read, yields, whole_read}
use Rattle.thm_logic.specs.PatNames.{names_after, names_after_part, names_after_each, names_after_field}
use Rattle.thm_logic.specs.Grading.{Grading, if_so, before, grade_lifetime, grade_uses, or_missing, grade_name, behind_comma, grade_or}
use Rattle.thm_logic.specs.Grading.{grade_name_side, grade_rest, grade_spread, kept_of, labelled_of, grade_front, record_of, grade_await}
use Rattle.thm_logic.specs.Grading.{grade_assigned, grade_behind, grade_uncalled_pat, grade_uncalled_type, or_missing_target}
use Rattle.thm_logic.specs.Grading.{grade_impl, grade_range, condition, made_bind, item_call, flow_arm, residual, for_iteration, grade_try}

module _ {ℓ} (S : Grading {ℓ}) where
  abbrev mutual
    -- types, paths, arguments and bounds

    -- behind the lifetimes of a `for`
    pub grade_type_in : Option Binder → Type_ → S.G
    grade_type_in b (tree.paren_type t) = grade_part_in b t
    grade_type_in b (tree.macro_type at called tree.no_type) = grade_uncalled_type S at called
    grade_type_in b (tree.macro_type at called (tree.some_type t)) =
        S.then' (S.emitted called) (S.then' (grade_type_in b t) (S.type_call at))
    grade_type_in b (tree.for_type names t) = grade_part_in (Some names) t
    grade_type_in b (tree.leaf_type at form) = S.type_as (type_data b (tree.leaf_type at form))
    grade_type_in b (tree.over_type at form t) = S.then' (grade_part_in None t) (S.type_as (type_data b (tree.over_type at form t)))
    -- its length first
    grade_type_in b (tree.array_type at c t) =
        S.then' (grade_constant c) (S.then' (grade_part_in None t) (S.type_as (type_data b (tree.array_type at c t))))
    grade_type_in b (tree.tuple_type at ts) = S.then' (grade_parts ts) (S.type_as (type_data b (tree.tuple_type at ts)))
    grade_type_in b (tree.path_type at p) = S.then' (grade_whole p) (S.type_as (type_data b (tree.path_type at p)))
    grade_type_in b (tree.ref_type at l mutability t) = S.then' (grade_part_in None t)
        (S.then' (grade_lifetime S l) (S.type_as (type_data b (tree.ref_type at l mutability t))))
    -- what it answers before its parameters
    grade_type_in b (tree.fn_type at head ts r) =
        S.then' (grade_ret r) (S.then' (grade_parts ts) (S.type_as (type_data b (tree.fn_type at head ts r))))
    grade_type_in b (tree.impl_type at mode bs) =
        S.then' (grade_bounds bs) (grade_impl S mode (type_data b (tree.impl_type at mode bs)))
    grade_type_in b (tree.nested_impl at) = S.type_as (type_data b (tree.nested_impl at))
    grade_type_in b (tree.dyn_type at bs) = S.then' (grade_bounds bs) (S.type_as (type_data b (tree.dyn_type at bs)))
    grade_type_in b (tree.pattern_type at t own p) = S.then' (grade_part_in None t)
        (S.then' (grade_type_pat_part p) (S.type_as (type_data b (tree.pattern_type at t own p))))

    -- an error where it is absent
    pub grade_part_in : Option Binder → OptionType → S.G
    grade_part_in b tree.no_type = S.type_as absent_data
    grade_part_in b (tree.some_type t) = grade_type_in b t

    -- or `()`
    pub grade_ret : OptionType → S.G
    grade_ret tree.no_type = S.type_as unit_data
    grade_ret (tree.some_type t) = grade_type_in None t

    pub grade_present : OptionType → S.G
    grade_present tree.no_type = S.none
    grade_present (tree.some_type t) = grade_type_in None t

    pub grade_parts : Parts → S.G
    grade_parts tree.no_parts = S.none
    grade_parts (tree.more_parts t ts) = S.then' (grade_part_in None t) (grade_parts ts)

    pub grade_segment : Bool → Segment → Seen → S.G
    grade_segment first (tree.name_segment n _ as') x = grade_beside as'
    grade_segment first tree.super_segment x = S.super x.supers
    grade_segment true (tree.type_segment t) x = grade_type_in None t
    -- the trait is stored as a type too, where its path isn't refused
    grade_segment true (tree.trait_segment t at p) x =
        S.then' (grade_type_in None t)
        (S.then' (grade_whole p) (if_so S (is_some (whole_read p)) (S.type_as (type_data None (tree.path_type at p)))))
    grade_segment first s x = S.none

    -- from the last
    pub grade_segments : Segments → Seen → S.G
    grade_segments tree.no_segments x = S.none
    grade_segments (tree.more_segments s ss) x =
        S.then' (grade_segments ss x) (before S (segments_read ss x) (λ y. grade_segment false s y))

    -- its own segments, and then those of the use tree around it
    pub grade_path : Path → Seen → S.G
    grade_path (tree.path alias leading first rest use_) x =
        S.then' (S.then' (grade_segments rest x) (before S (segments_read rest x) (λ y. grade_segment true first (at_first leading y))))
        (before S (own_read leading first rest x) (λ y. grade_outer use_ y))

    pub grade_outer : OptionPath → Seen → S.G
    grade_outer tree.no_path x = S.none
    grade_outer (tree.some_path p) x = grade_path p x

    -- of a path from its end
    pub grade_whole : OptionPath → S.G
    grade_whole tree.no_path = S.none
    grade_whole (tree.some_path p) = grade_path p nothing_seen

    -- `(A) -> C` is read where `<..>` yields none
    pub grade_beside : SegmentArgs → S.G
    grade_beside (tree.segment_args as' ps dots) = S.then' (grade_args as') (if_so S (not (yields as')) (grade_parens ps))

    -- the types make a tuple
    pub grade_parens : OptionParens → S.G
    grade_parens tree.no_parens = S.none
    grade_parens (tree.some_parens ts r) =
        S.then' (grade_parts ts) (S.then' (S.type_as (typed None (tuple_shape (parts_data ts no_types)))) (grade_output r))

    pub grade_output : OptionRet → S.G
    grade_output tree.no_ret = S.type_as unit_data
    grade_output (tree.some_ret t) = grade_part_in None t

    pub grade_args : OptionArgs → S.G
    grade_args tree.no_arg_list = S.none
    grade_args (tree.some_arg_list as') = grade_each as'

    pub grade_each : Args → S.G
    grade_each tree.no_args = S.none
    grade_each (tree.more_args a as') = S.then' (grade_arg a) (grade_each as')

    pub grade_arg : Arg → S.G
    grade_arg tree.skipped_arg = S.none
    grade_arg (tree.type_arg t) = grade_part_in None t
    grade_arg (tree.lifetime_arg l) = S.lifetime_as (lifetime_data l)
    grade_arg (tree.const_arg c) = grade_constant c
    grade_arg (tree.assoc_arg n as' dots t bs) = S.then' (grade_args as') (S.then' (grade_present t) (grade_bounds bs))

    pub grade_bounds : Bounds → S.G
    grade_bounds tree.no_bounds = S.none
    grade_bounds (tree.more_bounds b bs) = S.then' (grade_bound b) (grade_bounds bs)

    -- a path is a type, where it isn't refused
    pub grade_bound : Bound → S.G
    grade_bound tree.error_bound = S.none
    grade_bound (tree.path_bound at p maybe binder) =
        S.then' (grade_whole p) (if_so S (is_some (whole_read p)) (S.type_as (type_data None (tree.path_type at p))))
    grade_bound (tree.lifetime_bound l) = S.lifetime_as (lifetime_data l)
    grade_bound (tree.use_bound us) = grade_uses S us

    -- patterns of types

    pub grade_type_pat : TypePat → S.G
    grade_type_pat (tree.not_null_type_pat at) = S.pat_at (Some at)
    grade_type_pat (tree.macro_type_pat at called tree.no_type_pat) = grade_uncalled_pat S at called
    grade_type_pat (tree.macro_type_pat at called (tree.some_type_pat p)) =
        S.then' (S.emitted called) (S.then' (grade_type_pat p) (S.pat_call at))
    grade_type_pat (tree.or_type_pat at ps) = S.then' (grade_type_pats ps) (S.pat_at (Some at))
    grade_type_pat (tree.range_type_pat at low high) = S.then' (grade_limit low) (S.then' (grade_limit high) (S.pat_at (Some at)))
    grade_type_pat (tree.other_type_pat at) = S.pat_at (Some at)

    pub grade_type_pat_part : OptionTypePat → S.G
    grade_type_pat_part tree.no_type_pat = S.pat_at None
    grade_type_pat_part (tree.some_type_pat p) = grade_type_pat p

    pub grade_type_pats : TypePats → S.G
    grade_type_pats tree.no_type_pats = S.none
    grade_type_pats (tree.more_type_pats p ps) = S.then' (grade_type_pat p) (grade_type_pats ps)

    -- in each stands the side, an item, or a call of the item with the side
    pub grade_limit : Limit → S.G
    grade_limit (tree.item_limit item) = S.inner (tree.item_limit item) S.expr
    grade_limit (tree.side_limit s) = S.inner (tree.side_limit s) (grade_limit_side s)
    grade_limit (tree.before_limit item s) =
        S.inner (tree.before_limit item s) (S.then' (grade_limit_side s) (S.then' S.expr S.expr))

    -- what is no side is missing
    pub grade_limit_side : Side → S.G
    grade_limit_side (tree.path_side at p) = S.then' (grade_whole p) S.expr
    grade_limit_side s = S.expr

    -- patterns, where these names have a use

    pub grade_pat : Pat → FirstUses → S.G
    grade_pat (tree.leaf_pat at form) us = S.pat_at (Some at)
    -- what stands behind `@` before the name
    grade_pat (tree.bind_pat at u _ sub) us =
        S.then' (grade_subpat sub us) (S.then' (grade_name S (names_after_part sub us) u) (S.pat_at (Some at)))
    grade_pat (tree.name_pat at u _) us = S.pat_at (Some at)
    grade_pat (tree.path_pat at p) us = S.then' (grade_whole p) (S.pat_at (Some at))
    -- without its path nothing else is read
    grade_pat (tree.tuple_struct_pat at p comma ps) us = S.then' (grade_whole p) (or_missing S (is_some (whole_read p))
        (S.then' (grade_elements ps us) (S.then' (behind_comma S comma (S.dots (ellipsis_of comma ps))) (S.pat_at (Some at)))))
    grade_pat (tree.tuple_pat at comma ps) us =
        S.then' (grade_elements ps us) (S.then' (behind_comma S comma (S.dots (ellipsis_of comma ps))) (S.pat_at (Some at)))
    grade_pat (tree.record_pat at p fs dots) us = S.then' (grade_whole p)
        (or_missing S (is_some (whole_read p)) (S.then' (grade_pat_fields fs us) (S.pat_at (Some at))))
    grade_pat (tree.or_pat at ps) us = grade_alternatives at ps us
    grade_pat (tree.paren_pat at p) us = grade_pat_part p us
    grade_pat (tree.macro_pat at called tree.no_pat) us = grade_uncalled_pat S at called
    grade_pat (tree.macro_pat at called (tree.some_pat p)) us = S.then' (S.emitted called) (S.then' (grade_pat p us) (S.pat_call at))
    grade_pat (tree.barred_pat at) us = S.then' (S.fault (PatternArgInExternFn at)) (S.pat_at None)
    grade_pat (tree.slice_pat at before middle behind) us =
        let between = names_after_each before us in
        let past = names_after_part middle between in
        S.then' (grade_pats before us)
        (S.then' (grade_subpat middle between) (S.then' (grade_pats behind past) (S.pat_at (Some at))))
    grade_pat (tree.over_pat at form p) us = S.then' (grade_pat_part p us) (S.pat_at (Some at))
    grade_pat (tree.literal_pat at own l) us = S.then' S.expr (S.pat_at (Some at))
    grade_pat (tree.range_pat at op low high) us = S.then' (grade_side low) (S.then' (grade_side high) (S.pat_at (Some at)))

    -- missing where it is absent
    pub grade_pat_part : OptionPat → FirstUses → S.G
    grade_pat_part tree.no_pat us = S.pat_at None
    grade_pat_part (tree.some_pat p) us = grade_pat p us

    pub grade_subpat : OptionPat → FirstUses → S.G
    grade_subpat tree.no_pat us = S.none
    grade_subpat (tree.some_pat p) us = grade_pat p us

    pub grade_pats : Pats → FirstUses → S.G
    grade_pats tree.no_pats us = S.none
    grade_pats (tree.more_pats p ps) us = S.then' (grade_pat p us) (grade_pats ps (names_after p us))
    grade_pats (tree.tracked_pats called ps) us = S.then' (S.emitted called) (grade_pats ps us)

    pub grade_alternatives : Pointer → Pats → FirstUses → S.G
    grade_alternatives at tree.no_pats us = S.pat_at (Some at)
    grade_alternatives at (tree.more_pats p ps) us =
        S.then' (grade_pat p us) (S.then' (grade_pats ps (names_after p us)) (grade_or S at ps))
    grade_alternatives at (tree.tracked_pats called ps) us = S.then' (S.emitted called) (grade_alternatives at ps us)

    -- two dots are no part of a tuple
    pub grade_elements : Pats → FirstUses → S.G
    grade_elements tree.no_pats us = S.none
    grade_elements (tree.more_pats p ps) us =
        S.then' (if_so S (not (is_dots p)) (grade_pat p us)) (grade_elements ps (names_after p us))
    grade_elements (tree.tracked_pats called ps) us = S.then' (S.emitted called) (grade_elements ps us)

    pub grade_pat_fields : PatFields → FirstUses → S.G
    grade_pat_fields tree.no_pat_fields us = S.none
    grade_pat_fields (tree.more_pat_fields f fs) us = S.then' (grade_pat_field f us) (grade_pat_fields fs (names_after_field f us))

    -- one without a name is read
    pub grade_pat_field : PatField → FirstUses → S.G
    grade_pat_field (tree.disabled_pat_field at by f) us = S.fault (InactiveCode at by)
    grade_pat_field tree.partless_pat_field us = S.none
    grade_pat_field (tree.pat_field at n p) us = grade_pat p us

    -- what is no side is absent
    pub grade_side : Side → S.G
    grade_side tree.no_side = S.none
    grade_side (tree.literal_side at l) = S.expr
    grade_side (tree.name_side at n _) = grade_name_side S n
    grade_side (tree.path_side at p) = S.then' (grade_whole p) (if_so S (is_some (whole_read p)) S.expr)
    grade_side tree.other_side = S.none

    -- a whole one, before which no name has a use
    pub grade_top : OptionPat → S.G
    grade_top tree.no_pat = S.pat_at None
    grade_top (tree.some_pat p) = grade_pat p []

    -- the assignee expression

    pub grade_target : Target → S.G
    grade_target (tree.absent_target call) = S.made_pat_at call
    grade_target (tree.place_target at e) = S.then' (grade_expr e) (S.made_pat_at (Some at))
    grade_target (tree.macro_target None called t) = S.then' (S.emitted called) (grade_target t)
    grade_target (tree.macro_target (Some at) called t) = S.then' (S.emitted called) (S.then' (grade_target t) (S.target_mapping at))
    grade_target (tree.wild_target at) = grade_assigned S at
    grade_target (tree.path_target at p h) = S.then' (grade_path p nothing_seen) (grade_assigned S at)
    grade_target (tree.tuple_target at ts) = S.then' (grade_targets ts) (S.then' (S.dots (target_dots ts)) (grade_assigned S at))
    grade_target (tree.call_target at p ts) = S.then' (grade_whole p) (or_missing_target S at.call (is_some (whole_read p))
        (S.then' (grade_targets ts) (S.then' (S.dots (target_dots ts)) (grade_assigned S at))))
    -- the two dots behind the parts on both sides of them
    grade_target (tree.array_target at before dots behind) = S.then' (grade_targets before)
        (S.then' (grade_targets behind) (S.then' (grade_rest S dots) (grade_assigned S at)))
    grade_target (tree.record_target at p fs dots spread) = S.then' (grade_whole p) (or_missing_target S at.call (is_some (whole_read p))
        (S.then' (grade_spread S spread) (S.then' (grade_target_fields fs) (grade_assigned S at))))

    pub grade_targets : Targets → S.G
    grade_targets tree.no_targets = S.none
    grade_targets (tree.more_targets t ts) = S.then' (grade_target t) (grade_targets ts)
    grade_targets (tree.dots_targets ts) = grade_targets ts
    grade_targets (tree.tracked_targets called ts) = S.then' (S.emitted called) (grade_targets ts)

    pub grade_target_fields : TargetFields → S.G
    grade_target_fields tree.no_target_fields = S.none
    grade_target_fields (tree.more_target_fields f fs) = S.then' (grade_target_field f) (grade_target_fields fs)

    pub grade_target_field : TargetField → S.G
    grade_target_field (tree.disabled_target_field at by) = S.fault (InactiveCode at by)
    grade_target_field tree.partless_target_field = S.none
    grade_target_field (tree.target_field at n t) = grade_target t

    -- constants

    -- a length or an argument
    pub grade_constant : Constant → S.G
    grade_constant (tree.constant e) = S.constant e (grade_expr_part e)

    -- that of a `const` block
    pub grade_rooted : Constant → S.G
    grade_rooted (tree.constant e) = S.rooted e (grade_expr_part e)

    -- expressions

    pub grade_expr : Expr → S.G
    grade_expr (tree.disabled_expr why e) = S.then' (S.gone why) S.expr
    -- the branches are lowered before the condition
    grade_expr (tree.if_expr at c t e) =
        S.then' (grade_block_part t) (S.then' (grade_expr_present e) (S.then' (grade_expr_part c) S.expr))
    grade_expr (tree.block_expr b) = grade_block b
    grade_expr (tree.loop_expr at label _ b) = S.looped label (grade_block_part b)
    -- the body before the condition, then a break and the turn
    grade_expr (tree.while_expr at label _ c b) =
        S.looped label (S.then' (grade_block_part b) (S.then' (condition S (holds_let c) (grade_expr_part c)) (S.then' S.expr S.expr)))
    -- a call on the head, the pattern, and a name that the call's value has; then the loop, and the match around it
    grade_expr (tree.for_expr at items label _ p h b) = S.then' (grade_expr_part h) (S.then' (item_call S) (S.then' (grade_top p)
        (S.then' S.generated_name (S.then' (made_bind S)
        (S.then' (S.looped label (for_iteration S (grade_expr_part b))) S.expr)))))
    -- a call, an arm that names what it holds, one that makes of it what leaves, and the match
    grade_expr (tree.question_expr at items e) = S.then' (grade_expr_part e) (S.then' (item_call S)
        (S.then' (flow_arm S S.expr) (S.then' (flow_arm S (residual S)) S.expr)))
    grade_expr (tree.itemless_expr at) = S.expr
    grade_expr (tree.try_expr at item tree.no_type number ss e) = grade_try S false number ss e (grade_stmts ss (grade_kept e))
    -- and then a `let` of that type in a block
    grade_expr (tree.try_expr at item (tree.some_type t) number ss e) =
        S.then' (grade_try S true number ss e (grade_stmts ss (grade_kept e)))
        (S.then' S.generated_name (S.then' (grade_type_in None t) (S.then' (made_bind S) (S.then' S.expr S.expr))))
    grade_expr (tree.coroutine_expr at kind moves number ss e) = S.coroutine number (grade_stmts ss (grade_kept e))
    grade_expr (tree.call_expr at f has_list es) = S.then' (grade_expr_part f) (S.then' (grade_exprs es) S.expr)
    grade_expr (tree.path_expr at p h) = S.then' (grade_whole p) S.expr
    grade_expr (tree.continue_expr at jump) = S.then' (S.jump jump) S.expr
    grade_expr (tree.break_expr at jump e) = S.then' (S.jump jump) (S.then' (grade_expr_present e) S.expr)
    grade_expr (tree.paren_expr at e) = grade_expr_part e
    grade_expr (tree.macro_expr at called e) = S.then' (S.emitted called) (grade_expr_part e)
    grade_expr (tree.literal_expr at l) = S.expr
    grade_expr (tree.leaf_expr at form) = S.expr
    grade_expr (tree.unary_expr at form e) = S.then' (grade_expr_part e) S.expr
    grade_expr (tree.binary_expr at form a b) = S.then' (grade_expr_part a) (S.then' (grade_expr_part b) S.expr)
    grade_expr (tree.lazy_expr at op a b) = S.then' (grade_expr_part a) (S.then' (grade_expr_part b) S.expr)
    grade_expr (tree.list_expr at form es) = S.then' (grade_exprs es) (grade_front S form)
    grade_expr (tree.repeat_expr at e c) = S.then' (grade_expr_part e) (S.then' (grade_constant c) S.expr)
    grade_expr (tree.const_expr at c) = S.owned (S.then' (grade_rooted c) S.expr)
    grade_expr (tree.closure_expr at moves is_static xs t e) = S.closure (grade_params xs) (grade_present t) (grade_expr_part e)
    grade_expr (tree.coroutine_closure_expr at kind moves xs t e) =
        S.coroutine_closure xs (grade_params xs) (grade_present t) (grade_expr_part e)
    grade_expr (tree.method_call_expr at e name es generics) =
        S.then' (grade_expr_part e) (S.then' (grade_exprs es) (S.then' (grade_args generics) S.expr))
    grade_expr (tree.cast_expr at e t) = S.then' (grade_expr_part e) (S.then' (grade_part_in None t) S.expr)
    -- where the path is absent or refused nothing else is read
    grade_expr (tree.record_expr at p head fs s) =
        S.then' (grade_whole p) (record_of S (is_some (whole_read p)) (S.then' (grade_fields fs) (grade_expr_spread s)))
    grade_expr (tree.offset_of_expr at t names) = S.then' (grade_part_in None t) S.expr
    grade_expr (tree.leaving_expr at form e) = S.then' (grade_expr_present e) S.expr
    grade_expr (tree.become_expr at e) = S.then' (grade_expr_part e) S.expr
    grade_expr (tree.yield_expr at e) = S.yielding (S.then' (grade_expr_present e) S.expr)
    grade_expr (tree.await_expr at location e) = S.then' (grade_expr_part e) (S.then' (grade_await S at location) S.expr)
    grade_expr (tree.nameless_expr at e) = S.then' (grade_expr_part e) S.expr
    grade_expr (tree.let_expr at p e) = S.then' (grade_top p) (S.then' (grade_expr_part e) S.expr)
    grade_expr (tree.match_expr at e arms) = S.then' (grade_expr_part e) (S.then' (grade_arms arms) S.expr)
    grade_expr (tree.range_expr at form low high) =
        S.then' (grade_expr_present low) (S.then' (grade_expr_present high) (grade_range S form))
    -- the target before the value
    grade_expr (tree.assign_expr at own t e) = S.then' (grade_target t) (S.then' (grade_expr_part e) S.expr)

    pub grade_params : Params → S.G
    grade_params tree.no_params = S.none
    grade_params (tree.more_params x xs) = S.then' (grade_param x) (grade_params xs)

    pub grade_param : Param → S.G
    grade_param (tree.disabled_param at by x) = S.fault (InactiveCode at by)
    grade_param (tree.param p t) = S.then' (grade_top p) (grade_present t)

    -- of a part that is missing where it is absent
    pub grade_expr_part : OptionExpr → S.G
    grade_expr_part tree.no_expr = S.expr
    grade_expr_part (tree.some_expr e) = grade_expr e

    pub grade_expr_present : OptionExpr → S.G
    grade_expr_present tree.no_expr = S.none
    grade_expr_present (tree.some_expr e) = grade_expr e

    pub grade_kept : OptionExpr → S.G
    grade_kept tree.no_expr = S.none
    grade_kept (tree.some_expr e) = kept_of S e (grade_expr e)

    pub grade_exprs : Exprs → S.G
    grade_exprs tree.no_exprs = S.none
    grade_exprs (tree.more_exprs e es) = S.then' (kept_of S e (grade_expr e)) (grade_exprs es)

    pub grade_fields : Fields → S.G
    grade_fields tree.no_fields = S.none
    grade_fields (tree.more_fields f fs) = S.then' (grade_field f) (grade_fields fs)

    pub grade_field : Field → S.G
    grade_field (tree.disabled_field at by f) = S.fault (InactiveCode at by)
    grade_field (tree.nameless_field at e) = S.none
    grade_field (tree.named_field at name e) = grade_expr_part e

    pub grade_arms : Arms → S.G
    grade_arms tree.no_arms = S.none
    grade_arms (tree.more_arms a arms) = S.then' (grade_arm a) (grade_arms arms)

    -- the guard behind the expression
    pub grade_arm : Arm → S.G
    grade_arm (tree.disabled_arm at by a) = S.fault (InactiveCode at by)
    grade_arm (tree.arm p e g) = S.then' (grade_top p) (S.then' (grade_expr_part e) (grade_guard g))

    pub grade_guard : Guard → S.G
    grade_guard tree.no_guard = S.none
    grade_guard (tree.guard e) = grade_expr_part e

    pub grade_expr_spread : Spread → S.G
    grade_expr_spread tree.no_spread = S.none
    grade_expr_spread tree.field_defaults = S.none
    grade_expr_spread (tree.spread_of e) = grade_expr e

    pub grade_block : Block → S.G
    grade_block (tree.block at is_unsafe label _ number ss e) =
        labelled_of S label (S.then' (S.block number) (S.then' (grade_stmts ss (grade_kept e)) S.expr))

    pub grade_block_part : OptionBlock → S.G
    grade_block_part tree.no_block = S.expr
    grade_block_part (tree.some_block b) = grade_block b

    pub grade_block_present : OptionBlock → S.G
    grade_block_present tree.no_block = S.none
    grade_block_present (tree.some_block b) = grade_block b

    -- with what is told of the tail
    pub grade_stmts : Stmts → S.G → S.G
    grade_stmts tree.no_stmts tail = tail
    grade_stmts (tree.more_stmts s ss) tail = S.then' (grade_stmt s) (grade_behind S s (grade_stmts ss tail))

    pub grade_stmt : Stmt → S.G
    grade_stmt (tree.expr_stmt e semi) = grade_kept e
    grade_stmt (tree.disabled_stmt at by s) = S.fault (InactiveCode at by)
    grade_stmt tree.item_stmt = S.none
    grade_stmt (tree.call_stmt c) = S.tracked c
    grade_stmt (tree.macro_stmt k d) = S.def k
    grade_stmt (tree.let_stmt p t e b) =
        S.then' (grade_top p) (S.then' (grade_present t) (S.then' (grade_expr_present e) (grade_block_present b)))

  -- behind no `for`
  abbrev pub grade_type : Type_ → S.G
  grade_type t = grade_type_in None t

  abbrev pub grade_part : OptionType → S.G
  grade_part t = grade_part_in None t
