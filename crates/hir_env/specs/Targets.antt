-- What an expression is as something that is assigned to. It is decided before anything of it is lowered.
use Rattle.std.specs.Prelude.{if◌then◌else◌, Bool, true, false, Option, Some, None, is_some}
use Rattle.hir_store.specs.Pointers.{Pointer}
use Rattle.hir_store.specs.declared.ids.HygieneId.{HygieneId}
use Rattle.hir_store.specs.declared.path.ModPath.{ModPath}
use Rattle.hir_env.specs.declared.ctx.LowerCtx.{LowerCtx}
use Rattle.hir_env.specs.declared.resolved.Resolution.{Resolution}
use Rattle.hir_env.specs.declared.resolved.Resolution.TheVariants as resolution
use Rattle.hir_env.specs.declared.resolved.Resolved.{Resolved}
use Rattle.hir_env.specs.declared.resolved.BuiltinShadowMode.TheVariants as shadow
use Rattle.hir_env.specs.Answers.{Answers}
use Rattle.hir_env.specs.PathNames.{mod_path_of}
use Rattle.hir_env.specs.ResolvedTree as tree
use Rattle.hir_env.specs.ResolvedTree.{Path, OptionPath, Expr, OptionExpr, Exprs, Fields, Field, Spread, Block, Target, Targets}
use Rattle.hir_env.specs.ResolvedTree.{Called, Origin, TargetFields, TargetField}

abbrev pub block_pointer : Block → Pointer
block_pointer (tree.block at is_unsafe label _ number ss e) = at

-- the node of an expression
abbrev pub pointer_of : Expr → Pointer
pointer_of (tree.disabled_expr why e) = pointer_of e
pointer_of (tree.if_expr at c t e) = at
pointer_of (tree.block_expr b) = block_pointer b
pointer_of (tree.loop_expr at label _ b) = at
pointer_of (tree.while_expr at label _ c b) = at
pointer_of (tree.for_expr at items label _ p h b) = at
pointer_of (tree.question_expr at items e) = at
pointer_of (tree.itemless_expr at) = at
pointer_of (tree.try_expr at item t number ss e) = at
pointer_of (tree.coroutine_expr at kind moves number ss e) = at
pointer_of (tree.call_expr at f has_list es) = at
pointer_of (tree.path_expr at p h) = at
pointer_of (tree.continue_expr at jump) = at
pointer_of (tree.break_expr at jump e) = at
pointer_of (tree.paren_expr at e) = at
pointer_of (tree.literal_expr at l) = at
pointer_of (tree.leaf_expr at form) = at
pointer_of (tree.unary_expr at form e) = at
pointer_of (tree.binary_expr at form a b) = at
pointer_of (tree.lazy_expr at op a b) = at
pointer_of (tree.list_expr at form es) = at
pointer_of (tree.repeat_expr at e c) = at
pointer_of (tree.const_expr at c) = at
pointer_of (tree.closure_expr at moves is_static ps r e) = at
pointer_of (tree.coroutine_closure_expr at kind moves ps r e) = at
pointer_of (tree.method_call_expr at e name es as') = at
pointer_of (tree.leaving_expr at form e) = at
pointer_of (tree.become_expr at e) = at
pointer_of (tree.yield_expr at e) = at
pointer_of (tree.await_expr at location e) = at
pointer_of (tree.cast_expr at e t) = at
pointer_of (tree.record_expr at p head fs s) = at
pointer_of (tree.offset_of_expr at t names) = at
pointer_of (tree.nameless_expr at e) = at
pointer_of (tree.let_expr at p e) = at
pointer_of (tree.match_expr at e arms) = at
pointer_of (tree.range_expr at form a b) = at
pointer_of (tree.assign_expr at e t v) = at
pointer_of (tree.macro_expr at called e) = at

-- the node of the head of a `for`, which is the form's where the head is absent
abbrev pub head_pointer : Pointer → OptionExpr → Pointer
head_pointer at tree.no_expr = at
head_pointer at (tree.some_expr e) = pointer_of e

-- paths

-- what a path that is found in full stands for where it doesn't stand for a place
abbrev pub is_pattern : Option Resolution → Bool
is_pattern (Some resolution.Const) = true
is_pattern (Some resolution.Variant) = true
is_pattern (Some resolution.Struct) = true
is_pattern (Some resolution.Union) = true
is_pattern (Some resolution.Enum) = true
is_pattern _ = false

-- one that is found in part may stand for an item of the type that is found
abbrev pub is_target : Resolved → Bool
is_target r = if is_some r.rest then is_some r.types else is_pattern r.values

module _ (env : Answers) (p : LowerCtx) where
  abbrev pub names_target : Option ModPath → Bool
  names_target None = false
  names_target (Some names) = is_target (env.resolve p.module_id names shadow.Local)

  -- whether a path is no place; a type in front of it doesn't count
  abbrev pub resolves : Path → Bool
  resolves x = names_target (mod_path_of (tree.some_path x))

-- two dots, callees and spreads, whose conditions aren't asked for

-- `..`, a range without start and end
abbrev pub is_dots : Expr → Bool
is_dots (tree.disabled_expr why e) = is_dots e
is_dots (tree.range_expr at form tree.no_expr tree.no_expr) = true
is_dots _ = false

-- the same, itself or what a call stands for
abbrev pub comes_to_dots : Expr → Bool
comes_to_dots (tree.disabled_expr why e) = comes_to_dots e
comes_to_dots (tree.macro_expr s c (tree.some_expr e)) = comes_to_dots e
comes_to_dots (tree.range_expr at form tree.no_expr tree.no_expr) = true
comes_to_dots _ = false

-- the path of a callee, where the callee is a path as it stands, or a call stands for one
abbrev pub callee_path : Expr → Option OptionPath
callee_path (tree.disabled_expr why e) = callee_path e
callee_path (tree.macro_expr s c (tree.some_expr e)) = callee_path e
callee_path (tree.path_expr at p h) = Some p
callee_path _ = None

abbrev pub spread_pointer : Spread → Option Pointer
spread_pointer tree.no_spread = None
spread_pointer tree.field_defaults = None
spread_pointer (tree.spread_of e) = Some (pointer_of e)

-- the first two dots, or the outermost call that they come out of
abbrev pub dots_pointer : Exprs → Option Pointer
dots_pointer tree.no_exprs = None
dots_pointer (tree.more_exprs e es) = if comes_to_dots e then Some (pointer_of e) else dots_pointer es

-- the calls that two dots come out of, in front of these
abbrev pub tracked_in : Expr → Targets → Targets
tracked_in (tree.disabled_expr why e) ts = tracked_in e ts
tracked_in (tree.macro_expr s c (tree.some_expr e)) ts = tree.tracked_targets c (tracked_in e ts)
tracked_in _ ts = ts

-- targets

-- the outermost of some calls, the inner of which stands here
abbrev pub outermost : Option Pointer → Pointer → Pointer
outermost None at = at
outermost (Some call) at = call

abbrev pub origin : Option Pointer → Pointer → Origin
origin call at = record { node = at; call = call }

-- the node that a pattern comes from
abbrev pub source_of : Origin → Pointer
source_of at = outermost at.call at.node

abbrev pub place_of : Option Pointer → Expr → Target
place_of call e = tree.place_target (outermost call (pointer_of e)) e

-- what is disabled: a place, except for a call that stands for such an expression, which is what that is
abbrev pub gone_or : Option Pointer → Target → Expr → Target
gone_or call place (tree.macro_expr s c (tree.some_expr (tree.disabled_expr why e))) =
    tree.macro_target (Some s) c (gone_or call (place_of call (tree.disabled_expr why e)) e)
gone_or call place _ = place

-- A call that is an element leads nowhere, except for one that the text lacks: that leads to what is missing.
abbrev pub node_of_lacking : Called → Pointer → Option Pointer
node_of_lacking tree.callless at = Some at
node_of_lacking _ at = None

-- the calls that a callee comes out of, around the call of it
abbrev pub around_callee : Expr → Target → Target
around_callee (tree.disabled_expr why e) t = around_callee e t
around_callee (tree.macro_expr s c (tree.some_expr e)) t = tree.macro_target None c (around_callee e t)
around_callee _ t = t

abbrev pub call_or : Target → Origin → Expr → Option OptionPath → Targets → Target
call_or place at f None ts = place
call_or place at f (Some p) ts = around_callee f (tree.call_target at p ts)

-- a call without a list of arguments is a place
abbrev pub called_or : Target → Origin → OptionExpr → Bool → Targets → Target
called_or place at (tree.some_expr f) true ts = call_or place at f (callee_path f) ts
called_or place at _ _ ts = place

module _ (is_found : Path → Bool) where
  abbrev pub path_or : Target → Origin → OptionPath → HygieneId → Target
  path_or place at tree.no_path h = place
  path_or place at (tree.some_path p) h = if is_found p then tree.path_target at p h else place

  abbrev mutual
    -- With the outermost call, where it is an element that comes out of calls, and what it is as a place: each is one that isn't
    -- named here. Parentheses are what stands in them, and a call is what it stands for.
    pub target_or : Option Pointer → Target → Expr → Target
    target_or call place (tree.disabled_expr why e) = gone_or call place e
    target_or call place (tree.leaf_expr at tree.underscore) = tree.wild_target (origin call at)
    target_or call place (tree.paren_expr at tree.no_expr) = place
    target_or call place (tree.paren_expr at (tree.some_expr e)) =
        if is_dots e then tree.tuple_target (origin call at) (tree.dots_targets tree.no_targets) else target_or call place e
    target_or call place (tree.macro_expr s c e) = tree.macro_target (Some s) c (target_in call e)
    target_or call place (tree.list_expr at (tree.tuple_of comma) es) = tree.tuple_target (origin call at) (elements es)
    target_or call place (tree.list_expr at tree.array_of es) =
        tree.array_target (origin call at) (before_dots es) (dots_pointer es) (behind_dots es)
    target_or call place (tree.call_expr at f has_list es) = called_or place (origin call at) f has_list (elements es)
    target_or call place (tree.path_expr at p h) = path_or place (origin call at) p h
    target_or call place (tree.record_expr at p head fs s) =
        if head.has_list then tree.record_target (origin call at) p (target_fields fs) head.has_dots (spread_pointer s) else place
    target_or call place _ = place

    pub target_in : Option Pointer → OptionExpr → Target
    target_in call tree.no_expr = tree.absent_target call
    target_in call (tree.some_expr e) = target_or call (place_of call e) e

    -- An element of a tuple or a call, or in front of the two dots of an array, with what it is where it is no call. One that is a call
    -- is what that stands for, whatever disables the call, and is missing at the outermost call where that is nothing.
    pub element_or : Option Pointer → Target → Expr → Target
    element_or call other (tree.disabled_expr why e) = element_or call other e
    element_or call other (tree.macro_expr s c e) = tree.macro_target (node_of_lacking c s) c (element_in (outermost call s) e)
    element_or call other _ = other

    pub element_in : Pointer → OptionExpr → Target
    element_in call tree.no_expr = tree.absent_target (Some call)
    element_in call (tree.some_expr e) = element_or (Some call) (target_or (Some call) (place_of (Some call) e) e) e

    -- of a tuple or a call
    pub elements : Exprs → Targets
    elements tree.no_exprs = tree.no_targets
    elements (tree.more_exprs e es) = if comes_to_dots e then tracked_in e (tree.dots_targets (elements es))
        else tree.more_targets (element_or None (target_or None (place_of None e) e) e) (elements es)

    -- of an array, in front of its first two dots, with the calls that these come out of, and behind them
    pub before_dots : Exprs → Targets
    before_dots tree.no_exprs = tree.no_targets
    before_dots (tree.more_exprs e es) =
        if comes_to_dots e then tracked_in e tree.no_targets
        else tree.more_targets (element_or None (target_or None (place_of None e) e) e) (before_dots es)

    pub behind_dots : Exprs → Targets
    behind_dots tree.no_exprs = tree.no_targets
    behind_dots (tree.more_exprs e es) = if comes_to_dots e then each_target es else behind_dots es

    pub each_target : Exprs → Targets
    each_target tree.no_exprs = tree.no_targets
    each_target (tree.more_exprs e es) = tree.more_targets (target_or None (place_of None e) e) (each_target es)

    pub target_fields : Fields → TargetFields
    target_fields tree.no_fields = tree.no_target_fields
    target_fields (tree.more_fields f fs) = tree.more_target_fields (target_field_of f) (target_fields fs)

    pub target_field_of : Field → TargetField
    target_field_of (tree.disabled_field at by f) = tree.disabled_target_field at by
    target_field_of (tree.nameless_field at tree.no_expr) = tree.partless_target_field
    target_field_of (tree.nameless_field at (tree.some_expr e)) = tree.target_field at None (target_or None (place_of None e) e)
    target_field_of (tree.named_field at n tree.no_expr) = tree.partless_target_field
    target_field_of (tree.named_field at n (tree.some_expr e)) = tree.target_field at (Some n) (target_or None (place_of None e) e)

  -- an element, with the outermost call that it comes out of
  abbrev pub element_of : Option Pointer → Expr → Target
  element_of call e = element_or call (target_or call (place_of call e) e) e

  abbrev pub target_of : OptionExpr → Target
  target_of e = target_in None e
