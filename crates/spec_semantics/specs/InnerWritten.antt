-- The bodies inside a written body: the constants of its expressions, types, paths and arguments, the bodies of its closures and of its
-- coroutines, and the ends of ranges in its types, each before those that are inside it, in the order of parts. What nothing reads
-- isn't among them: what a refused path or an `impl` that is an error held, what stands left of where a path begins, and arguments that
-- go again.
use Rattle.std.specs.Prelude.{if◌then◌else◌, Bool, true, false, List, [], ◌∷◌, ◌++◌, reverse, map}
use Rattle.std.specs.Prelude.{Option, Some, None}
use Rattle.hir_store.specs.declared.hir.CoroutineKind.{CoroutineKind}
use Rattle.hir_store.specs.declared.hir.CoroutineSource.{CoroutineSource}
use Rattle.hir_store.specs.declared.hir.CoroutineSource.TheVariants as source
use Rattle.hir_store.specs.declared.ids.BlockId.{BlockId}
use Rattle.hir_env.specs.declared.ctx.ImplTrait.{ImplTrait}
use Rattle.hir_env.specs.declared.ctx.ImplTrait.TheVariants.{Error, Opaque, Argument}
use Rattle.hir_env.specs.ResolvedTree as tree
use Rattle.hir_env.specs.ResolvedTree.{Type_, OptionType, Parts, Path, OptionPath, Segments, Segment, SegmentArgs, OptionParens, OptionRet}
use Rattle.hir_env.specs.ResolvedTree.{OptionArgs, Args, Arg, Bounds, Bound, Constant}
use Rattle.hir_env.specs.ResolvedTree.{Expr, OptionExpr, Exprs, Fields, Field, Spread, Block, OptionBlock, Stmts, Stmt}
use Rattle.hir_env.specs.ResolvedTree.{Arms, Arm, Guard, RangeForm, Pat, OptionPat, Pats, PatFields, Side, TypePat, OptionTypePat, TypePats}
use Rattle.hir_env.specs.ResolvedTree.{Limit, Target, Targets, TargetFields, Params, SelfFormal}
use Rattle.spec_data.specs.Data.{OptionArgsData, no_args, some_args}
use Rattle.spec_data.specs.Rule.{Item, Named, PathRead, ended, has_self, is_list, names}
use Rattle.spec_data.specs.Tops.{Tops, params_tops}
use Rattle.spec_data.specs.Written.{list_data, path_of, what}

pub data InnerBody : Type 0 where
  -- an expression that is a body of its own: a constant, or the body of a closure
  constant_body : OptionExpr → InnerBody
  -- what is in a coroutine block: its number, its statements and its written tail
  coroutine_body : Option BlockId → Stmts → OptionExpr → InnerBody
  -- the body that a closure or a function with `async` or `gen` has: it makes its coroutine
  making_body : CoroutineKind → CoroutineSource → InnerBody
  -- that coroutine: `self`, the other parameters, and what was written as the body
  prelude_body : SelfFormal → Tops → OptionExpr → InnerBody
  limit_body : Limit → InnerBody

abbrev pub Bodies : Type 0
Bodies = List InnerBody

abbrev pub all_in : List Bodies → Bodies
all_in [] = []
all_in (b ∷ bs) = b ++ all_in bs

-- A segment where it stands, with the bodies in it: in the type that the path is relative to, where it is one, and beside each
-- of the names that it gives.
pub record Part : Type 0 where
  pub item : Item
  pub anchor : Option Bodies
  pub names : List Bodies

abbrev pub items_of : List Part → List Item
items_of ps = map (λ p. p.item) ps

-- from its end to the first that ends the reading
abbrev pub read_parts : List Part → List Part
read_parts [] = []
read_parts (p ∷ ps) = if ended (items_of ps) then read_parts ps else p ∷ ps

abbrev pub in_anchor_or : Option Bodies → Bodies → Bodies
in_anchor_or (Some b) behind = b
in_anchor_or None behind = behind

-- in the leftmost type
abbrev pub in_anchor : List Part → Bodies
in_anchor [] = []
in_anchor (p ∷ ps) = in_anchor_or p.anchor (in_anchor ps)

abbrev pub beside_names : List Part → List Bodies
beside_names [] = []
beside_names (p ∷ ps) = p.names ++ beside_names ps

abbrev pub begins_with_self : OptionArgsData → Bool
begins_with_self no_args = false
begins_with_self (some_args as') = has_self as'

abbrev pub first_cut : List Named → List Bodies → List Bodies
first_cut (n ∷ ns) (b ∷ bs) = (if begins_with_self n.args then [] else b) ∷ bs
first_cut [] bs = bs
first_cut (n ∷ ns) [] = []

-- beside the last name nothing is left of arguments that begin with one for `Self`
abbrev pub last_cut : List Named → List Bodies → List Bodies
last_cut ns bs = reverse (first_cut (reverse ns) (reverse bs))

abbrev pub first_behind : Bodies → List Bodies → List Bodies
first_behind t [] = []
first_behind t (b ∷ bs) = (t ++ b) ∷ bs

-- beside the last name of a trait the type comes before its arguments
abbrev pub last_behind : Bodies → List Bodies → List Bodies
last_behind t bs = reverse (first_behind t (reverse bs))

-- in the type that a path is relative to, and beside each of its names
pub record Held : Type 0 where
  pub anchor : Bodies
  pub names : List Bodies

abbrev pub nothing_held : Held
nothing_held = record { anchor = []; names = [] }

abbrev pub held_in : List Part → Held
held_in ps = record { anchor = in_anchor ps; names = last_cut (names (items_of ps)) (beside_names ps) }

-- a refused path holds nothing
abbrev pub where_read : Option PathRead → Held → Held
where_read None h = nothing_held
where_read (Some p) h = h

abbrev pub held_of : Option PathRead → List Part → Held
held_of p ps = where_read p (held_in (read_parts ps))

abbrev pub in_held : Held → Bodies
in_held h = h.anchor ++ all_in h.names

abbrev pub if_read : Option PathRead → Bodies → Bodies
if_read None bs = []
if_read (Some p) bs = bs

-- a range without its item or its operator is missing, and its ends are no parts of it
abbrev pub if_made : RangeForm → Bodies → Bodies
if_made (tree.record_range i last) bs = bs
if_made (tree.call_range i) bs = bs
if_made tree.itemless_range bs = []

abbrev pub if_present : {A : Type 0} → Option A → Bodies → Bodies
if_present None bs = []
if_present (Some a) bs = bs

abbrev pub if_opaque : ImplTrait → Bodies → Bodies
if_opaque Error bs = []
if_opaque Opaque bs = bs
if_opaque (Argument def) bs = []

abbrev mutual
  -- constants

  pub constant_bodies : Constant → Bodies
  constant_bodies (tree.constant e) = constant_body e ∷ bodies_in e

  pub limit_bodies : Limit → Bodies
  limit_bodies (tree.item_limit i) = limit_body (tree.item_limit i) ∷ []
  limit_bodies (tree.side_limit s) = limit_body (tree.side_limit s) ∷ side_bodies s
  limit_bodies (tree.before_limit i s) = limit_body (tree.before_limit i s) ∷ side_bodies s

  pub side_bodies : Side → Bodies
  side_bodies tree.no_side = []
  side_bodies (tree.literal_side at l) = []
  side_bodies (tree.name_side at n _) = []
  side_bodies (tree.path_side at p) = path_bodies p
  side_bodies tree.other_side = []

  -- types

  pub type_bodies : Type_ → Bodies
  type_bodies (tree.paren_type t) = part_bodies t
  type_bodies (tree.macro_type at called t) = part_bodies t
  type_bodies (tree.for_type binder t) = part_bodies t
  type_bodies (tree.leaf_type at l) = []
  type_bodies (tree.over_type at u t) = part_bodies t
  type_bodies (tree.array_type at c t) = part_bodies t ++ constant_bodies c
  type_bodies (tree.tuple_type at ps) = parts_bodies ps
  type_bodies (tree.path_type at p) = path_bodies p
  type_bodies (tree.ref_type at l m t) = part_bodies t
  type_bodies (tree.fn_type at h ps r) = parts_bodies ps ++ part_bodies r
  type_bodies (tree.impl_type at mode bs) = if_opaque mode (bounds_bodies bs)
  type_bodies (tree.nested_impl at) = []
  type_bodies (tree.dyn_type at bs) = bounds_bodies bs
  type_bodies (tree.pattern_type at t p q) = part_bodies t ++ type_pat_part_bodies q

  pub part_bodies : OptionType → Bodies
  part_bodies tree.no_type = []
  part_bodies (tree.some_type t) = type_bodies t

  pub parts_bodies : Parts → Bodies
  parts_bodies tree.no_parts = []
  parts_bodies (tree.more_parts p ps) = part_bodies p ++ parts_bodies ps

  pub bounds_bodies : Bounds → Bodies
  bounds_bodies tree.no_bounds = []
  bounds_bodies (tree.more_bounds b bs) = bound_bodies b ++ bounds_bodies bs

  pub bound_bodies : Bound → Bodies
  bound_bodies tree.error_bound = []
  bound_bodies (tree.path_bound at p maybe binder) = path_bodies p
  bound_bodies (tree.lifetime_bound l) = []
  bound_bodies (tree.use_bound us) = []

  pub type_pat_bodies : TypePat → Bodies
  type_pat_bodies (tree.not_null_type_pat at) = []
  type_pat_bodies (tree.or_type_pat at ps) = type_pats_bodies ps
  type_pat_bodies (tree.macro_type_pat at called p) = type_pat_part_bodies p
  type_pat_bodies (tree.range_type_pat at start end) = limit_bodies start ++ limit_bodies end
  type_pat_bodies (tree.other_type_pat at) = []

  pub type_pat_part_bodies : OptionTypePat → Bodies
  type_pat_part_bodies tree.no_type_pat = []
  type_pat_part_bodies (tree.some_type_pat p) = type_pat_bodies p

  pub type_pats_bodies : TypePats → Bodies
  type_pats_bodies tree.no_type_pats = []
  type_pats_bodies (tree.more_type_pats p ps) = type_pat_bodies p ++ type_pats_bodies ps

  -- arguments

  pub list_bodies : OptionArgs → Bodies
  list_bodies tree.no_arg_list = []
  list_bodies (tree.some_arg_list as') = arguments_bodies as' ++ bindings_bodies as'

  pub arguments_bodies : Args → Bodies
  arguments_bodies tree.no_args = []
  arguments_bodies (tree.more_args a as') = argument_bodies a ++ arguments_bodies as'

  pub argument_bodies : Arg → Bodies
  argument_bodies (tree.type_arg t) = part_bodies t
  argument_bodies (tree.const_arg c) = constant_bodies c
  argument_bodies (tree.lifetime_arg l) = []
  argument_bodies tree.skipped_arg = []
  argument_bodies (tree.assoc_arg n a dots t bs) = []

  pub bindings_bodies : Args → Bodies
  bindings_bodies tree.no_args = []
  bindings_bodies (tree.more_args a as') = binding_bodies a ++ bindings_bodies as'

  pub binding_bodies : Arg → Bodies
  binding_bodies (tree.assoc_arg n a dots t bs) = list_bodies a ++ (part_bodies t ++ bounds_bodies bs)
  binding_bodies (tree.type_arg t) = []
  binding_bodies (tree.const_arg c) = []
  binding_bodies (tree.lifetime_arg l) = []
  binding_bodies tree.skipped_arg = []

  -- of `<..>` and `(A) -> C` the first that yields any
  pub beside_bodies : SegmentArgs → Bodies
  beside_bodies (tree.segment_args l ps dots) = if is_list (list_data l) then list_bodies l else parens_bodies ps

  pub parens_bodies : OptionParens → Bodies
  parens_bodies tree.no_parens = []
  parens_bodies (tree.some_parens ps r) = parts_bodies ps ++ output_bodies r

  pub output_bodies : OptionRet → Bodies
  output_bodies tree.no_ret = []
  output_bodies (tree.some_ret t) = part_bodies t

  -- paths

  pub path_bodies : OptionPath → Bodies
  path_bodies tree.no_path = []
  path_bodies (tree.some_path p) = in_held (held_of (path_of (tree.some_path p)) (path_parts p []))

  pub held : OptionPath → Held
  held tree.no_path = nothing_held
  held (tree.some_path p) = held_of (path_of (tree.some_path p)) (path_parts p [])

  -- the segments of a path and of the use trees around it, before these
  pub path_parts : Path → List Part → List Part
  path_parts (tree.path alias leading first rest use_) behind =
      outer_parts use_ (record {
        item = record { leading = leading; what = what true first };
        anchor = anchor_bodies first;
        names = names_bodies first;
      } ∷ behind_parts rest behind)

  pub outer_parts : OptionPath → List Part → List Part
  outer_parts tree.no_path behind = behind
  outer_parts (tree.some_path p) behind = path_parts p behind

  pub behind_parts : Segments → List Part → List Part
  behind_parts tree.no_segments behind = behind
  behind_parts (tree.more_segments s ss) behind = record {
    item = record { leading = false; what = what false s };
    anchor = anchor_bodies s;
    names = names_bodies s;
  } ∷ behind_parts ss behind

  pub anchor_bodies : Segment → Option Bodies
  anchor_bodies (tree.type_segment t) = Some (type_bodies t)
  anchor_bodies s = None

  -- beside each of the names that a segment gives
  pub names_bodies : Segment → List Bodies
  names_bodies tree.absent_segment = [] ∷ []
  names_bodies (tree.name_segment n _ as') = beside_bodies as' ∷ []
  names_bodies tree.self_type_segment = [] ∷ []
  names_bodies (tree.trait_segment t at p) = last_behind (type_bodies t) (held p).names
  names_bodies s = []

  -- expressions

  pub expr_bodies : Expr → Bodies
  expr_bodies (tree.disabled_expr why e) = []
  expr_bodies (tree.if_expr at c t e) = bodies_in c ++ (block_part_bodies t ++ bodies_in e)
  expr_bodies (tree.block_expr b) = block_bodies b
  expr_bodies (tree.loop_expr at label _ b) = block_part_bodies b
  expr_bodies (tree.while_expr at label _ c b) = bodies_in c ++ block_part_bodies b
  expr_bodies (tree.for_expr at items label _ p h b) = bodies_in h ++ (pat_part_bodies p ++ bodies_in b)
  expr_bodies (tree.question_expr at items e) = bodies_in e
  expr_bodies (tree.itemless_expr at) = []
  -- the type stands in front of the block
  expr_bodies (tree.try_expr at item t number ss e) = part_bodies t ++ (stmts_bodies ss ++ bodies_in e)
  expr_bodies (tree.coroutine_expr at kind moves number ss e) = coroutine_body number ss e ∷ (stmts_bodies ss ++ bodies_in e)
  expr_bodies (tree.call_expr at f has_list es) = bodies_in f ++ each_bodies es
  expr_bodies (tree.path_expr at p h) = path_bodies p
  expr_bodies (tree.continue_expr at jump) = []
  expr_bodies (tree.break_expr at jump e) = bodies_in e
  expr_bodies (tree.paren_expr at e) = bodies_in e
  expr_bodies (tree.macro_expr at called e) = bodies_in e
  expr_bodies (tree.literal_expr at l) = []
  expr_bodies (tree.leaf_expr at form) = []
  expr_bodies (tree.unary_expr at form e) = bodies_in e
  expr_bodies (tree.binary_expr at form a b) = bodies_in a ++ bodies_in b
  expr_bodies (tree.lazy_expr at op a b) = bodies_in a ++ bodies_in b
  expr_bodies (tree.list_expr at form es) = each_bodies es
  -- the length stands behind what is repeated
  expr_bodies (tree.repeat_expr at e c) = bodies_in e ++ constant_bodies c
  expr_bodies (tree.const_expr at c) = constant_bodies c
  -- its body stands behind what is in its parameters and in what it returns
  expr_bodies (tree.closure_expr at by_move is_static ps t e) = params_bodies ps ++ (part_bodies t ++ (constant_body e ∷ bodies_in e))
  -- Its parameters' types stand with it, their patterns in its coroutine, where they are bound.
  expr_bodies (tree.coroutine_closure_expr at k by_move ps t e) =
      making_body k source.Closure ∷ (param_types_bodies ps ++ (part_bodies t ++ (prelude_body tree.no_self (params_tops ps) e
      ∷ (param_pats_bodies ps ++ bodies_in e))))
  expr_bodies (tree.method_call_expr at e name es generics) = bodies_in e ++ (list_bodies generics ++ each_bodies es)
  expr_bodies (tree.cast_expr at e t) = bodies_in e ++ part_bodies t
  -- a record whose path is absent or refused isn't read
  expr_bodies (tree.record_expr at p head fs s) = if_read (path_of p) (path_bodies p ++ (fields_bodies fs ++ spread_bodies s))
  expr_bodies (tree.offset_of_expr at t ns) = part_bodies t
  expr_bodies (tree.leaving_expr at form e) = bodies_in e
  expr_bodies (tree.become_expr at e) = bodies_in e
  expr_bodies (tree.yield_expr at e) = bodies_in e
  expr_bodies (tree.await_expr at location e) = bodies_in e
  -- the operand of a prefix without operator is no part
  expr_bodies (tree.nameless_expr at e) = []
  expr_bodies (tree.let_expr at p e) = pat_part_bodies p ++ bodies_in e
  expr_bodies (tree.match_expr at e arms) = bodies_in e ++ arms_bodies arms
  expr_bodies (tree.range_expr at form start end) = if_made form (bodies_in start ++ bodies_in end)
  expr_bodies (tree.assign_expr at e t v) = target_bodies t ++ bodies_in v

  -- the pattern of each before its type
  pub params_bodies : Params → Bodies
  params_bodies tree.no_params = []
  params_bodies (tree.more_params (tree.disabled_param at by x) ps) = params_bodies ps
  params_bodies (tree.more_params (tree.param p t) ps) = (pat_part_bodies p ++ part_bodies t) ++ params_bodies ps

  pub param_types_bodies : Params → Bodies
  param_types_bodies tree.no_params = []
  param_types_bodies (tree.more_params (tree.disabled_param at by x) ps) = param_types_bodies ps
  param_types_bodies (tree.more_params (tree.param p t) ps) = part_bodies t ++ param_types_bodies ps

  pub param_pats_bodies : Params → Bodies
  param_pats_bodies tree.no_params = []
  param_pats_bodies (tree.more_params (tree.disabled_param at by x) ps) = param_pats_bodies ps
  param_pats_bodies (tree.more_params (tree.param p t) ps) = pat_part_bodies p ++ param_pats_bodies ps

  pub bodies_in : OptionExpr → Bodies
  bodies_in tree.no_expr = []
  bodies_in (tree.some_expr e) = expr_bodies e

  pub each_bodies : Exprs → Bodies
  each_bodies tree.no_exprs = []
  each_bodies (tree.more_exprs e es) = expr_bodies e ++ each_bodies es

  pub fields_bodies : Fields → Bodies
  fields_bodies tree.no_fields = []
  fields_bodies (tree.more_fields f fs) = field_bodies f ++ fields_bodies fs

  pub field_bodies : Field → Bodies
  field_bodies (tree.disabled_field at by f) = []
  field_bodies (tree.nameless_field at e) = []
  field_bodies (tree.named_field at name e) = bodies_in e

  pub spread_bodies : Spread → Bodies
  spread_bodies tree.no_spread = []
  spread_bodies tree.field_defaults = []
  spread_bodies (tree.spread_of e) = expr_bodies e

  pub arms_bodies : Arms → Bodies
  arms_bodies tree.no_arms = []
  arms_bodies (tree.more_arms a arms) = arm_bodies a ++ arms_bodies arms

  pub arm_bodies : Arm → Bodies
  arm_bodies (tree.disabled_arm at by a) = []
  arm_bodies (tree.arm p e g) = pat_part_bodies p ++ (guard_bodies g ++ bodies_in e)

  pub guard_bodies : Guard → Bodies
  guard_bodies tree.no_guard = []
  guard_bodies (tree.guard c) = bodies_in c

  pub block_bodies : Block → Bodies
  block_bodies (tree.block at is_unsafe label _ number ss e) = stmts_bodies ss ++ bodies_in e

  pub block_part_bodies : OptionBlock → Bodies
  block_part_bodies tree.no_block = []
  block_part_bodies (tree.some_block b) = block_bodies b

  pub stmts_bodies : Stmts → Bodies
  stmts_bodies tree.no_stmts = []
  stmts_bodies (tree.more_stmts s ss) = stmt_bodies s ++ stmts_bodies ss

  pub stmt_bodies : Stmt → Bodies
  stmt_bodies (tree.expr_stmt e semi) = bodies_in e
  stmt_bodies tree.item_stmt = []
  stmt_bodies (tree.call_stmt c) = []
  stmt_bodies (tree.macro_stmt k d) = []
  stmt_bodies (tree.disabled_stmt at by s) = []
  stmt_bodies (tree.let_stmt p t e b) = pat_part_bodies p ++ (part_bodies t ++ (bodies_in e ++ block_part_bodies b))

  -- patterns

  pub pat_bodies : Pat → Bodies
  pat_bodies (tree.leaf_pat at form) = []
  pat_bodies (tree.bind_pat at u _ sub) = pat_part_bodies sub
  pat_bodies (tree.name_pat at u _) = []
  pat_bodies (tree.path_pat at p) = path_bodies p
  pat_bodies (tree.tuple_struct_pat at p comma ps) = if_read (path_of p) (path_bodies p ++ pats_bodies ps)
  pat_bodies (tree.tuple_pat at comma ps) = pats_bodies ps
  pat_bodies (tree.record_pat at p fs dots) = if_read (path_of p) (path_bodies p ++ pat_fields_bodies fs)
  pat_bodies (tree.or_pat at ps) = pats_bodies ps
  pat_bodies (tree.paren_pat at p) = pat_part_bodies p
  pat_bodies (tree.macro_pat at called p) = pat_part_bodies p
  pat_bodies (tree.barred_pat at) = []
  pat_bodies (tree.slice_pat at before middle behind) = pats_bodies before ++ (pat_part_bodies middle ++ pats_bodies behind)
  pat_bodies (tree.over_pat at form p) = pat_part_bodies p
  pat_bodies (tree.literal_pat at own l) = []
  pat_bodies (tree.range_pat at op start end) = if_present op (side_bodies start ++ side_bodies end)

  pub pat_part_bodies : OptionPat → Bodies
  pat_part_bodies tree.no_pat = []
  pat_part_bodies (tree.some_pat p) = pat_bodies p

  pub pats_bodies : Pats → Bodies
  pats_bodies tree.no_pats = []
  pats_bodies (tree.more_pats p ps) = pat_bodies p ++ pats_bodies ps
  pats_bodies (tree.tracked_pats called ps) = pats_bodies ps

  -- a field without a name is no part of the record
  pub pat_fields_bodies : PatFields → Bodies
  pat_fields_bodies tree.no_pat_fields = []
  pat_fields_bodies (tree.more_pat_fields (tree.pat_field at (Some n) p) fs) = pat_bodies p ++ pat_fields_bodies fs
  pat_fields_bodies (tree.more_pat_fields f fs) = pat_fields_bodies fs

  -- the assignee expression

  pub target_bodies : Target → Bodies
  target_bodies (tree.absent_target at) = []
  target_bodies (tree.place_target at e) = expr_bodies e
  target_bodies (tree.wild_target at) = []
  target_bodies (tree.macro_target at called t) = target_bodies t
  target_bodies (tree.path_target at p h) = in_held (held_of (path_of (tree.some_path p)) (path_parts p []))
  target_bodies (tree.tuple_target at ts) = targets_bodies ts
  target_bodies (tree.call_target at p ts) = if_read (path_of p) (path_bodies p ++ targets_bodies ts)
  target_bodies (tree.array_target at before dots behind) = targets_bodies before ++ targets_bodies behind
  target_bodies (tree.record_target at p fs dots spread) = if_read (path_of p) (path_bodies p ++ target_fields_bodies fs)

  pub targets_bodies : Targets → Bodies
  targets_bodies tree.no_targets = []
  targets_bodies (tree.more_targets t ts) = target_bodies t ++ targets_bodies ts
  targets_bodies (tree.dots_targets ts) = targets_bodies ts
  targets_bodies (tree.tracked_targets called ts) = targets_bodies ts

  pub target_fields_bodies : TargetFields → Bodies
  target_fields_bodies tree.no_target_fields = []
  target_fields_bodies (tree.more_target_fields (tree.target_field at (Some n) t) fs) = target_bodies t ++ target_fields_bodies fs
  target_fields_bodies (tree.more_target_fields f fs) = target_fields_bodies fs

-- those of parameters
abbrev pub tops_bodies : Tops → Bodies
tops_bodies [] = []
tops_bodies (p ∷ ps) = pat_part_bodies p ++ tops_bodies ps

-- What is inside a function with `async` or `gen`, whose own run makes its coroutine: that, and what is inside it.
abbrev pub function_bodies : SelfFormal → Tops → OptionExpr → Bodies
function_bodies self ps e = prelude_body self ps e ∷ (tops_bodies ps ++ bodies_in e)
