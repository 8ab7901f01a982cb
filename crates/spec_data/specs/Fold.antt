-- What lowering notes of a tree, in the order in which it reads its parts. What is in a disabled node isn't read.
use Rattle.std.specs.Prelude.{◌||◌, if◌then◌else◌, Bool, true, false, List, [], ◌∷◌, Option, Some, None}
use Rattle.hir_store.specs.Pointers.{Pointer}
use Rattle.hir_store.specs.declared.name.Name.{Name}
use Rattle.hir_store.specs.declared.type_ref.LifetimeRef.{LifetimeRef}
use Rattle.hir_store.specs.declared.type_ref.LifetimeRef.TheVariants as lifetime
use Rattle.hir_env.specs.declared.ctx.ImplTrait.{ImplTrait}
use Rattle.hir_env.specs.declared.ctx.ImplTrait.TheVariants as becomes
use Rattle.hir_env.specs.ResolvedTree as tree
use Rattle.hir_env.specs.ResolvedTree.{Type_, OptionType, Parts, Path, OptionPath, Segments, Segment, SegmentArgs, OptionParens, OptionRet}
use Rattle.hir_env.specs.ResolvedTree.{OptionArgs, Args, Arg, Bounds, Bound, Constant, Expr, OptionExpr, Exprs, Fields, Field, Spread}
use Rattle.hir_env.specs.ResolvedTree.{Block}
use Rattle.hir_env.specs.ResolvedTree.{OptionBlock, Stmts, Stmt, Arms, Arm, Guard, Pat, OptionPat, Pats, PatFields, PatField, Side, TypePat}
use Rattle.hir_env.specs.ResolvedTree.{OptionTypePat, TypePats, Limit, Param, Params, Target, Targets, TargetFields, TargetField, UseRead}
use Rattle.hir_env.specs.Paths.{alias_of}
use Rattle.spec_data.specs.Data as datum
use Rattle.spec_data.specs.Data.{OptionArgsData, no_args, some_args, ArgsData, args_data, ArgumentsData}
use Rattle.spec_data.specs.Rule.{Item, Named, PathRead, ended, refused}
use Rattle.spec_data.specs.Written.{items, list_data, path_of, what}
use Rattle.spec_data.specs.Tracking.{Tracking, none, ◌⊕◌, cut, of_lifetime, of_lifetime_option}

-- what stands beside a path that is absent or refused isn't read
abbrev pub if_read : Option PathRead → Tracking → Tracking
if_read None n = none
if_read (Some p) n = n

-- what stands before is read, unless the path ended there or was refused
abbrev pub if_open : List Item → Tracking → Tracking
if_open is n = if ended is || refused is then none else n

abbrev pub front : Bool → Segment → Item
front leading s = record { leading = leading; what = what true s }

-- `(A) -> C` is read where `<..>` yields none
abbrev pub unless : OptionArgsData → Tracking → Tracking
unless no_args n = n
unless (some_args as') n = none

-- the lifetimes of an alias

abbrev pub text_of : LifetimeRef → Option Name
text_of (lifetime.Named n) = Some n
text_of lifetime.Static = None
text_of lifetime.Placeholder = None
text_of lifetime.Error = None

abbrev pub names_among : ArgumentsData → List (Option Name)
names_among datum.no_arguments = []
names_among (datum.more_arguments (datum.lifetime_argument l) as') = text_of l.lifetime ∷ names_among as'
names_among (datum.more_arguments (datum.type_argument t) as') = names_among as'
names_among (datum.more_arguments (datum.constant_argument c) as') = names_among as'

abbrev pub names_in_args : ArgsData → List (Option Name)
names_in_args (args_data as' has_self bs ps) = names_among as'

abbrev pub names_in_list : OptionArgsData → Option (List (Option Name))
names_in_list no_args = None
names_in_list (some_args as') = Some (names_in_args as')

-- beside the last name
abbrev pub names_last : List Named → Option (List (Option Name))
names_last [] = None
names_last (n ∷ []) = names_in_list n.args
names_last (n ∷ m ∷ ns) = names_last (m ∷ ns)

abbrev pub names_of_args : Option PathRead → Option (List (Option Name))
names_of_args None = None
names_of_args (Some p) = names_last p.names

-- `impl`s

-- one that is an argument becomes a parameter, behind those inside of its bounds
abbrev pub becoming : ImplTrait → Pointer → Bounds → Tracking
becoming becomes.Error at bs = none
becoming becomes.Opaque at bs = none
becoming (becomes.Argument def) at bs = record none { impls = record { parent = def; at = at; bounds = bs } ∷ [] }

abbrev pub of_use : UseRead → Tracking
of_use (tree.used_name n) = none
of_use (tree.used_lifetime l) = of_lifetime l

abbrev pub of_uses : List UseRead → Tracking
of_uses [] = none
of_uses (u ∷ us) = of_use u ⊕ of_uses us

abbrev mutual
  -- types, paths, arguments and bounds

  pub tracked_in_type : Type_ → Tracking
  tracked_in_type (tree.paren_type t) = tracked_in_type_part t
  tracked_in_type (tree.macro_type at called t) = tracked_in_type_part t
  tracked_in_type (tree.for_type names t) = tracked_in_type_part t
  tracked_in_type (tree.leaf_type at form) = none
  tracked_in_type (tree.over_type at form t) = tracked_in_type_part t
  -- its length first
  tracked_in_type (tree.array_type at c t) = tracked_in_constant c ⊕ tracked_in_type_part t
  tracked_in_type (tree.tuple_type at ts) = tracked_in_parts ts
  tracked_in_type (tree.path_type at p) = tracked_in_whole p
  tracked_in_type (tree.ref_type at l mutability t) = tracked_in_type_part t ⊕ of_lifetime_option l
  tracked_in_type (tree.fn_type at head ts r) = tracked_in_type_part r ⊕ tracked_in_parts ts
  tracked_in_type (tree.impl_type at mode bs) = tracked_in_bounds bs ⊕ becoming mode at bs
  tracked_in_type (tree.nested_impl at) = none
  tracked_in_type (tree.dyn_type at bs) = tracked_in_bounds bs
  tracked_in_type (tree.pattern_type at t own p) = tracked_in_type_part t ⊕ tracked_in_type_pat_part p

  pub tracked_in_type_part : OptionType → Tracking
  tracked_in_type_part tree.no_type = none
  tracked_in_type_part (tree.some_type t) = tracked_in_type t

  pub tracked_in_present_type : OptionType → Tracking
  tracked_in_present_type tree.no_type = none
  tracked_in_present_type (tree.some_type t) = tracked_in_type t

  pub tracked_in_parts : Parts → Tracking
  tracked_in_parts tree.no_parts = none
  tracked_in_parts (tree.more_parts t ts) = tracked_in_type_part t ⊕ tracked_in_parts ts

  pub tracked_in_segment : Bool → Segment → Tracking
  tracked_in_segment first (tree.name_segment n _ as') = tracked_in_beside as'
  tracked_in_segment true (tree.type_segment t) = tracked_in_type t
  tracked_in_segment true (tree.trait_segment t at p) = tracked_in_type t ⊕ tracked_in_whole p
  tracked_in_segment first s = none

  -- behind these items, from the last
  pub tracked_in_segments : Segments → List Item → Tracking
  tracked_in_segments tree.no_segments is = none
  tracked_in_segments (tree.more_segments s ss) is = tracked_in_segments ss is ⊕ if_open (items ss is) (tracked_in_segment false s)

  pub tracked_in_path : Path → List Item → Tracking
  tracked_in_path (tree.path alias leading first rest use_) is =
      (tracked_in_segments rest is ⊕ if_open (items rest is) (tracked_in_segment true first))
      ⊕ if_open (front leading first ∷ items rest is) (tracked_in_outer use_ (front leading first ∷ items rest is))

  pub tracked_in_outer : OptionPath → List Item → Tracking
  tracked_in_outer tree.no_path is = none
  tracked_in_outer (tree.some_path p) is = tracked_in_path p is

  -- of a path from its end
  pub tracked_in_whole : OptionPath → Tracking
  tracked_in_whole tree.no_path = none
  tracked_in_whole (tree.some_path p) = cut (alias_of p) (names_of_args (path_of (tree.some_path p))) (tracked_in_path p [])

  -- `(A) -> C` is read where `<..>` yields none
  pub tracked_in_beside : SegmentArgs → Tracking
  tracked_in_beside (tree.segment_args as' ps dots) = tracked_in_args as' ⊕ unless (list_data as') (tracked_in_parens ps)

  pub tracked_in_parens : OptionParens → Tracking
  tracked_in_parens tree.no_parens = none
  tracked_in_parens (tree.some_parens ts r) = tracked_in_parts ts ⊕ tracked_in_output r

  pub tracked_in_output : OptionRet → Tracking
  tracked_in_output tree.no_ret = none
  tracked_in_output (tree.some_ret t) = tracked_in_type_part t

  pub tracked_in_args : OptionArgs → Tracking
  tracked_in_args tree.no_arg_list = none
  tracked_in_args (tree.some_arg_list as') = tracked_in_each_arg as'

  pub tracked_in_each_arg : Args → Tracking
  tracked_in_each_arg tree.no_args = none
  tracked_in_each_arg (tree.more_args a as') = tracked_in_arg a ⊕ tracked_in_each_arg as'

  pub tracked_in_arg : Arg → Tracking
  tracked_in_arg tree.skipped_arg = none
  tracked_in_arg (tree.type_arg t) = tracked_in_type_part t
  tracked_in_arg (tree.lifetime_arg l) = of_lifetime l
  tracked_in_arg (tree.const_arg c) = tracked_in_constant c
  tracked_in_arg (tree.assoc_arg n as' dots t bs) = tracked_in_args as' ⊕ (tracked_in_present_type t ⊕ tracked_in_bounds bs)

  pub tracked_in_bounds : Bounds → Tracking
  tracked_in_bounds tree.no_bounds = none
  tracked_in_bounds (tree.more_bounds b bs) = tracked_in_bound b ⊕ tracked_in_bounds bs

  pub tracked_in_bound : Bound → Tracking
  tracked_in_bound tree.error_bound = none
  tracked_in_bound (tree.path_bound at p maybe binder) = tracked_in_whole p
  tracked_in_bound (tree.lifetime_bound l) = of_lifetime l
  tracked_in_bound (tree.use_bound us) = of_uses us

  pub tracked_in_constant : Constant → Tracking
  tracked_in_constant (tree.constant e) = tracked_in_part e

  pub tracked_in_type_pat : TypePat → Tracking
  tracked_in_type_pat (tree.not_null_type_pat at) = none
  tracked_in_type_pat (tree.macro_type_pat at called p) = tracked_in_type_pat_part p
  tracked_in_type_pat (tree.or_type_pat at ps) = tracked_in_type_pats ps
  tracked_in_type_pat (tree.range_type_pat at low high) = tracked_in_limit low ⊕ tracked_in_limit high
  tracked_in_type_pat (tree.other_type_pat at) = none

  pub tracked_in_type_pat_part : OptionTypePat → Tracking
  tracked_in_type_pat_part tree.no_type_pat = none
  tracked_in_type_pat_part (tree.some_type_pat p) = tracked_in_type_pat p

  pub tracked_in_type_pats : TypePats → Tracking
  tracked_in_type_pats tree.no_type_pats = none
  tracked_in_type_pats (tree.more_type_pats p ps) = tracked_in_type_pat p ⊕ tracked_in_type_pats ps

  pub tracked_in_limit : Limit → Tracking
  tracked_in_limit (tree.item_limit item) = none
  tracked_in_limit (tree.side_limit s) = tracked_in_side s
  tracked_in_limit (tree.before_limit item s) = tracked_in_side s

  pub tracked_in_side : Side → Tracking
  tracked_in_side (tree.path_side at p) = tracked_in_whole p
  tracked_in_side s = none

  -- expressions

  pub tracked_in : Expr → Tracking
  tracked_in (tree.disabled_expr why e) = none
  -- the branches are read before the condition
  tracked_in (tree.if_expr at c t e) = tracked_in_block_part t ⊕ (tracked_in_part e ⊕ tracked_in_part c)
  tracked_in (tree.block_expr b) = tracked_in_block b
  tracked_in (tree.loop_expr at label _ b) = tracked_in_block_part b
  tracked_in (tree.while_expr at label _ c b) = tracked_in_block_part b ⊕ tracked_in_part c
  tracked_in (tree.for_expr at items label _ p h b) = tracked_in_part h ⊕ (tracked_in_top p ⊕ tracked_in_part b)
  tracked_in (tree.question_expr at items e) = tracked_in_part e
  tracked_in (tree.itemless_expr at) = none
  -- its type last
  tracked_in (tree.try_expr at item t number ss e) =
      (tracked_in_stmts ss ⊕ tracked_in_part e) ⊕ tracked_in_present_type t
  tracked_in (tree.coroutine_expr at kind moves number ss e) = tracked_in_stmts ss ⊕ tracked_in_part e
  tracked_in (tree.call_expr at f has_list es) = tracked_in_part f ⊕ tracked_in_each es
  tracked_in (tree.path_expr at p h) = tracked_in_whole p
  tracked_in (tree.continue_expr at jump) = none
  tracked_in (tree.break_expr at jump e) = tracked_in_part e
  tracked_in (tree.paren_expr at e) = tracked_in_part e
  tracked_in (tree.macro_expr at called e) = tracked_in_part e
  tracked_in (tree.literal_expr at l) = none
  tracked_in (tree.leaf_expr at form) = none
  tracked_in (tree.unary_expr at form e) = tracked_in_part e
  tracked_in (tree.binary_expr at form a b) = tracked_in_part a ⊕ tracked_in_part b
  tracked_in (tree.lazy_expr at op a b) = tracked_in_part a ⊕ tracked_in_part b
  tracked_in (tree.list_expr at form es) = tracked_in_each es
  tracked_in (tree.repeat_expr at e c) = tracked_in_part e ⊕ tracked_in_constant c
  tracked_in (tree.const_expr at c) = tracked_in_constant c
  tracked_in (tree.closure_expr at moves is_static xs t e) = tracked_in_params xs ⊕ (tracked_in_present_type t ⊕ tracked_in_part e)
  tracked_in (tree.coroutine_closure_expr at kind moves xs t e) =
      tracked_in_params xs ⊕ (tracked_in_present_type t ⊕ tracked_in_part e)
  tracked_in (tree.method_call_expr at e name es generics) = tracked_in_part e ⊕ (tracked_in_each es ⊕ tracked_in_args generics)
  tracked_in (tree.cast_expr at e t) = tracked_in_part e ⊕ tracked_in_type_part t
  tracked_in (tree.record_expr at p head fs s) =
      tracked_in_whole p ⊕ if_read (path_of p) (tracked_in_fields fs ⊕ tracked_in_spread s)
  tracked_in (tree.offset_of_expr at t names) = tracked_in_type_part t
  tracked_in (tree.leaving_expr at form e) = tracked_in_part e
  tracked_in (tree.become_expr at e) = tracked_in_part e
  tracked_in (tree.yield_expr at e) = tracked_in_part e
  tracked_in (tree.await_expr at location e) = tracked_in_part e
  tracked_in (tree.nameless_expr at e) = tracked_in_part e
  tracked_in (tree.let_expr at p e) = tracked_in_top p ⊕ tracked_in_part e
  tracked_in (tree.match_expr at e arms) = tracked_in_part e ⊕ tracked_in_arms arms
  tracked_in (tree.range_expr at form low high) = tracked_in_part low ⊕ tracked_in_part high
  -- the target before the value
  tracked_in (tree.assign_expr at own t e) = tracked_in_target t ⊕ tracked_in_part e

  -- the pattern of each before its type
  pub tracked_in_params : Params → Tracking
  tracked_in_params tree.no_params = none
  tracked_in_params (tree.more_params x xs) = tracked_in_param x ⊕ tracked_in_params xs

  pub tracked_in_param : Param → Tracking
  tracked_in_param (tree.disabled_param at by x) = none
  tracked_in_param (tree.param p t) = tracked_in_top p ⊕ tracked_in_present_type t

  pub tracked_in_part : OptionExpr → Tracking
  tracked_in_part tree.no_expr = none
  tracked_in_part (tree.some_expr e) = tracked_in e

  pub tracked_in_each : Exprs → Tracking
  tracked_in_each tree.no_exprs = none
  tracked_in_each (tree.more_exprs e es) = tracked_in e ⊕ tracked_in_each es

  pub tracked_in_fields : Fields → Tracking
  tracked_in_fields tree.no_fields = none
  tracked_in_fields (tree.more_fields f fs) = tracked_in_field f ⊕ tracked_in_fields fs

  pub tracked_in_field : Field → Tracking
  tracked_in_field (tree.disabled_field at by f) = none
  tracked_in_field (tree.nameless_field at e) = none
  tracked_in_field (tree.named_field at name e) = tracked_in_part e

  pub tracked_in_arms : Arms → Tracking
  tracked_in_arms tree.no_arms = none
  tracked_in_arms (tree.more_arms a arms) = tracked_in_arm a ⊕ tracked_in_arms arms

  -- the guard behind the expression
  pub tracked_in_arm : Arm → Tracking
  tracked_in_arm (tree.disabled_arm at by a) = none
  tracked_in_arm (tree.arm p e g) = tracked_in_top p ⊕ (tracked_in_part e ⊕ tracked_in_guard g)

  pub tracked_in_guard : Guard → Tracking
  tracked_in_guard tree.no_guard = none
  tracked_in_guard (tree.guard e) = tracked_in_part e

  pub tracked_in_spread : Spread → Tracking
  tracked_in_spread tree.no_spread = none
  tracked_in_spread tree.field_defaults = none
  tracked_in_spread (tree.spread_of e) = tracked_in e

  pub tracked_in_block : Block → Tracking
  tracked_in_block (tree.block at is_unsafe label _ number ss e) = tracked_in_stmts ss ⊕ tracked_in_part e

  pub tracked_in_block_part : OptionBlock → Tracking
  tracked_in_block_part tree.no_block = none
  tracked_in_block_part (tree.some_block b) = tracked_in_block b

  pub tracked_in_stmts : Stmts → Tracking
  tracked_in_stmts tree.no_stmts = none
  tracked_in_stmts (tree.more_stmts s ss) = tracked_in_stmt s ⊕ tracked_in_stmts ss

  pub tracked_in_stmt : Stmt → Tracking
  tracked_in_stmt (tree.expr_stmt e semi) = tracked_in_part e
  tracked_in_stmt (tree.disabled_stmt at by s) = none
  tracked_in_stmt tree.item_stmt = none
  tracked_in_stmt (tree.call_stmt c) = none
  tracked_in_stmt (tree.macro_stmt k d) = none
  tracked_in_stmt (tree.let_stmt p t e b) =
      tracked_in_top p ⊕ (tracked_in_present_type t ⊕ (tracked_in_part e ⊕ tracked_in_block_part b))

  -- patterns

  pub tracked_in_pat : Pat → Tracking
  tracked_in_pat (tree.leaf_pat at form) = none
  tracked_in_pat (tree.bind_pat at u _ sub) = tracked_in_top sub
  tracked_in_pat (tree.name_pat at u _) = none
  tracked_in_pat (tree.path_pat at p) = tracked_in_whole p
  tracked_in_pat (tree.tuple_struct_pat at p comma ps) = tracked_in_whole p ⊕ if_read (path_of p) (tracked_in_pats ps)
  tracked_in_pat (tree.tuple_pat at comma ps) = tracked_in_pats ps
  tracked_in_pat (tree.record_pat at p fs dots) = tracked_in_whole p ⊕ if_read (path_of p) (tracked_in_pat_fields fs)
  tracked_in_pat (tree.or_pat at ps) = tracked_in_pats ps
  tracked_in_pat (tree.paren_pat at p) = tracked_in_top p
  tracked_in_pat (tree.macro_pat at called p) = tracked_in_top p
  tracked_in_pat (tree.barred_pat at) = none
  tracked_in_pat (tree.slice_pat at before middle behind) =
      tracked_in_pats before ⊕ (tracked_in_top middle ⊕ tracked_in_pats behind)
  tracked_in_pat (tree.over_pat at form p) = tracked_in_top p
  tracked_in_pat (tree.literal_pat at own l) = none
  tracked_in_pat (tree.range_pat at op low high) = tracked_in_side low ⊕ tracked_in_side high

  pub tracked_in_top : OptionPat → Tracking
  tracked_in_top tree.no_pat = none
  tracked_in_top (tree.some_pat p) = tracked_in_pat p

  pub tracked_in_pats : Pats → Tracking
  tracked_in_pats tree.no_pats = none
  tracked_in_pats (tree.more_pats p ps) = tracked_in_pat p ⊕ tracked_in_pats ps
  tracked_in_pats (tree.tracked_pats called ps) = tracked_in_pats ps

  pub tracked_in_pat_fields : PatFields → Tracking
  tracked_in_pat_fields tree.no_pat_fields = none
  tracked_in_pat_fields (tree.more_pat_fields f fs) = tracked_in_pat_field f ⊕ tracked_in_pat_fields fs

  pub tracked_in_pat_field : PatField → Tracking
  tracked_in_pat_field (tree.disabled_pat_field at by f) = none
  tracked_in_pat_field tree.partless_pat_field = none
  tracked_in_pat_field (tree.pat_field at n p) = tracked_in_pat p

  -- the assignee expression

  pub tracked_in_target : Target → Tracking
  tracked_in_target (tree.absent_target call) = none
  tracked_in_target (tree.place_target at e) = tracked_in e
  tracked_in_target (tree.macro_target at called t) = tracked_in_target t
  tracked_in_target (tree.wild_target at) = none
  tracked_in_target (tree.path_target at p h) = cut (alias_of p) (names_of_args (path_of (tree.some_path p))) (tracked_in_path p [])
  tracked_in_target (tree.tuple_target at ts) = tracked_in_targets ts
  tracked_in_target (tree.call_target at p ts) = tracked_in_whole p ⊕ if_read (path_of p) (tracked_in_targets ts)
  tracked_in_target (tree.array_target at before dots behind) = tracked_in_targets before ⊕ tracked_in_targets behind
  tracked_in_target (tree.record_target at p fs dots spread) =
      tracked_in_whole p ⊕ if_read (path_of p) (tracked_in_target_fields fs)

  pub tracked_in_targets : Targets → Tracking
  tracked_in_targets tree.no_targets = none
  tracked_in_targets (tree.more_targets t ts) = tracked_in_target t ⊕ tracked_in_targets ts
  tracked_in_targets (tree.dots_targets ts) = tracked_in_targets ts
  tracked_in_targets (tree.tracked_targets called ts) = tracked_in_targets ts

  pub tracked_in_target_fields : TargetFields → Tracking
  tracked_in_target_fields tree.no_target_fields = none
  tracked_in_target_fields (tree.more_target_fields f fs) = tracked_in_target_field f ⊕ tracked_in_target_fields fs

  pub tracked_in_target_field : TargetField → Tracking
  tracked_in_target_field (tree.disabled_target_field at by) = none
  tracked_in_target_field tree.partless_target_field = none
  tracked_in_target_field (tree.target_field at n t) = tracked_in_target t
