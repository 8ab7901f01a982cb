-- The faults of what lowering reads of a tree, in the order of lowering: one for each disabled node that is asked about, one for each
-- macro call that isn't found, one for each named jump that has no target, or none in reach, one for each await outside of async
-- code, one for each expression behind the two dots of a record that is assigned to, and one for each parameter that may only be a name
-- and isn't. Those of constants in types and paths are among them. What is in a disabled node isn't read.
use Rattle.std.specs.Prelude.{◌≡◌, Bool, true, false, List, [], ◌∷◌, ◌++◌, Option, Some, None}
use Rattle.hir_store.specs.declared.diagnostics.ExpressionStoreDiagnostics.{ExpressionStoreDiagnostics}
use Rattle.hir_store.specs.declared.diagnostics.ExpressionStoreDiagnostics.TheVariants.{AwaitOutsideOfAsync, InactiveCode, UndeclaredLabel}
use Rattle.hir_store.specs.declared.diagnostics.ExpressionStoreDiagnostics.TheVariants.{UnreachableLabel, FruInDestructuringAssignment}
use Rattle.hir_store.specs.declared.diagnostics.ExpressionStoreDiagnostics.TheVariants.{PatternArgInExternFn}
use Rattle.hir_store.specs.declared.diagnostics.AwaitLocation.{AwaitLocation}
use Rattle.hir_store.specs.Pointers.{Pointer}
use Rattle.hir_env.specs.ResolvedTree as tree
use Rattle.hir_env.specs.ResolvedTree.{Type_, OptionType, Parts, Path, OptionPath, Segments, Segment, SegmentArgs, OptionParens, OptionRet}
use Rattle.hir_env.specs.ResolvedTree.{OptionArgs, Args, Arg, Bounds, Bound, Constant, Jump, Expr, OptionExpr, Exprs, Fields, Field, Spread}
use Rattle.hir_env.specs.ResolvedTree.{Block, OptionBlock, Stmts, Stmt, Arms, Arm, Guard, Pat, OptionPat, Pats, PatFields, PatField, Side}
use Rattle.hir_env.specs.ResolvedTree.{TypePat, OptionTypePat, TypePats, Limit, Target, Targets, TargetFields, TargetField, SelfFormal}
use Rattle.hir_env.specs.ResolvedTree.{Formal}
use Rattle.hir_env.specs.ResolvedTree.{Formals, Param, Params}
use Rattle.spec_data.specs.Written.{written_path}
use Rattle.spec_semantics.specs.Syntax.{behind_def, is_typed}
use Rattle.thm_logic.specs.Calls.{called_faults, condition_faults}
use Rattle.thm_body_result.specs.Blocks.{where_some, where_goes_on, unless}
use Rattle.thm_logic.specs.PathSeen.{Seen, nothing_seen, at_first, segments_read, own_read, yields}
use Rattle.hir_lower_scope.specs.ScopeRibs.{Rib, Target as JumpTarget, reachable, unreachable, undeclared, target, map_ribs}
use Rattle.hir_lower_scope.specs.Scopes.{Scope, loop_scope, try_scope, barrier, ribs, scopes_in_block}

abbrev pub Faults : Type 0
Faults = List ExpressionStoreDiagnostics

abbrev pub target_faults : {A : Type 0} → Jump → JumpTarget A → Faults
target_faults j (reachable a) = []
target_faults j unreachable = UnreachableLabel j.pointer j.name ∷ []
target_faults j undeclared = UndeclaredLabel j.pointer j.name ∷ []

abbrev pub jump_faults : List Scope → Option Jump → Faults
jump_faults ss None = []
jump_faults ss (Some j) = target_faults j (target j (ribs ss))

-- what awaits stands in this, which isn't async
abbrev pub await_faults : Pointer → Option AwaitLocation → Faults
await_faults at None = []
await_faults at (Some location) = AwaitOutsideOfAsync at location ∷ []

-- an expression behind the two dots of a record that is assigned to
abbrev pub spread_faults : Option Pointer → Faults
spread_faults None = []
spread_faults (Some at) = FruInDestructuringAssignment at ∷ []

-- what stands behind the definition of a macro is inside of it
abbrev pub behind_stmt : Stmt → List Scope → List Scope
behind_stmt (tree.macro_stmt k d) ss = behind_def d ss
behind_stmt s ss = ss

abbrev mutual
  -- constants in types, paths, arguments and bounds

  pub type_faults : List Scope → Type_ → Faults
  type_faults ss (tree.paren_type t) = type_part_faults ss t
  type_faults ss (tree.macro_type at called t) = called_faults called ++ type_part_faults ss t
  type_faults ss (tree.for_type names t) = type_part_faults ss t
  type_faults ss (tree.leaf_type at form) = []
  type_faults ss (tree.over_type at form t) = type_part_faults ss t
  -- its length first
  type_faults ss (tree.array_type at c t) = constant_faults ss c ++ type_part_faults ss t
  type_faults ss (tree.tuple_type at ts) = parts_faults ss ts
  type_faults ss (tree.path_type at p) = whole_faults ss p
  type_faults ss (tree.ref_type at l mutability t) = type_part_faults ss t
  type_faults ss (tree.fn_type at head ts r) = type_part_faults ss r ++ parts_faults ss ts
  type_faults ss (tree.impl_type at mode bs) = bounds_faults ss bs
  type_faults ss (tree.nested_impl at) = []
  type_faults ss (tree.dyn_type at bs) = bounds_faults ss bs
  type_faults ss (tree.pattern_type at t own p) = type_part_faults ss t ++ type_pat_part_faults ss p

  pub type_part_faults : List Scope → OptionType → Faults
  type_part_faults ss tree.no_type = []
  type_part_faults ss (tree.some_type t) = type_faults ss t

  pub present_type_faults : List Scope → OptionType → Faults
  present_type_faults ss tree.no_type = []
  present_type_faults ss (tree.some_type t) = type_faults ss t

  pub parts_faults : List Scope → Parts → Faults
  parts_faults ss tree.no_parts = []
  parts_faults ss (tree.more_parts t ts) = type_part_faults ss t ++ parts_faults ss ts

  pub segment_faults : List Scope → Bool → Segment → Seen → Faults
  segment_faults ss first (tree.name_segment n _ as') x = beside_faults ss as'
  segment_faults ss first tree.super_segment x = []
  segment_faults ss true (tree.type_segment t) x = type_faults ss t
  segment_faults ss true (tree.trait_segment t at p) x = type_faults ss t ++ whole_faults ss p
  segment_faults ss first s x = []

  pub segments_faults : List Scope → Segments → Seen → Faults
  segments_faults ss tree.no_segments x = []
  segments_faults ss (tree.more_segments s more) x =
      segments_faults ss more x ++ where_goes_on (segments_read more x) (λ y. segment_faults ss false s y)

  pub path_faults : List Scope → Path → Seen → Faults
  path_faults ss (tree.path alias leading first rest use_) x =
      (segments_faults ss rest x ++ where_goes_on (segments_read rest x) (λ y. segment_faults ss true first (at_first leading y)))
      ++ where_goes_on (own_read leading first rest x) (λ y. outer_faults ss use_ y)

  pub outer_faults : List Scope → OptionPath → Seen → Faults
  outer_faults ss tree.no_path x = []
  outer_faults ss (tree.some_path p) x = path_faults ss p x

  -- of a path from its end
  pub whole_faults : List Scope → OptionPath → Faults
  whole_faults ss tree.no_path = []
  whole_faults ss (tree.some_path p) = path_faults ss p nothing_seen

  -- `(A) -> C` is read where `<..>` yields none
  pub beside_faults : List Scope → SegmentArgs → Faults
  beside_faults ss (tree.segment_args as' ps dots) = args_faults ss as' ++ unless (yields as') (parens_faults ss ps)

  pub parens_faults : List Scope → OptionParens → Faults
  parens_faults ss tree.no_parens = []
  parens_faults ss (tree.some_parens ts r) = parts_faults ss ts ++ output_faults ss r

  pub output_faults : List Scope → OptionRet → Faults
  output_faults ss tree.no_ret = []
  output_faults ss (tree.some_ret t) = type_part_faults ss t

  pub args_faults : List Scope → OptionArgs → Faults
  args_faults ss tree.no_arg_list = []
  args_faults ss (tree.some_arg_list as') = each_arg_faults ss as'

  pub each_arg_faults : List Scope → Args → Faults
  each_arg_faults ss tree.no_args = []
  each_arg_faults ss (tree.more_args a as') = arg_faults ss a ++ each_arg_faults ss as'

  pub arg_faults : List Scope → Arg → Faults
  arg_faults ss tree.skipped_arg = []
  arg_faults ss (tree.type_arg t) = type_part_faults ss t
  arg_faults ss (tree.lifetime_arg l) = []
  arg_faults ss (tree.const_arg c) = constant_faults ss c
  arg_faults ss (tree.assoc_arg n as' dots t bs) = args_faults ss as' ++ (present_type_faults ss t ++ bounds_faults ss bs)

  pub bounds_faults : List Scope → Bounds → Faults
  bounds_faults ss tree.no_bounds = []
  bounds_faults ss (tree.more_bounds b bs) = bound_faults ss b ++ bounds_faults ss bs

  pub bound_faults : List Scope → Bound → Faults
  bound_faults ss tree.error_bound = []
  bound_faults ss (tree.path_bound at p maybe binder) = whole_faults ss p
  bound_faults ss (tree.lifetime_bound l) = []
  bound_faults ss (tree.use_bound us) = []

  -- no jump in it reaches what is open around it
  pub constant_faults : List Scope → Constant → Faults
  constant_faults ss (tree.constant e) = part_diagnostics (barrier ∷ ss) e

  pub type_pat_faults : List Scope → TypePat → Faults
  type_pat_faults ss (tree.not_null_type_pat at) = []
  type_pat_faults ss (tree.macro_type_pat at called p) = called_faults called ++ type_pat_part_faults ss p
  type_pat_faults ss (tree.or_type_pat at ps) = type_pats_faults ss ps
  type_pat_faults ss (tree.range_type_pat at low high) = limit_faults ss low ++ limit_faults ss high
  type_pat_faults ss (tree.other_type_pat at) = []

  pub type_pat_part_faults : List Scope → OptionTypePat → Faults
  type_pat_part_faults ss tree.no_type_pat = []
  type_pat_part_faults ss (tree.some_type_pat p) = type_pat_faults ss p

  pub type_pats_faults : List Scope → TypePats → Faults
  type_pats_faults ss tree.no_type_pats = []
  type_pats_faults ss (tree.more_type_pats p ps) = type_pat_faults ss p ++ type_pats_faults ss ps

  -- no jump in an end reaches what is open around it
  pub limit_faults : List Scope → Limit → Faults
  limit_faults ss (tree.item_limit item) = []
  limit_faults ss (tree.side_limit s) = side_faults (barrier ∷ ss) s
  limit_faults ss (tree.before_limit item s) = side_faults (barrier ∷ ss) s

  pub side_faults : List Scope → Side → Faults
  side_faults ss (tree.path_side at p) = whole_faults ss p
  side_faults ss s = []

  -- expressions

  pub diagnostics : List Scope → Expr → Faults
  diagnostics ss (tree.disabled_expr why e) = condition_faults why.condition
  -- the condition is lowered last
  diagnostics ss (tree.if_expr at c t e) = block_part_diagnostics ss t ++ (part_diagnostics ss e ++ part_diagnostics ss c)
  diagnostics ss (tree.block_expr b) = block_diagnostics ss b
  diagnostics ss (tree.loop_expr at label _ b) = block_part_diagnostics (loop_scope label ∷ ss) b
  diagnostics ss (tree.while_expr at label _ c b) =
      block_part_diagnostics (loop_scope label ∷ ss) b ++ part_diagnostics (loop_scope label ∷ ss) c
  -- its head and its pattern lie outside of its label
  diagnostics ss (tree.for_expr at items label _ p h b) =
      part_diagnostics ss h ++ (top_faults ss p ++ part_diagnostics (loop_scope label ∷ ss) b)
  diagnostics ss (tree.question_expr at items e) = part_diagnostics ss e
  diagnostics ss (tree.itemless_expr at) = []
  -- its type is no part of what is tried
  diagnostics ss (tree.try_expr at item t number stmts tail) =
      contents_diagnostics (try_scope (is_typed t) ∷ ss) stmts (λ inner. part_diagnostics inner tail) ++ present_type_faults ss t
  -- no jump in it reaches what is open around it
  diagnostics ss (tree.coroutine_expr at kind moves number stmts tail) =
      contents_diagnostics (barrier ∷ ss) stmts (λ inner. part_diagnostics inner tail)
  diagnostics ss (tree.call_expr at f has_list es) = part_diagnostics ss f ++ each_diagnostics ss es
  diagnostics ss (tree.path_expr at p h) = whole_faults ss p
  diagnostics ss (tree.continue_expr at jump) = jump_faults ss jump
  diagnostics ss (tree.break_expr at jump e) = jump_faults ss jump ++ part_diagnostics ss e
  diagnostics ss (tree.paren_expr at e) = part_diagnostics ss e
  diagnostics ss (tree.macro_expr at called e) = called_faults called ++ part_diagnostics ss e
  diagnostics ss (tree.literal_expr at l) = []
  diagnostics ss (tree.leaf_expr at form) = []
  diagnostics ss (tree.unary_expr at form e) = part_diagnostics ss e
  diagnostics ss (tree.binary_expr at form a b) = part_diagnostics ss a ++ part_diagnostics ss b
  diagnostics ss (tree.lazy_expr at op a b) = part_diagnostics ss a ++ part_diagnostics ss b
  diagnostics ss (tree.list_expr at form es) = each_diagnostics ss es
  diagnostics ss (tree.repeat_expr at e c) = part_diagnostics ss e ++ constant_faults ss c
  diagnostics ss (tree.const_expr at c) = constant_faults ss c
  -- no jump in it reaches what is open around it
  diagnostics ss (tree.closure_expr at moves is_static xs t e) =
      params_faults (barrier ∷ ss) xs ++ (present_type_faults (barrier ∷ ss) t ++ part_diagnostics (barrier ∷ ss) e)
  diagnostics ss (tree.coroutine_closure_expr at kind moves xs t e) =
      let inside = barrier ∷ ss in params_faults inside xs ++ (present_type_faults inside t ++ part_diagnostics inside e)
  diagnostics ss (tree.method_call_expr at e name es generics) =
      part_diagnostics ss e ++ (each_diagnostics ss es ++ args_faults ss generics)
  diagnostics ss (tree.cast_expr at e t) = part_diagnostics ss e ++ type_part_faults ss t
  diagnostics ss (tree.record_expr at p head fs s) =
      whole_faults ss p ++ where_some (written_path p) (fields_diagnostics ss fs ++ spread_diagnostics ss s)
  diagnostics ss (tree.offset_of_expr at t names) = type_part_faults ss t
  diagnostics ss (tree.leaving_expr at form e) = part_diagnostics ss e
  diagnostics ss (tree.become_expr at e) = part_diagnostics ss e
  diagnostics ss (tree.yield_expr at e) = part_diagnostics ss e
  diagnostics ss (tree.await_expr at location e) = part_diagnostics ss e ++ await_faults at location
  diagnostics ss (tree.nameless_expr at e) = part_diagnostics ss e
  diagnostics ss (tree.let_expr at p e) = top_faults ss p ++ part_diagnostics ss e
  diagnostics ss (tree.match_expr at e arms) = part_diagnostics ss e ++ arms_diagnostics ss arms
  diagnostics ss (tree.range_expr at form low high) = part_diagnostics ss low ++ part_diagnostics ss high
  diagnostics ss (tree.assign_expr at own t e) = target_faults_in ss t ++ part_diagnostics ss e

  pub params_faults : List Scope → Params → Faults
  params_faults ss tree.no_params = []
  params_faults ss (tree.more_params x xs) = param_faults ss x ++ params_faults ss xs

  pub param_faults : List Scope → Param → Faults
  param_faults ss (tree.disabled_param at by x) = InactiveCode at by ∷ []
  param_faults ss (tree.param p t) = top_faults ss p ++ present_type_faults ss t

  pub part_diagnostics : List Scope → OptionExpr → Faults
  part_diagnostics ss tree.no_expr = []
  part_diagnostics ss (tree.some_expr e) = diagnostics ss e

  pub each_diagnostics : List Scope → Exprs → Faults
  each_diagnostics ss tree.no_exprs = []
  each_diagnostics ss (tree.more_exprs e es) = diagnostics ss e ++ each_diagnostics ss es

  pub fields_diagnostics : List Scope → Fields → Faults
  fields_diagnostics ss tree.no_fields = []
  fields_diagnostics ss (tree.more_fields f fs) = field_diagnostics ss f ++ fields_diagnostics ss fs

  -- a field without a name isn't read, where no condition disables it
  pub field_diagnostics : List Scope → Field → Faults
  field_diagnostics ss (tree.disabled_field at by f) = InactiveCode at by ∷ []
  field_diagnostics ss (tree.nameless_field at e) = []
  field_diagnostics ss (tree.named_field at name e) = part_diagnostics ss e

  pub arms_diagnostics : List Scope → Arms → Faults
  arms_diagnostics ss tree.no_arms = []
  arms_diagnostics ss (tree.more_arms a arms) = arm_diagnostics ss a ++ arms_diagnostics ss arms

  pub arm_diagnostics : List Scope → Arm → Faults
  arm_diagnostics ss (tree.disabled_arm at by a) = InactiveCode at by ∷ []
  arm_diagnostics ss (tree.arm p e g) = top_faults ss p ++ (part_diagnostics ss e ++ guard_diagnostics ss g)

  pub guard_diagnostics : List Scope → Guard → Faults
  guard_diagnostics ss tree.no_guard = []
  guard_diagnostics ss (tree.guard e) = part_diagnostics ss e

  pub spread_diagnostics : List Scope → Spread → Faults
  spread_diagnostics ss tree.no_spread = []
  spread_diagnostics ss tree.field_defaults = []
  spread_diagnostics ss (tree.spread_of e) = diagnostics ss e

  pub block_diagnostics : List Scope → Block → Faults
  block_diagnostics ss (tree.block at is_unsafe label _ number stmts tail) =
      contents_diagnostics (scopes_in_block label ss) stmts (λ inner. part_diagnostics inner tail)

  pub block_part_diagnostics : List Scope → OptionBlock → Faults
  block_part_diagnostics ss tree.no_block = []
  block_part_diagnostics ss (tree.some_block b) = block_diagnostics ss b

  -- the statements, and then the tail, in the scopes that the statements leave
  pub contents_diagnostics : List Scope → Stmts → (List Scope → Faults) → Faults
  contents_diagnostics ss tree.no_stmts tail = tail ss
  contents_diagnostics ss (tree.more_stmts s stmts) tail = stmt_diagnostics ss s ++ contents_diagnostics (behind_stmt s ss) stmts tail

  pub stmt_diagnostics : List Scope → Stmt → Faults
  stmt_diagnostics ss (tree.expr_stmt e semi) = part_diagnostics ss e
  stmt_diagnostics ss (tree.disabled_stmt at by s) = InactiveCode at by ∷ []
  stmt_diagnostics ss tree.item_stmt = []
  stmt_diagnostics ss (tree.call_stmt c) = []
  stmt_diagnostics ss (tree.macro_stmt k d) = []
  stmt_diagnostics ss (tree.let_stmt p t e b) =
      top_faults ss p ++ (present_type_faults ss t ++ (part_diagnostics ss e ++ block_part_diagnostics ss b))

  -- patterns

  pub pat_faults : List Scope → Pat → Faults
  pat_faults ss (tree.leaf_pat at form) = []
  pat_faults ss (tree.bind_pat at u _ sub) = top_faults ss sub
  pat_faults ss (tree.name_pat at u _) = []
  pat_faults ss (tree.path_pat at p) = whole_faults ss p
  pat_faults ss (tree.tuple_struct_pat at p comma ps) = whole_faults ss p ++ where_some (written_path p) (pats_faults ss ps)
  pat_faults ss (tree.tuple_pat at comma ps) = pats_faults ss ps
  pat_faults ss (tree.record_pat at p fs dots) = whole_faults ss p ++ where_some (written_path p) (pat_fields_faults ss fs)
  pat_faults ss (tree.or_pat at ps) = pats_faults ss ps
  pat_faults ss (tree.paren_pat at p) = top_faults ss p
  pat_faults ss (tree.macro_pat at called p) = called_faults called ++ top_faults ss p
  pat_faults ss (tree.barred_pat at) = PatternArgInExternFn at ∷ []
  pat_faults ss (tree.slice_pat at before middle behind) = pats_faults ss before ++ (top_faults ss middle ++ pats_faults ss behind)
  pat_faults ss (tree.over_pat at form p) = top_faults ss p
  pat_faults ss (tree.literal_pat at own l) = []
  pat_faults ss (tree.range_pat at op low high) = side_faults ss low ++ side_faults ss high

  pub top_faults : List Scope → OptionPat → Faults
  top_faults ss tree.no_pat = []
  top_faults ss (tree.some_pat p) = pat_faults ss p

  pub pats_faults : List Scope → Pats → Faults
  pats_faults ss tree.no_pats = []
  pats_faults ss (tree.more_pats p ps) = pat_faults ss p ++ pats_faults ss ps
  pats_faults ss (tree.tracked_pats called ps) = called_faults called ++ pats_faults ss ps

  pub pat_fields_faults : List Scope → PatFields → Faults
  pat_fields_faults ss tree.no_pat_fields = []
  pat_fields_faults ss (tree.more_pat_fields f fs) = pat_field_faults ss f ++ pat_fields_faults ss fs

  pub pat_field_faults : List Scope → PatField → Faults
  pat_field_faults ss (tree.disabled_pat_field at by f) = InactiveCode at by ∷ []
  pat_field_faults ss tree.partless_pat_field = []
  pat_field_faults ss (tree.pat_field at n p) = pat_faults ss p

  -- the assignee expression

  pub target_faults_in : List Scope → Target → Faults
  target_faults_in ss (tree.absent_target call) = []
  target_faults_in ss (tree.place_target at e) = diagnostics ss e
  target_faults_in ss (tree.macro_target at called t) = called_faults called ++ target_faults_in ss t
  target_faults_in ss (tree.wild_target at) = []
  target_faults_in ss (tree.path_target at p h) = path_faults ss p nothing_seen
  target_faults_in ss (tree.tuple_target at ts) = targets_faults ss ts
  target_faults_in ss (tree.call_target at p ts) = whole_faults ss p ++ where_some (written_path p) (targets_faults ss ts)
  target_faults_in ss (tree.array_target at before dots behind) = targets_faults ss before ++ targets_faults ss behind
  target_faults_in ss (tree.record_target at p fs dots spread) =
      whole_faults ss p ++ where_some (written_path p) (spread_faults spread ++ target_fields_faults ss fs)

  pub targets_faults : List Scope → Targets → Faults
  targets_faults ss tree.no_targets = []
  targets_faults ss (tree.more_targets t ts) = target_faults_in ss t ++ targets_faults ss ts
  targets_faults ss (tree.dots_targets ts) = targets_faults ss ts
  targets_faults ss (tree.tracked_targets called ts) = called_faults called ++ targets_faults ss ts

  pub target_fields_faults : List Scope → TargetFields → Faults
  target_fields_faults ss tree.no_target_fields = []
  target_fields_faults ss (tree.more_target_fields f fs) = target_field_faults ss f ++ target_fields_faults ss fs

  pub target_field_faults : List Scope → TargetField → Faults
  target_field_faults ss (tree.disabled_target_field at by) = InactiveCode at by ∷ []
  target_field_faults ss tree.partless_target_field = []
  target_field_faults ss (tree.target_field at n t) = target_faults_in ss t

-- parameters

abbrev pub self_faults : SelfFormal → Faults
self_faults tree.no_self = []
self_faults (tree.disabled_self at by) = InactiveCode at by ∷ []
self_faults (tree.self_formal at u _) = []

-- of a skipped body none is read
abbrev pub formal_faults : Bool → List Scope → Formal → Faults
formal_faults skipped ss (tree.disabled_formal at by) = InactiveCode at by ∷ []
formal_faults true ss f = []
formal_faults false ss (tree.formal p) = top_faults ss p

abbrev pub each_formal_faults : Bool → List Scope → List Formal → Faults
each_formal_faults skipped ss [] = []
each_formal_faults skipped ss (f ∷ fs) = formal_faults skipped ss f ++ each_formal_faults skipped ss fs

abbrev pub formals_faults : Bool → List Scope → Formals → Faults
formals_faults skipped ss f = self_faults f.receiver ++ each_formal_faults skipped ss f.formals

-- of a body behind its parameters
abbrev pub body_faults : Bool → List Scope → Formals → OptionExpr → Faults
body_faults skipped ss f e = formals_faults skipped ss f ++ part_diagnostics ss e

-- the scopes in which something is lowered

-- They have the ribs that are open, whatever is known of the labels.
abbrev pub forget : {A : Type 0} → A → Unit {0}
forget a = tt

abbrev pub Around : {A : Type 0} → List Scope → List (Rib A) → Type 0
Around ss rs = map_ribs forget (ribs ss) ≡ map_ribs forget rs
