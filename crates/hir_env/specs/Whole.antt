-- A tree with the answers written into it at a spot, and the equations of its levels.
use Rattle.std.specs.Prelude.{Bool, true, false, List, Option, Some, None, option_map}
use Rattle.hir_syntax.specs.declared.ast.ElseBranch.{ElseBranch as AstElseBranch, out-ElseBranch}
use Rattle.hir_syntax.specs.declared.ast.ExprKind.{out-ExprKind}
use Rattle.hir_syntax.specs.declared.ast.ElseBranch.TheOpen.{ExprKind-F}
use Rattle.hir_syntax.specs.declared.ast.StmtKind.{out-StmtKind}
use Rattle.hir_syntax.specs.declared.types.GenericArg.{GenericArg as AstGenericArg, out-GenericArg}
use Rattle.hir_syntax.specs.declared.types.TypeKind.{out-TypeKind}
use Rattle.hir_syntax.specs.declared.ast.BlockModifier.{BlockModifier}
use Rattle.hir_syntax.specs.declared.ast.BlockModifier.TheVariants as modifier
use Rattle.hir_syntax.specs.declared.ast.BlockExpr.{BlockExpr as AstBlockExpr, out-BlockExpr}
use Rattle.hir_syntax.specs.declared.ast.Expr.{Expr as AstExpr}
use Rattle.hir_syntax.specs.declared.ast.Path.{Path as AstPath, out-Path}
use Rattle.hir_syntax.specs.declared.ast.PathSegment.{PathSegment as AstPathSegment, out-PathSegment}
use Rattle.hir_syntax.specs.declared.ast.RecordExprField.{RecordExprField as AstRecordExprField, out-RecordExprField}
use Rattle.hir_syntax.specs.declared.ast.RecordExprFieldList.{RecordExprFieldList as AstRecordExprFieldList, out-RecordExprFieldList}
use Rattle.hir_syntax.specs.declared.ast.Stmt.{Stmt as AstStmt}
use Rattle.hir_syntax.specs.declared.branches.MatchArm.{MatchArm as AstMatchArm, out-MatchArm}
use Rattle.hir_syntax.specs.declared.pats.PatKind.{out-PatKind}
use Rattle.hir_syntax.specs.declared.pats.Pat.{Pat as AstPat}
use Rattle.hir_syntax.specs.declared.pats.RecordPatField.{RecordPatField as AstRecordPatField, out-RecordPatField}
use Rattle.hir_syntax.specs.declared.types.AssocTypeArg.{AssocTypeArg as AstAssocTypeArg, out-AssocTypeArg}
use Rattle.hir_syntax.specs.declared.types.Param.{Param as AstParam, out-Param}
use Rattle.hir_syntax.specs.declared.types.PathType.{PathType as AstPathType, out-PathType}
use Rattle.hir_syntax.specs.declared.types.TypeBound.{TypeBound as AstTypeBound, out-TypeBound}
use Rattle.hir_syntax.specs.declared.types.Type_.{Type_ as AstType_}
use Rattle.hir_syntax.specs.declared.ast.Label.{Label as AstLabel}
use Rattle.hir_syntax.specs.declared.ast.Lifetime.{Lifetime as AstLifetime}
use Rattle.hir_base.specs.declared.node.NodeId.{NodeId}
use Rattle.hir_base.specs.declared.node.TextRange.{TextRange}
use Rattle.hir_store.specs.Pointers.{Pointer}
use Rattle.hir_env.specs.ResolveCtx.{ResolveCtx}
use Rattle.hir_env.specs.Wrapped.{AstConstArg, AstGuard, AstLetElse, AstRetType, AstTypeArg, AstParenArgs, AstGenericArgList}
use Rattle.hir_store.specs.declared.hir.CoroutineKind.{CoroutineKind}
use Rattle.hir_store.specs.declared.hir.CoroutineKind.TheVariants as coroutine
use Rattle.hir_store.specs.declared.ids.BlockId.{BlockId}
use Rattle.hir_store.specs.declared.name.Name.{Name}
use Rattle.hir_env.specs.declared.ctx.LowerCtx.{LowerCtx}
use Rattle.hir_env.specs.Layers.{RecordReading, ExprKindLayer}
use Rattle.hir_env.specs.Answering.{in_file, ptr, site_of, label_of, label_written, jump_of, expr_or_none, plain_or_none, exprs_of}
use Rattle.hir_env.specs.Answering.{BlockHead, labelled_head, plain_head, unsafe_head, asked_or_none, const_of}
use Rattle.hir_env.specs.Answering.{Held, block_holding, try_holding, coroutine_holding}
use Rattle.hir_env.specs.Answering.{exprs_or_none, numbered, inside, asked, else_branch, expr_at, constant_step, stmt_at}
use Rattle.hir_env.specs.Answering.{field_step, record_step, fields_of, spread_or_none, record_or_empty, arms_of, arms_or_none}
use Rattle.hir_env.specs.Answering.{guard_or_none, let_else_or_none, guard_step, let_else_step, arm_step}
use Rattle.hir_env.specs.Pats.{elements_of, pats_of, pat_fields_of, pat_at, pat_field_step}
use Rattle.hir_env.specs.Targets.{resolves, target_of}
use Rattle.hir_env.specs.TypePats.{type_pat_or_none}
use Rattle.hir_env.specs.Paths.{inside_closure, inside_coroutine, inside_impl, outside_impl, inside_constant, inside_const_block}
use Rattle.hir_env.specs.Paths.{path_or_none}
use Rattle.hir_env.specs.Paths.{closure_params_of, closure_params_or_none, segment_or_absent, segments_of}
use Rattle.hir_env.specs.Paths.{first_of, rest_of, type_or_none, types_of, parts_of, params_or_none, is_varargs, answer_or_none}
use Rattle.hir_env.specs.Paths.{ret_or_none, parens_or_none, path_type_or_none, arg_list_or_none, generic_args_of, bounds_of}
use Rattle.hir_env.specs.Paths.{constant_or_absent, type_at, generic_arg_step, path_step, plain_path, segment_step, assoc_type_arg_step}
use Rattle.hir_env.specs.Paths.{generic_arg_list_step, param_step, paren_args_step, path_type_step, ret_type_step, type_arg_step}
use Rattle.hir_env.specs.Paths.{type_bound_step, pat_or_none, names_or_none}
use Rattle.hir_env.specs.TypeLayers.{ParamReading, PathTypeReading}
use Rattle.hir_env.specs.Layers.{Defined, Entering, Spliced, StmtReading}
use Rattle.hir_env.specs.Answering.{Contents, contents_of, value_kind}
pub use Rattle.hir_env.specs.Folds.{entering, read_value}
pub use Rattle.hir_env.specs.Folds.{written, reader, read_else_branch, read_expr_kind, read_stmt_kind, read_generic_arg}
pub use Rattle.hir_env.specs.Folds.{read_type_kind, read_block, read_constant, read_expr, read_path, read_segment, read_field}
pub use Rattle.hir_env.specs.Folds.{read_record, read_stmt, read_assoc_type_arg, read_generic_arg_list, read_param, read_paren_args}
pub use Rattle.hir_env.specs.Folds.{read_path_type, read_use_tree, read_ret_type, read_type_arg, read_type_bound, read_type}
pub use Rattle.hir_env.specs.Folds.{read_guard, read_let_else, read_arm, read_pat_kind, read_pat, read_pat_field}
use Rattle.hir_env.specs.ResolvedTree as tree
use Rattle.hir_env.specs.ResolvedTree.{Label, Jump, Type_, OptionType, Parts, Path, OptionPath, Segments, Segment}
use Rattle.hir_env.specs.ResolvedTree.{SegmentArgs, OptionParens, OptionRet, OptionArgs, Args, Arg, Bounds, Bound}
use Rattle.hir_env.specs.ResolvedTree.{Expr, OptionExpr, Exprs, Fields, Field, Spread, Block, OptionBlock, Stmts, Stmt, Constant}
use Rattle.hir_env.specs.ResolvedTree.{Arms, Arm, Guard, Param, Params, Pat, OptionPat, Pats, PatFields, PatField, OptionTypePat, Target}

-- how that is read which calls stand for there
abbrev pub into : ResolveCtx → Option Entering
into at = entering at.answers at.place.left

-- read at a spot

abbrev pub resolved_expr : ResolveCtx → AstExpr → Expr
resolved_expr at e = read_expr at.answers (into at) e at.place

abbrev pub resolved_plain : ResolveCtx → AstBlockExpr → Block
resolved_plain at b = (read_block at.answers (into at) b).plain at.place

abbrev pub resolved_block : ResolveCtx → AstBlockExpr → Expr
resolved_block at b = (read_block at.answers (into at) b).own at.place

-- as an expression that a condition may disable
abbrev pub resolved_body : ResolveCtx → AstBlockExpr → Expr
resolved_body at b = (read_block at.answers (into at) b).asked at.place

abbrev pub resolved_else : ResolveCtx → AstElseBranch → Expr
resolved_else at e = read_else_branch at.answers (into at) e at.place

abbrev pub resolved_field : ResolveCtx → AstRecordExprField → Field
resolved_field at x = read_field at.answers (into at) x at.place

abbrev pub resolved_record : ResolveCtx → AstRecordExprFieldList → RecordReading
resolved_record at x = read_record at.answers (into at) x at.place

abbrev pub resolved_constant : ResolveCtx → AstConstArg → Constant
resolved_constant at x = read_constant at.answers (into at) x at.place

abbrev pub resolved_guard : ResolveCtx → AstGuard → OptionExpr
resolved_guard at x = read_guard at.answers (into at) x at.place

abbrev pub resolved_let_else : ResolveCtx → AstLetElse → OptionBlock
resolved_let_else at x = read_let_else at.answers (into at) x at.place

abbrev pub resolved_arm : ResolveCtx → AstMatchArm → Arm
resolved_arm at x = read_arm at.answers (into at) x at.place

abbrev pub resolved_pat : ResolveCtx → AstPat → Pat
resolved_pat at x = read_pat at.answers (into at) x at.place

abbrev pub resolved_pat_field : ResolveCtx → AstRecordPatField → PatField
resolved_pat_field at x = read_pat_field at.answers (into at) x at.place

abbrev pub resolved_type : ResolveCtx → AstType_ → Type_
resolved_type at x = read_type at.answers (into at) x at.place

abbrev pub resolved_param : ResolveCtx → AstParam → ParamReading
resolved_param at x = read_param at.answers (into at) x at.place

-- the same as a parameter of a closure
abbrev pub resolved_closure_param : ResolveCtx → AstParam → Param
resolved_closure_param at x = (resolved_param at x).own

abbrev pub resolved_ret : ResolveCtx → AstRetType → OptionType
resolved_ret at x = read_ret_type at.answers (into at) x at.place

abbrev pub resolved_path : ResolveCtx → AstPath → Path
resolved_path at x = read_path at.answers (into at) x at.place

-- as the use tree around another path
abbrev pub resolved_use_tree : ResolveCtx → AstPath → Path
resolved_use_tree at x = read_use_tree at.answers (into at) x at.place

-- a path by itself, or as a use tree
abbrev pub resolved_path_as : Bool → ResolveCtx → AstPath → Path
resolved_path_as true at x = resolved_path at x
resolved_path_as false at x = resolved_use_tree at x

abbrev pub resolved_segment : ResolveCtx → AstPathSegment → Segment
resolved_segment at x = read_segment at.answers (into at) x at.place

abbrev pub resolved_path_type : ResolveCtx → AstPathType → PathTypeReading
resolved_path_type at x = read_path_type at.answers (into at) x at.place

abbrev pub resolved_paren_args : ResolveCtx → AstParenArgs → Parts
resolved_paren_args at x = read_paren_args at.answers (into at) x at.place

abbrev pub resolved_arg_list : ResolveCtx → AstGenericArgList → Args
resolved_arg_list at x = read_generic_arg_list at.answers (into at) x at.place

abbrev pub resolved_arg : ResolveCtx → AstGenericArg → Arg
resolved_arg at x = read_generic_arg at.answers (into at) x at.place

abbrev pub resolved_type_arg : ResolveCtx → AstTypeArg → OptionType
resolved_type_arg at x = read_type_arg at.answers (into at) x at.place

abbrev pub resolved_assoc_arg : ResolveCtx → AstAssocTypeArg → Arg
resolved_assoc_arg at x = read_assoc_type_arg at.answers (into at) x at.place

abbrev pub resolved_bound : ResolveCtx → AstTypeBound → Bound
resolved_bound at x = read_type_bound at.answers (into at) x at.place

-- parts that may be absent, and lists
abbrev pub expr_part : ResolveCtx → Option AstExpr → OptionExpr
expr_part at e = expr_or_none (read_expr at.answers (into at)) e at.place

abbrev pub else_part : ResolveCtx → Option AstElseBranch → OptionExpr
else_part at e = expr_or_none (read_else_branch at.answers (into at)) e at.place

abbrev pub block_part : ResolveCtx → Option AstBlockExpr → OptionBlock
block_part at b = plain_or_none (read_block at.answers (into at)) b at.place

-- the body of a `for`
abbrev pub body_part : ResolveCtx → Option AstBlockExpr → OptionExpr
body_part at b = asked_or_none (read_block at.answers (into at)) b at.place

abbrev pub exprs_part : ResolveCtx → List AstExpr → Exprs
exprs_part at es = exprs_of (read_expr at.answers (into at)) es at.place

abbrev pub args_part : ResolveCtx → Option (List AstExpr) → Exprs
args_part at es = exprs_or_none (read_expr at.answers (into at)) es at.place

abbrev pub fields_part : ResolveCtx → List AstRecordExprField → Fields
fields_part at fs = fields_of (read_field at.answers (into at)) fs at.place

abbrev pub spread_part : ResolveCtx → Option AstExpr → Bool → Spread
spread_part at e dots = spread_or_none (read_expr at.answers (into at)) e dots at.place

abbrev pub record_part : ResolveCtx → Option AstRecordExprFieldList → RecordReading
record_part at x = record_or_empty (read_record at.answers (into at)) x at.place

abbrev pub constant_part : ResolveCtx → Option AstConstArg → Constant
constant_part at x = constant_or_absent (read_constant at.answers (into at)) x at.place

abbrev pub arms_part : ResolveCtx → List AstMatchArm → Arms
arms_part at xs = arms_of (read_arm at.answers (into at)) xs at.place

abbrev pub arms_or_none_part : ResolveCtx → Option (List AstMatchArm) → Arms
arms_or_none_part at xs = arms_or_none (read_arm at.answers (into at)) xs at.place

abbrev pub guard_part : ResolveCtx → Option AstGuard → Guard
guard_part at x = guard_or_none (read_guard at.answers (into at)) x at.place

abbrev pub let_else_part : ResolveCtx → Option AstLetElse → OptionBlock
let_else_part at x = let_else_or_none (read_let_else at.answers (into at)) x at.place

abbrev pub pat_part : ResolveCtx → Option AstPat → OptionPat
pat_part at x = pat_or_none (read_pat at.answers (into at)) x at.place

abbrev pub elements_part : ResolveCtx → List AstPat → Pats
elements_part at xs = elements_of (read_pat at.answers (into at)) xs at.place

abbrev pub pats_part : ResolveCtx → List AstPat → Pats
pats_part at xs = pats_of (read_pat at.answers (into at)) xs at.place

abbrev pub pat_fields_part : ResolveCtx → List AstRecordPatField → PatFields
pat_fields_part at xs = pat_fields_of (read_pat_field at.answers (into at)) xs at.place

-- the assignee expression
abbrev pub target_part : ResolveCtx → Option AstExpr → Target
target_part at e = target_of (resolves at.answers at.place) (expr_part at e)

-- the pattern of a type
abbrev pub type_pat_part : ResolveCtx → Option AstPat → OptionTypePat
type_pat_part at x = type_pat_or_none at.answers.lang_items (pat_part at x)

abbrev pub type_part : ResolveCtx → Option AstType_ → OptionType
type_part at t = type_or_none (read_type at.answers (into at)) t at.place

abbrev pub path_part : ResolveCtx → Option AstPath → OptionPath
path_part at x = path_or_none (read_path at.answers (into at)) x at.place

abbrev pub use_tree_part : ResolveCtx → Option AstPath → OptionPath
use_tree_part at x = path_or_none (read_use_tree at.answers (into at)) x at.place

abbrev pub segment_part : ResolveCtx → Option AstPathSegment → Segment
segment_part at s = segment_or_absent (read_segment at.answers (into at)) s at.place

abbrev pub segments_part : ResolveCtx → List (Option AstPathSegment) → Segments
segments_part at ss = segments_of (read_segment at.answers (into at)) ss at.place

-- the first of a path's segments, which is absent where it has none, and those behind it
abbrev pub first_part : ResolveCtx → List (Option AstPathSegment) → Segment
first_part at ss = first_of (read_segment at.answers (into at)) ss at.place

abbrev pub rest_part : ResolveCtx → List (Option AstPathSegment) → Segments
rest_part at ss = rest_of (read_segment at.answers (into at)) ss at.place

abbrev pub path_type_part : ResolveCtx → Option AstPathType → Option PathTypeReading
path_type_part at t = path_type_or_none (read_path_type at.answers (into at)) t at.place

abbrev pub types_part : ResolveCtx → List AstType_ → Parts
types_part at ts = types_of (read_type at.answers (into at)) ts at.place

abbrev pub type_args_part : ResolveCtx → List AstTypeArg → Parts
type_args_part at ts = parts_of (read_type_arg at.answers (into at)) ts at.place

abbrev pub params_part : ResolveCtx → Option (List AstParam) → Parts
params_part at ps = params_or_none (read_param at.answers (into at)) ps at.place

abbrev pub varargs_part : ResolveCtx → Option (List AstParam) → Bool
varargs_part at ps = is_varargs (read_param at.answers (into at)) ps at.place

abbrev pub names_part : ResolveCtx → Option (List AstParam) → List (Option Name)
names_part at ps = names_or_none (read_param at.answers (into at)) ps at.place

abbrev pub closure_params_part : ResolveCtx → List AstParam → Params
closure_params_part at ps = closure_params_of (read_param at.answers (into at)) ps at.place

abbrev pub closure_params_or_none_part : ResolveCtx → Option (List AstParam) → Params
closure_params_or_none_part at ps = closure_params_or_none (read_param at.answers (into at)) ps at.place

abbrev pub answer_part : ResolveCtx → Option AstRetType → OptionType
answer_part at r = answer_or_none (read_ret_type at.answers (into at)) r at.place

abbrev pub ret_part : ResolveCtx → Option AstRetType → OptionRet
ret_part at r = ret_or_none (read_ret_type at.answers (into at)) r at.place

abbrev pub parens_part : ResolveCtx → Option AstParenArgs → Option AstRetType → OptionParens
parens_part at x r = parens_or_none (read_paren_args at.answers (into at)) x (ret_part at r) at.place

abbrev pub arg_list_part : ResolveCtx → Option AstGenericArgList → OptionArgs
arg_list_part at x = arg_list_or_none (read_generic_arg_list at.answers (into at)) x at.place

abbrev pub generic_args_part : ResolveCtx → List AstGenericArg → Args
generic_args_part at as' = generic_args_of (read_generic_arg at.answers (into at)) as' at.place

abbrev pub bounds_part : ResolveCtx → List AstTypeBound → Bounds
bounds_part at bs = bounds_of (read_type_bound at.answers (into at)) bs at.place

abbrev pub label_part : ResolveCtx → Option AstLabel → Option Label
label_part at l = option_map (label_of at.answers at.place) l

abbrev pub jump_part : ResolveCtx → Option AstLifetime → Option Jump
jump_part at l = option_map (jump_of at.answers at.place) l

-- the node of a number and a range
abbrev pub pointer_at : ResolveCtx → NodeId → TextRange → Pointer
pointer_at at id range = in_file at.place (ptr id range)

-- its label, where no modifier stands
abbrev pub block_head : ResolveCtx → AstBlockExpr → BlockHead
block_head at b = let level = out-BlockExpr b in
    labelled_head (label_part at level.label) (label_written at.answers at.place level.label)

-- the node of an expression, and of a block as an expression the block's
abbrev pub kind_pointer : LowerCtx → ExprKindLayer written → Pointer → Pointer
kind_pointer p (ExprKind-F.BlockExpr b) s = let level = out-BlockExpr b in in_file p (ptr level.id level.range)
kind_pointer p _ s = s

abbrev pub own_pointer : ResolveCtx → AstExpr → Pointer
own_pointer at e = kind_pointer at.place (out-ExprKind e.kind) (pointer_at at e.id e.range)

-- one level
abbrev pub kept_expr : ResolveCtx → AstExpr → Expr
kept_expr at e = expr_at at.answers (reader at.answers (into at)) (out-ExprKind e.kind) at.place (pointer_at at e.id e.range)

abbrev pub asked_expr : ResolveCtx → AstExpr → Expr
asked_expr at e = let s = pointer_at at e.id e.range in asked s (at.answers.cfg (site_of s)) (kept_expr at e)

abbrev pub stmt_level : ResolveCtx → Defined → AstStmt → StmtReading
stmt_level at d s =
    stmt_at at.answers (reader at.answers (into at)) (out-StmtKind s.kind) at.place (pointer_at at s.id s.range) d

-- an expression in statement or tail place
abbrev pub resolved_value : ResolveCtx → Defined → AstExpr → Spliced
resolved_value at d e = read_value at.answers (into at) e at.place d

abbrev pub value_level : ResolveCtx → Defined → AstExpr → Spliced
value_level at d e = value_kind at.answers (reader at.answers (into at)) (out-ExprKind e.kind) (ptr e.id e.range) at.place d

-- what is in a block
abbrev pub contents_part : ResolveCtx → List AstStmt → Option AstExpr → Contents
contents_part at ss e = contents_of (read_stmt at.answers (into at)) (read_value at.answers (into at)) ss e at.place

-- the spot inside of a block
abbrev pub in_block : ResolveCtx → NodeId → ResolveCtx
in_block at id = record at { place = inside (numbered at.answers at.place id) at.place }

abbrev pub block_number : ResolveCtx → NodeId → Option BlockId
block_number at id = option_map (λ n. n.0) (numbered at.answers at.place id)

-- the only reading of what is in a block, of whatever sort that is
abbrev pub held_level : ResolveCtx → AstBlockExpr → Held
held_level at b =
    let level = out-BlockExpr b in
    let c = contents_part (in_block at level.id) level.stmts level.tail in
    record { number = block_number at level.id; stmts = c.0; last = c.1 }

abbrev pub block_level : ResolveCtx → BlockHead → AstBlockExpr → Block
block_level at head b =
    let level = out-BlockExpr b in block_holding (pointer_at at level.id level.range) head (held_level at b)

-- with a type, where it has one
abbrev pub typed_try_level : ResolveCtx → OptionType → AstBlockExpr → Expr
typed_try_level at t b =
    let level = out-BlockExpr b in
    try_holding (pointer_at at level.id level.range) at.answers.lang_items.try_trait_from_output t (held_level at b)

abbrev pub try_level : ResolveCtx → AstBlockExpr → Expr
try_level at b = let level = out-BlockExpr b in typed_try_level at (type_part at level.ty) b

-- the spot inside of a `const` block
abbrev pub in_const_block : ResolveCtx → ResolveCtx
in_const_block at = record at { place = inside_const_block at.place }

-- the spot inside of the body of a closure, which is async or isn't
abbrev pub in_closure : Bool → ResolveCtx → ResolveCtx
in_closure is_async at = record at { place = inside_closure is_async at.place }

abbrev pub const_level : ResolveCtx → AstBlockExpr → Expr
const_level at b =
    let level = out-BlockExpr b in const_of (pointer_at at level.id level.range) (block_level (in_const_block at) plain_head b)

-- the spot inside of an `async`, `gen` or `async gen` block
abbrev pub in_coroutine : CoroutineKind → ResolveCtx → ResolveCtx
in_coroutine kind at = record at { place = inside_coroutine kind at.place }

-- a coroutine block, at the spot inside of it
abbrev pub coroutine_level : CoroutineKind → ResolveCtx → AstBlockExpr → Expr
coroutine_level kind at b =
    let level = out-BlockExpr b in coroutine_holding (pointer_at at level.id level.range) kind level.move_ (held_level at b)

-- a block as an expression, by its modifier
abbrev pub own_level : ResolveCtx → Option BlockModifier → AstBlockExpr → Expr
own_level at None b = tree.block_expr (block_level at (block_head at b) b)
own_level at (Some modifier.Unsafe) b = tree.block_expr (block_level at unsafe_head b)
own_level at (Some modifier.Try) b = try_level at b
own_level at (Some modifier.Const) b = const_level at b
own_level at (Some modifier.Async) b = coroutine_level coroutine.Async (in_coroutine coroutine.Async at) b
own_level at (Some modifier.Gen) b = coroutine_level coroutine.Gen (in_coroutine coroutine.Gen at) b
own_level at (Some modifier.AsyncGen) b = coroutine_level coroutine.AsyncGen (in_coroutine coroutine.AsyncGen at) b

-- such a block, with the condition that disables it
abbrev pub body_level : ResolveCtx → AstBlockExpr → Expr
body_level at b =
    let level = out-BlockExpr b in
    let s = pointer_at at level.id level.range in
    asked s (at.answers.cfg (site_of s)) (own_level at level.mod_ b)

abbrev pub else_level : ResolveCtx → AstElseBranch → Expr
else_level at e = else_branch at.answers (reader at.answers (into at)) (out-ElseBranch e) at.place

abbrev pub field_level : ResolveCtx → AstRecordExprField → Field
field_level at x = field_step at.answers (reader at.answers (into at)) (out-RecordExprField x) at.place

abbrev pub record_level : ResolveCtx → AstRecordExprFieldList → RecordReading
record_level at x = record_step at.answers (reader at.answers (into at)) (out-RecordExprFieldList x) at.place

abbrev pub constant_level : ResolveCtx → AstConstArg → Constant
constant_level at x = constant_step at.answers (reader at.answers (into at)) x at.place

abbrev pub guard_level : ResolveCtx → AstGuard → OptionExpr
guard_level at x = guard_step at.answers (reader at.answers (into at)) x at.place

abbrev pub let_else_level : ResolveCtx → AstLetElse → OptionBlock
let_else_level at x = let_else_step at.answers (reader at.answers (into at)) x at.place

abbrev pub arm_level : ResolveCtx → AstMatchArm → Arm
arm_level at x = arm_step at.answers (reader at.answers (into at)) (out-MatchArm x) at.place

abbrev pub pat_level : ResolveCtx → AstPat → Pat
pat_level at x = pat_at at.answers (reader at.answers (into at)) (out-PatKind x.kind) at.place (pointer_at at x.id x.range)

abbrev pub pat_field_level : ResolveCtx → AstRecordPatField → PatField
pat_field_level at x = pat_field_step at.answers (reader at.answers (into at)) (out-RecordPatField x) at.place

-- one level of a type or a path

abbrev pub type_level : ResolveCtx → AstType_ → Type_
type_level at x = type_at at.answers (reader at.answers (into at)) (out-TypeKind x.kind) at.place (pointer_at at x.id x.range)

abbrev pub param_level : ResolveCtx → AstParam → ParamReading
param_level at x = param_step at.answers (reader at.answers (into at)) (out-Param x) at.place

abbrev pub ret_level : ResolveCtx → AstRetType → OptionType
ret_level at x = ret_type_step at.answers (reader at.answers (into at)) x at.place

abbrev pub path_level : ResolveCtx → AstPath → Path
path_level at x = path_step at.answers (reader at.answers (into at)) (out-Path x) at.place

abbrev pub use_tree_level : ResolveCtx → AstPath → Path
use_tree_level at x = plain_path at.answers (reader at.answers (into at)) (out-Path x) at.place

abbrev pub path_level_as : Bool → ResolveCtx → AstPath → Path
path_level_as true at x = path_level at x
path_level_as false at x = use_tree_level at x

abbrev pub segment_level : ResolveCtx → AstPathSegment → Segment
segment_level at x = segment_step at.answers (reader at.answers (into at)) (out-PathSegment x) at.place

abbrev pub path_type_level : ResolveCtx → AstPathType → PathTypeReading
path_type_level at x = path_type_step at.answers (reader at.answers (into at)) (out-PathType x) at.place

abbrev pub paren_args_level : ResolveCtx → AstParenArgs → Parts
paren_args_level at x = paren_args_step at.answers (reader at.answers (into at)) x at.place

abbrev pub arg_list_level : ResolveCtx → AstGenericArgList → Args
arg_list_level at x = generic_arg_list_step at.answers (reader at.answers (into at)) x at.place

abbrev pub arg_level : ResolveCtx → AstGenericArg → Arg
arg_level at x = generic_arg_step at.answers (reader at.answers (into at)) (out-GenericArg x) at.place

abbrev pub type_arg_level : ResolveCtx → AstTypeArg → OptionType
type_arg_level at x = type_arg_step at.answers (reader at.answers (into at)) x at.place

abbrev pub assoc_arg_level : ResolveCtx → AstAssocTypeArg → Arg
assoc_arg_level at x = assoc_type_arg_step at.answers (reader at.answers (into at)) (out-AssocTypeArg x) at.place

abbrev pub bound_level : ResolveCtx → AstTypeBound → Bound
bound_level at x = type_bound_step at.answers (reader at.answers (into at)) (out-TypeBound x) at.place

-- what stands behind the name of a segment
abbrev pub segment_args_level : ResolveCtx → AstPathSegment → SegmentArgs
segment_args_level at x = let level = out-PathSegment x in
    tree.segment_args (arg_list_part at level.generics) (parens_part at level.parens level.ret) level.rtn

-- the spots inside of an `impl`, and inside of a written binding
abbrev pub in_impl : ResolveCtx → ResolveCtx
in_impl at = record at { place = inside_impl at.place }

abbrev pub in_binding : ResolveCtx → ResolveCtx
in_binding at = record at { place = outside_impl at.place }

-- the spot inside of a constant
abbrev pub in_constant : ResolveCtx → ResolveCtx
in_constant at = record at { place = inside_constant at.place }
