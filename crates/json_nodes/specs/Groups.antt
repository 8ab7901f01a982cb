-- Which parts serve where a part of one group is wanted.
use Rattle.std.specs.Prelude.{ℕ, ◌==◌, List, [], ◌∷◌, Bool, false, Option, Some, None, option_and_then, if◌then◌else◌}
use Rattle.hir_syntax.specs.declared.ast.Expr.{Expr}
use Rattle.hir_syntax.specs.declared.ast.ExprKind.TheVariants as expr
use Rattle.hir_syntax.specs.declared.ast.ElseBranch.{ElseBranch}
use Rattle.hir_syntax.specs.declared.ast.ElseBranch.TheVariants as branch
use Rattle.hir_syntax.specs.declared.ast.BlockExpr.{BlockExpr, out-BlockExpr}
use Rattle.hir_syntax.specs.declared.ast.Stmt.{Stmt}
use Rattle.hir_syntax.specs.declared.branches.MatchArm.{MatchArm}
use Rattle.hir_syntax.specs.declared.ast.RecordExprFieldList.{RecordExprFieldList}
use Rattle.hir_syntax.specs.declared.ast.RecordExprField.{RecordExprField}
use Rattle.hir_syntax.specs.declared.macros.MacroCall.{MacroCall}
use Rattle.hir_syntax.specs.declared.macros.MacroStmts.{MacroStmts}
use Rattle.hir_syntax.specs.declared.pats.PatLiteral.{PatLiteral}
use Rattle.hir_syntax.specs.declared.pats.Pat.{Pat}
use Rattle.hir_syntax.specs.declared.pats.RecordPatField.{RecordPatField}
use Rattle.hir_syntax.specs.declared.types.Param.{Param}
use Rattle.hir_syntax.specs.declared.params.SelfParam.{SelfParam}
use Rattle.hir_syntax.specs.declared.params.ParamList.{ParamList}
use Rattle.hir_syntax.specs.declared.types.Type_.{Type_}
use Rattle.hir_syntax.specs.declared.types.TypeKind.TheVariants as type_kind
use Rattle.hir_syntax.specs.declared.types.PathType.{PathType, out-PathType}
use Rattle.hir_syntax.specs.declared.types.TypeBound.{TypeBound}
use Rattle.hir_syntax.specs.declared.types.ForBinder.{ForBinder}
use Rattle.hir_syntax.specs.declared.ast.Path.{Path}
use Rattle.hir_syntax.specs.declared.ast.PathSegment.{PathSegment}
use Rattle.hir_syntax.specs.declared.types.GenericArg.{GenericArg}
use Rattle.hir_syntax.specs.declared.types.GenericArg.TheVariants as arg
use Rattle.hir_syntax.specs.declared.ast.Label.{Label}
use Rattle.hir_syntax.specs.declared.ast.Lifetime.{Lifetime}
use Rattle.hir_syntax.specs.declared.ast.Name.{Name}
use Rattle.hir_syntax.specs.declared.types.UseArg.{UseArg}
use Rattle.hir_syntax.specs.declared.types.UseArg.TheVariants as used
use Rattle.json_nodes.specs.Any.{AnyPart}
use Rattle.json_nodes.specs.declared.part.AnyOf.{AnyOf}
use Rattle.json_nodes.specs.declared.part.AnyOf.TheVariants as part
use Rattle.json_nodes.specs.declared.code_parts.ExprPart.{ExprPart}
use Rattle.json_nodes.specs.declared.code_parts.ExprPart.TheVariants as expr_part
use Rattle.json_nodes.specs.declared.code_parts.CodeOf.{CodeOf}
use Rattle.json_nodes.specs.declared.code_parts.CodeOf.TheVariants as code_part
use Rattle.json_nodes.specs.declared.param_parts.PatPart.{PatPart}
use Rattle.json_nodes.specs.declared.param_parts.PatPart.TheVariants as pat_part
use Rattle.json_nodes.specs.declared.param_parts.ParamOf.{ParamOf}
use Rattle.json_nodes.specs.declared.param_parts.ParamOf.TheVariants as param_part
use Rattle.json_nodes.specs.declared.type_parts.TypeOf.{TypeOf}
use Rattle.json_nodes.specs.declared.type_parts.TypeOf.TheVariants as type_part
use Rattle.json_nodes.specs.declared.path_parts.PathOf.{PathOf}
use Rattle.json_nodes.specs.declared.path_parts.PathOf.TheVariants as path_part
use Rattle.json_nodes.specs.declared.name_parts.NamePart.{NamePart}
use Rattle.json_nodes.specs.declared.name_parts.NamePart.TheVariants as name_part

-- a part where it is of the sort
abbrev pub expr_in : {E C P M T H N : Type 0} → AnyOf E C P M T H N → Option E
expr_in (part.Expr x) = Some x
expr_in _ = None

abbrev pub code_in : {E C P M T H N : Type 0} → AnyOf E C P M T H N → Option C
code_in (part.Code x) = Some x
code_in _ = None

abbrev pub pat_in : {E C P M T H N : Type 0} → AnyOf E C P M T H N → Option P
pat_in (part.Pat x) = Some x
pat_in _ = None

abbrev pub param_in : {E C P M T H N : Type 0} → AnyOf E C P M T H N → Option M
param_in (part.Param x) = Some x
param_in _ = None

abbrev pub type_in : {E C P M T H N : Type 0} → AnyOf E C P M T H N → Option T
type_in (part.Type_ x) = Some x
type_in _ = None

abbrev pub path_in : {E C P M T H N : Type 0} → AnyOf E C P M T H N → Option H
path_in (part.Path x) = Some x
path_in _ = None

abbrev pub name_in : {E C P M T H N : Type 0} → AnyOf E C P M T H N → Option N
name_in (part.Name x) = Some x
name_in _ = None

-- a block and a literal serve as expressions
abbrev pub expr_of : ExprPart → Option Expr
expr_of (expr_part.Expr x) = Some x
expr_of (expr_part.If x) = Some x
expr_of (expr_part.Block b) = Some (record { id = (out-BlockExpr b).id; range = (out-BlockExpr b).range; kind = expr.BlockExpr b })
expr_of (expr_part.Literal id range l) = Some (record { id = id; range = range; kind = expr.Literal l })

-- what follows `else` is a block, or an `if`
abbrev pub else_of : ExprPart → Option ElseBranch
else_of (expr_part.Block b) = Some (branch.ElseBlock b)
else_of (expr_part.If x) = Some (branch.ElseIf x)
else_of _ = None

abbrev pub block_of : ExprPart → Option BlockExpr
block_of (expr_part.Block x) = Some x
block_of _ = None

abbrev pub pat_literal_of : ExprPart → Option PatLiteral
pat_literal_of (expr_part.Literal id range l) = Some (record { id = id; range = range; literal = l })
pat_literal_of _ = None

abbrev pub stmt_of : {S L A D R F C M : Type 0} → CodeOf S L A D R F C M → Option S
stmt_of (code_part.Stmt x) = Some x
stmt_of _ = None

abbrev pub let_else_of : {S L A D R F C M : Type 0} → CodeOf S L A D R F C M → Option L
let_else_of (code_part.LetElse x) = Some x
let_else_of _ = None

abbrev pub arm_of : {S L A D R F C M : Type 0} → CodeOf S L A D R F C M → Option A
arm_of (code_part.Arm x) = Some x
arm_of _ = None

abbrev pub guard_of : {S L A D R F C M : Type 0} → CodeOf S L A D R F C M → Option D
guard_of (code_part.Guard x) = Some x
guard_of _ = None

abbrev pub record_list_of : {S L A D R F C M : Type 0} → CodeOf S L A D R F C M → Option R
record_list_of (code_part.RecordList x) = Some x
record_list_of _ = None

abbrev pub record_field_of : {S L A D R F C M : Type 0} → CodeOf S L A D R F C M → Option F
record_field_of (code_part.RecordField x) = Some x
record_field_of _ = None

abbrev pub macro_call_of : {S L A D R F C M : Type 0} → CodeOf S L A D R F C M → Option C
macro_call_of (code_part.MacroCall x) = Some x
macro_call_of _ = None

abbrev pub macro_stmts_of : {S L A D R F C M : Type 0} → CodeOf S L A D R F C M → Option M
macro_stmts_of (code_part.MacroStmts x) = Some x
macro_stmts_of _ = None

abbrev pub pat_of : PatPart → Option Pat
pat_of (pat_part.Pat x) = Some x
pat_of _ = None

abbrev pub pat_field_of : PatPart → Option RecordPatField
pat_field_of (pat_part.PatField x) = Some x
pat_field_of _ = None

abbrev pub param_of : {P S L : Type 0} → ParamOf P S L → Option P
param_of (param_part.Param x) = Some x
param_of _ = None

abbrev pub self_param_of : {P S L : Type 0} → ParamOf P S L → Option S
self_param_of (param_part.SelfParam x) = Some x
self_param_of _ = None

abbrev pub param_list_of : {P S L : Type 0} → ParamOf P S L → Option L
param_list_of (param_part.ParamList x) = Some x
param_list_of _ = None

-- a path serves as a type
abbrev pub type_of : {B F R : Type 0} → TypeOf Type_ PathType B F R → Option Type_
type_of (type_part.Type_ t) = Some t
type_of (type_part.PathType t) =
    Some (record { id = (out-PathType t).id; range = (out-PathType t).range; kind = type_kind.PathType (out-PathType t).path })
type_of _ = None

abbrev pub path_type_of : {T P B F R : Type 0} → TypeOf T P B F R → Option P
path_type_of (type_part.PathType x) = Some x
path_type_of _ = None

abbrev pub bound_of : {T P B F R : Type 0} → TypeOf T P B F R → Option B
bound_of (type_part.Bound x) = Some x
bound_of _ = None

abbrev pub binder_of : {T P B F R : Type 0} → TypeOf T P B F R → Option F
binder_of (type_part.Binder x) = Some x
binder_of _ = None

abbrev pub ret_of : {T P B F R : Type 0} → TypeOf T P B F R → Option R
ret_of (type_part.Ret x) = Some x
ret_of _ = None

abbrev pub path_of : {P S A T C G R : Type 0} → PathOf P S A T C G R → Option P
path_of (path_part.Path x) = Some x
path_of _ = None

abbrev pub segment_of : {P S A T C G R : Type 0} → PathOf P S A T C G R → Option S
segment_of (path_part.Segment x) = Some x
segment_of _ = None

abbrev pub generic_args_of : {P S A T C G R : Type 0} → PathOf P S A T C G R → Option A
generic_args_of (path_part.GenericArgs x) = Some x
generic_args_of _ = None

abbrev pub type_arg_of : {P S A T C G R : Type 0} → PathOf P S A T C G R → Option T
type_arg_of (path_part.TypeArg x) = Some x
type_arg_of _ = None

abbrev pub const_arg_of : {P S A T C G R : Type 0} → PathOf P S A T C G R → Option C
const_arg_of (path_part.ConstArg x) = Some x
const_arg_of _ = None

abbrev pub paren_args_of : {P S A T C G R : Type 0} → PathOf P S A T C G R → Option R
paren_args_of (path_part.ParenArgs x) = Some x
paren_args_of _ = None

-- a type and a constant serve as arguments
abbrev pub generic_arg_of : {P S A R : Type 0} → PathOf P S A (Option Type_) (Option Expr) GenericArg R → Option GenericArg
generic_arg_of (path_part.GenericArg a) = Some a
generic_arg_of (path_part.TypeArg a) = Some (arg.TypeArg a)
generic_arg_of (path_part.ConstArg a) = Some (arg.ConstArg a)
generic_arg_of _ = None

abbrev pub label_of : NamePart → Option Label
label_of (name_part.Label x) = Some x
label_of _ = None

abbrev pub lifetime_of : NamePart → Option Lifetime
lifetime_of (name_part.Lifetime l) = Some l
lifetime_of (name_part.Text id range t) = Some (record { id = id; range = range; t = t })
lifetime_of _ = None

abbrev pub name_of : NamePart → Option Name
name_of (name_part.Name n) = Some n
name_of (name_part.Text id range t) = Some (record { id = id; range = range; t = t })
name_of _ = None

-- a text begins with a quote, as a lifetime does
abbrev pub is_quoted : List ℕ → Bool
is_quoted [] = false
is_quoted (b ∷ bs) = b == 39

-- a lifetime or a name
abbrev pub use_arg_of : NamePart → Option UseArg
use_arg_of (name_part.Lifetime l) = Some (used.Lifetime l)
use_arg_of (name_part.Name n) = Some (used.Name n)
use_arg_of (name_part.Text id range t) = if is_quoted t
    then Some (used.Lifetime (record { id = id; range = range; t = t }))
    else Some (used.Name (record { id = id; range = range; t = t }))
use_arg_of _ = None

-- what a part is in a field for each group
abbrev pub as_expr : AnyPart → Option Expr
as_expr p = option_and_then expr_of (expr_in p)

abbrev pub as_else : AnyPart → Option ElseBranch
as_else p = option_and_then else_of (expr_in p)

abbrev pub as_block : AnyPart → Option BlockExpr
as_block p = option_and_then block_of (expr_in p)

abbrev pub as_pat_literal : AnyPart → Option PatLiteral
as_pat_literal p = option_and_then pat_literal_of (expr_in p)

abbrev pub as_stmt : AnyPart → Option Stmt
as_stmt p = option_and_then stmt_of (code_in p)

abbrev pub as_let_else : AnyPart → Option (Option BlockExpr)
as_let_else p = option_and_then let_else_of (code_in p)

abbrev pub as_arm : AnyPart → Option MatchArm
as_arm p = option_and_then arm_of (code_in p)

abbrev pub as_guard : AnyPart → Option (Option Expr)
as_guard p = option_and_then guard_of (code_in p)

abbrev pub as_record_list : AnyPart → Option RecordExprFieldList
as_record_list p = option_and_then record_list_of (code_in p)

abbrev pub as_record_field : AnyPart → Option RecordExprField
as_record_field p = option_and_then record_field_of (code_in p)

abbrev pub as_macro_call : AnyPart → Option MacroCall
as_macro_call p = option_and_then macro_call_of (code_in p)

abbrev pub as_macro_stmts : AnyPart → Option MacroStmts
as_macro_stmts p = option_and_then macro_stmts_of (code_in p)

abbrev pub as_pat : AnyPart → Option Pat
as_pat p = option_and_then pat_of (pat_in p)

abbrev pub as_pat_field : AnyPart → Option RecordPatField
as_pat_field p = option_and_then pat_field_of (pat_in p)

abbrev pub as_param : AnyPart → Option Param
as_param p = option_and_then param_of (param_in p)

abbrev pub as_self_param : AnyPart → Option SelfParam
as_self_param p = option_and_then self_param_of (param_in p)

abbrev pub as_param_list : AnyPart → Option ParamList
as_param_list p = option_and_then param_list_of (param_in p)

abbrev pub as_type : AnyPart → Option Type_
as_type p = option_and_then type_of (type_in p)

abbrev pub as_path_type : AnyPart → Option PathType
as_path_type p = option_and_then path_type_of (type_in p)

abbrev pub as_bound : AnyPart → Option TypeBound
as_bound p = option_and_then bound_of (type_in p)

abbrev pub as_binder : AnyPart → Option ForBinder
as_binder p = option_and_then binder_of (type_in p)

abbrev pub as_ret : AnyPart → Option (Option Type_)
as_ret p = option_and_then ret_of (type_in p)

abbrev pub as_path : AnyPart → Option Path
as_path p = option_and_then path_of (path_in p)

abbrev pub as_segment : AnyPart → Option PathSegment
as_segment p = option_and_then segment_of (path_in p)

abbrev pub as_generic_args : AnyPart → Option (List GenericArg)
as_generic_args p = option_and_then generic_args_of (path_in p)

abbrev pub as_type_arg : AnyPart → Option (Option Type_)
as_type_arg p = option_and_then type_arg_of (path_in p)

abbrev pub as_const_arg : AnyPart → Option (Option Expr)
as_const_arg p = option_and_then const_arg_of (path_in p)

abbrev pub as_paren_args : AnyPart → Option (List (Option Type_))
as_paren_args p = option_and_then paren_args_of (path_in p)

abbrev pub as_generic_arg : AnyPart → Option GenericArg
as_generic_arg p = option_and_then generic_arg_of (path_in p)

abbrev pub as_label : AnyPart → Option Label
as_label p = option_and_then label_of (name_in p)

abbrev pub as_lifetime : AnyPart → Option Lifetime
as_lifetime p = option_and_then lifetime_of (name_in p)

abbrev pub as_name : AnyPart → Option Name
as_name p = option_and_then name_of (name_in p)

abbrev pub as_use_arg : AnyPart → Option UseArg
as_use_arg p = option_and_then use_arg_of (name_in p)
