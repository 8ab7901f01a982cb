-- Expressions, by their kind.
use Rattle.std.specs.Prelude.{if◌then◌else◌, codes, Option, Some, None, option_map, option_and_then}
use Rattle.serde_json.specs.Data.{Data}
use Rattle.serde_json.specs.Find.{get}
use Rattle.hir_syntax.specs.declared.ast.ExprKind.{ExprKind}
use Rattle.hir_syntax.specs.declared.ast.ExprKind.TheVariants as expr
use Rattle.hir_base.specs.declared.node.PredId.{PredId}
use Rattle.json_errors.specs.Values.{small_of}
use Rattle.json_errors.specs.declared.kind.ExprNode.{ExprNode}
use Rattle.json_errors.specs.declared.kind.ExprNode.TheVariants as kind
use Rattle.hir_base.specs.declared.node.NodeId.{NodeId}
use Rattle.hir_base.specs.declared.node.TextRange.{TextRange}
use Rattle.json_nodes.specs.Groups.{as_expr, as_block, as_else, as_macro_call, as_pat, as_path, as_label, as_lifetime, as_name}
use Rattle.json_nodes.specs.Groups.{as_generic_args}
use Rattle.json_nodes.specs.Fields.{flag_of}
use Rattle.json_nodes.specs.Literals.{literal_of}
use Rattle.json_nodes.specs.Operators.{unary_op_in, binary_op_in, range_op_in}
use Rattle.json_nodes.specs.Parts.{Here, part_in, list_in, list_if_there}
use Rattle.json_nodes.specs.declared.code_parts.ExprPart.{ExprPart}
use Rattle.json_nodes.specs.declared.code_parts.ExprPart.TheVariants as expr_part

-- an expression of a kind
abbrev pub expr_at : NodeId → TextRange → ExprKind → ExprPart
expr_at id range x = expr_part.Expr (record { id = id; range = range; kind = x })

abbrev pub whole_expr : Here → ExprKind → ExprPart
whole_expr h x = expr_at h.id h.range x

unfoldable pub if_expr : Here → ExprKind
if_expr h = expr.IfExpr
    (part_in h as_expr (codes "condition"))
    (part_in h as_block (codes "then"))
    (part_in h as_else (codes "else"))

-- an `if` is told from other expressions, since it may follow `else`
abbrev pub of_if : Here → Option ExprPart
of_if h = Some (expr_part.If (record { id = h.id; range = h.range; kind = if_expr h }))

-- a literal too, since it may stand in a pattern
abbrev pub of_literal : Here → Option ExprPart
of_literal h = option_map (λ l. expr_part.Literal h.id h.range l) (literal_of h.value)

-- what steers the order of running
unfoldable pub flow : Here → ExprNode → Option ExprPart
flow h kind.LoopExpr = Some (whole_expr h (expr.LoopExpr (part_in h as_label (codes "label")) (part_in h as_block (codes "body"))))
flow h kind.WhileExpr = Some (whole_expr h
    (expr.WhileExpr (part_in h as_label (codes "label")) (part_in h as_expr (codes "condition")) (part_in h as_block (codes "body"))))
flow h kind.ForExpr = Some (whole_expr h (expr.ForExpr
    (part_in h as_label (codes "label"))
    (part_in h as_pat (codes "pat"))
    (part_in h as_expr (codes "iterable"))
    (part_in h as_block (codes "body"))))
flow h kind.TryExpr = Some (whole_expr h (expr.TryExpr (part_in h as_expr (codes "expr"))))
flow h kind.ContinueExpr = Some (whole_expr h (expr.ContinueExpr (part_in h as_lifetime (codes "lifetime"))))
flow h kind.BreakExpr = Some (whole_expr h (expr.BreakExpr (part_in h as_lifetime (codes "lifetime")) (part_in h as_expr (codes "expr"))))
flow h _ = None

-- calls, also of macros, paths, parentheses and ranges
unfoldable pub plain : Here → ExprNode → Option ExprPart
plain h kind.CallExpr = Some (whole_expr h (expr.CallExpr (part_in h as_expr (codes "expr")) (list_if_there h as_expr (codes "args"))))
plain h kind.MacroExpr = Some (whole_expr h (expr.MacroExpr (part_in h as_macro_call (codes "call"))))
plain h kind.PathExpr = Some (whole_expr h (expr.PathExpr (part_in h as_path (codes "path"))))
plain h kind.ParenExpr = Some (whole_expr h (expr.ParenExpr (part_in h as_expr (codes "expr"))))
plain h kind.RangeExpr =
    Some (whole_expr h (expr.RangeExpr (range_op_in h.value) (part_in h as_expr (codes "start")) (part_in h as_expr (codes "end"))))
plain h _ = None

-- what is made of operands
unfoldable pub operation : Here → ExprNode → Option ExprPart
operation h kind.PrefixExpr = Some (whole_expr h (expr.PrefixExpr (unary_op_in h.value) (part_in h as_expr (codes "expr"))))
operation h kind.BinExpr =
    Some (whole_expr h (expr.BinExpr (binary_op_in h.value) (part_in h as_expr (codes "lhs")) (part_in h as_expr (codes "rhs"))))
operation h kind.IndexExpr = Some (whole_expr h (expr.IndexExpr (part_in h as_expr (codes "base")) (part_in h as_expr (codes "index"))))
operation h kind.RefExpr = Some (whole_expr h (expr.RefExpr
    (flag_of (get (codes "raw") h.value))
    (flag_of (get (codes "mut") h.value))
    (part_in h as_expr (codes "expr"))))
operation h _ = None

-- an array, which with a semicolon repeats one part
unfoldable pub array : Here → ExprKind
array h =
    if flag_of (get (codes "semi") h.value)
    then expr.RepeatExpr (part_in h as_expr (codes "init")) (part_in h as_expr (codes "len"))
    else expr.ArrayExpr (list_in h as_expr (codes "elems"))

-- what names a member, or lists its elements
unfoldable pub member : Here → ExprNode → Option ExprPart
member h kind.MethodCallExpr = Some (whole_expr h (expr.MethodCallExpr
    (part_in h as_expr (codes "receiver"))
    (part_in h as_name (codes "name"))
    (part_in h as_generic_args (codes "generics"))
    (list_if_there h as_expr (codes "args"))))
member h kind.FieldExpr = Some (whole_expr h (expr.FieldExpr (part_in h as_expr (codes "expr")) (part_in h as_name (codes "name"))))
member h kind.TupleExpr =
    Some (whole_expr h (expr.TupleExpr (flag_of (get (codes "leading_comma") h.value)) (list_in h as_expr (codes "fields"))))
member h kind.ArrayExpr = Some (whole_expr h (array h))
member h _ = None

-- what leaves a body, or waits in it
unfoldable pub leaving : Here → ExprNode → Option ExprPart
leaving h kind.ReturnExpr = Some (whole_expr h (expr.ReturnExpr (part_in h as_expr (codes "expr"))))
leaving h kind.BecomeExpr = Some (whole_expr h (expr.BecomeExpr (part_in h as_expr (codes "expr"))))
leaving h kind.YieldExpr = Some (whole_expr h (expr.YieldExpr (part_in h as_expr (codes "expr"))))
leaving h kind.YeetExpr = Some (whole_expr h (expr.YeetExpr (part_in h as_expr (codes "expr"))))
leaving h kind.AwaitExpr = Some (whole_expr h (expr.AwaitExpr (part_in h as_expr (codes "expr"))))
leaving h _ = None

-- a predicate, by its number
abbrev pub pred_in : Option Data → Option PredId
pred_in d = option_map (λ n. record { 0 = n }) (option_and_then small_of d)

-- what has no parts
unfoldable pub partless : Here → ExprNode → Option ExprPart
partless h kind.CfgPredExpr = Some (whole_expr h (expr.CfgPredExpr (pred_in (get (codes "pred") h.value))))
partless h kind.UnderscoreExpr = Some (whole_expr h expr.UnderscoreExpr)
partless h kind.IncludeBytesExpr = Some (whole_expr h expr.IncludeBytesExpr)
partless h kind.AsmExpr = Some (whole_expr h expr.AsmExpr)
partless h kind.FormatArgsExpr = Some (whole_expr h expr.FormatArgsExpr)
partless h _ = None
