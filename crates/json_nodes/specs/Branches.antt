-- What has patterns: conditions, arms, and what follows a pattern.
use Rattle.std.specs.Prelude.{codes, Option, Some, None}
use Rattle.hir_syntax.specs.declared.ast.ExprKind.TheVariants as expr
use Rattle.hir_syntax.specs.declared.branches.MatchArm.{roll-MatchArm}
use Rattle.json_errors.specs.declared.kind.ExprNode.{ExprNode}
use Rattle.json_errors.specs.declared.kind.ExprNode.TheVariants as kind
use Rattle.json_errors.specs.declared.kind.PartNode.{PartNode}
use Rattle.json_errors.specs.declared.kind.PartNode.TheVariants as part_kind
use Rattle.json_nodes.specs.Exprs.{whole_expr}
use Rattle.json_nodes.specs.Groups.{as_expr, as_block, as_pat, as_arm, as_guard}
use Rattle.json_nodes.specs.Parts.{Here, part_in, list_if_there}
use Rattle.json_nodes.specs.Any.{CodePart}
use Rattle.json_nodes.specs.declared.code_parts.CodeOf.TheVariants as code_part
use Rattle.json_nodes.specs.declared.code_parts.ExprPart.{ExprPart}

-- what tests a pattern, or some in order
unfoldable pub branching : Here → ExprNode → Option ExprPart
branching h kind.LetExpr = Some (whole_expr h (expr.LetExpr (part_in h as_pat (codes "pat")) (part_in h as_expr (codes "expr"))))
branching h kind.MatchExpr =
    Some (whole_expr h (expr.MatchExpr (part_in h as_expr (codes "expr")) (list_if_there h as_arm (codes "arms"))))
branching h _ = None

-- an arm, its guard, and what follows the `else` of a `let`
unfoldable pub of_branch : Here → PartNode → Option CodePart
of_branch h part_kind.MatchArm = Some (code_part.Arm (roll-MatchArm (record {
  id = h.id;
  range = h.range;
  pat = part_in h as_pat (codes "pat");
  guard = part_in h as_guard (codes "guard");
  expr = part_in h as_expr (codes "expr");
})))
of_branch h part_kind.Guard = Some (code_part.Guard (part_in h as_expr (codes "condition")))
of_branch h part_kind.LetElse = Some (code_part.LetElse (part_in h as_block (codes "block")))
of_branch h _ = None
