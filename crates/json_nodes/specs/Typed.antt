-- Expressions with types or paths, the parts of a record, and those of a pattern of one.
use Rattle.std.specs.Prelude.{codes, Option, Some, None}
use Rattle.serde_json.specs.Find.{get}
use Rattle.hir_syntax.specs.declared.ast.ExprKind.{ExprKind}
use Rattle.hir_syntax.specs.declared.ast.ExprKind.TheVariants as expr
use Rattle.hir_syntax.specs.declared.ast.RecordExprFieldList.{roll-RecordExprFieldList}
use Rattle.hir_syntax.specs.declared.ast.RecordExprField.{roll-RecordExprField}
use Rattle.hir_syntax.specs.declared.pats.RecordPatField.{roll-RecordPatField}
use Rattle.json_errors.specs.declared.kind.ExprNode.{ExprNode}
use Rattle.json_errors.specs.declared.kind.ExprNode.TheVariants as kind
use Rattle.json_errors.specs.declared.kind.PartNode.{PartNode}
use Rattle.json_errors.specs.declared.kind.PartNode.TheVariants as part_kind
use Rattle.json_nodes.specs.Fields.{flag_of}
use Rattle.json_nodes.specs.Exprs.{whole_expr}
use Rattle.json_nodes.specs.Groups.{as_expr, as_name, as_param, as_pat, as_path, as_ret, as_type, as_record_list, as_record_field}
use Rattle.json_nodes.specs.Parts.{Here, part_in, list_in, list_if_there}
use Rattle.json_nodes.specs.Any.{CodePart}
use Rattle.json_nodes.specs.declared.code_parts.CodeOf.TheVariants as code_part
use Rattle.json_nodes.specs.declared.param_parts.PatPart.{PatPart}
use Rattle.json_nodes.specs.declared.param_parts.PatPart.TheVariants as pat_part
use Rattle.json_nodes.specs.declared.code_parts.ExprPart.{ExprPart}

unfoldable pub closure : Here → ExprKind
closure h = expr.ClosureExpr
    (list_if_there h as_param (codes "params"))
    (part_in h as_ret (codes "ret"))
    (part_in h as_expr (codes "body"))
    (flag_of (get (codes "async") h.value))
    (flag_of (get (codes "gen") h.value))
    (flag_of (get (codes "move") h.value))
    (flag_of (get (codes "static") h.value))

-- casts, records, offsets of fields and closures
unfoldable pub typed : Here → ExprNode → Option ExprPart
typed h kind.CastExpr = Some (whole_expr h (expr.CastExpr (part_in h as_expr (codes "expr")) (part_in h as_type (codes "ty"))))
typed h kind.RecordExpr =
    Some (whole_expr h (expr.RecordExpr (part_in h as_path (codes "path")) (part_in h as_record_list (codes "list"))))
typed h kind.OffsetOfExpr = Some (whole_expr h (expr.OffsetOfExpr (part_in h as_type (codes "ty")) (list_in h as_name (codes "fields"))))
typed h kind.ClosureExpr = Some (whole_expr h (closure h))
typed h _ = None

-- the fields of a record, and one of them
unfoldable pub of_record : Here → PartNode → Option CodePart
of_record h part_kind.RecordExprFieldList = Some (code_part.RecordList (roll-RecordExprFieldList (record {
  id = h.id;
  range = h.range;
  fields = list_in h as_record_field (codes "fields");
  spread = part_in h as_expr (codes "spread");
  dotdot = flag_of (get (codes "dotdot") h.value);
})))
of_record h part_kind.RecordExprField = Some (code_part.RecordField (roll-RecordExprField (record {
  id = h.id;
  range = h.range;
  name = part_in h as_name (codes "name");
  expr = part_in h as_expr (codes "expr");
})))
of_record h _ = None

-- a field of a pattern
unfoldable pub of_pat_field : Here → PartNode → Option PatPart
of_pat_field h part_kind.RecordPatField = Some (pat_part.PatField (roll-RecordPatField (record {
  id = h.id;
  range = h.range;
  name = part_in h as_name (codes "name");
  pat = part_in h as_pat (codes "pat");
})))
of_pat_field h _ = None
