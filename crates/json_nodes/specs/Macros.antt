-- Macro calls, and the statements that one may be expanded to.
use Rattle.std.specs.Prelude.{codes, Option, Some, None}
use Rattle.hir_syntax.specs.declared.macros.MacroCall.{roll-MacroCall}
use Rattle.json_errors.specs.declared.kind.PartNode.{PartNode}
use Rattle.json_errors.specs.declared.kind.PartNode.TheVariants as kind
use Rattle.json_nodes.specs.Groups.{as_expr, as_path, as_stmt}
use Rattle.json_nodes.specs.Parts.{Here, part_in, list_in}
use Rattle.json_nodes.specs.Any.{CodePart}
use Rattle.json_nodes.specs.declared.code_parts.CodeOf.TheVariants as code_part

-- a call, or statements with an expression behind them
unfoldable pub of_macro : Here → PartNode → Option CodePart
of_macro h kind.MacroCall = Some (code_part.MacroCall (roll-MacroCall (record {
  id = h.id;
  range = h.range;
  path = part_in h as_path (codes "path");
})))
of_macro h kind.MacroStmts = Some (code_part.MacroStmts (record {
  id = h.id;
  range = h.range;
  stmts = list_in h as_stmt (codes "stmts");
  expr = part_in h as_expr (codes "expr");
}))
of_macro h _ = None
