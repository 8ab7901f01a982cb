-- Blocks, statements, labels and names.
use Rattle.std.specs.Prelude.{codes, List, [], ◌∷◌, ℕ, Option, Some, None, option_map, option_and_then}
use Rattle.serde_json.specs.Find.{get}
use Rattle.hir_syntax.specs.declared.ast.StmtKind.{StmtKind}
use Rattle.hir_syntax.specs.declared.ast.StmtKind.TheVariants as stmt
use Rattle.hir_syntax.specs.declared.ast.BlockExpr.{roll-BlockExpr}
use Rattle.hir_syntax.specs.declared.ast.BlockModifier.{BlockModifier}
use Rattle.hir_syntax.specs.declared.ast.BlockModifier.TheVariants as modifiers
use Rattle.json_errors.specs.ByWord.{with_word}
use Rattle.json_errors.specs.declared.kind.StmtNode.{StmtNode}
use Rattle.json_errors.specs.declared.kind.StmtNode.TheVariants as stmt_kind
use Rattle.json_errors.specs.declared.kind.PartNode.{PartNode}
use Rattle.json_errors.specs.declared.kind.PartNode.TheVariants as kind
use Rattle.json_nodes.specs.Fields.{flag_of, text_in}
use Rattle.json_nodes.specs.Groups.{as_expr, as_stmt, as_label, as_let_else, as_lifetime, as_name, as_pat, as_type}
use Rattle.json_nodes.specs.Parts.{Here, part_in, list_in}
use Rattle.json_nodes.specs.Any.{CodePart}
use Rattle.json_nodes.specs.declared.code_parts.CodeOf.TheVariants as code_part
use Rattle.json_nodes.specs.declared.code_parts.ExprPart.{ExprPart}
use Rattle.json_nodes.specs.declared.code_parts.ExprPart.TheVariants as expr_part
use Rattle.json_nodes.specs.declared.name_parts.NamePart.{NamePart}
use Rattle.json_nodes.specs.declared.name_parts.NamePart.TheVariants as name_part

unfoldable pub statement : Here → StmtNode → StmtKind
statement h stmt_kind.LetStmt = stmt.LetStmt
    (part_in h as_pat (codes "pat"))
    (part_in h as_type (codes "ty"))
    (part_in h as_expr (codes "init"))
    (part_in h as_let_else (codes "else"))
statement h stmt_kind.ExprStmt = stmt.ExprStmt (part_in h as_expr (codes "expr")) (flag_of (get (codes "semi") h.value))
statement h stmt_kind.MacroRules = stmt.MacroRules (part_in h as_name (codes "name"))
statement h stmt_kind.MacroDef = stmt.MacroDef (part_in h as_name (codes "name"))
statement h stmt_kind.Item = stmt.Item

abbrev pub of_stmt : Here → StmtNode → Option CodePart
of_stmt h k = Some (code_part.Stmt (record { id = h.id; range = h.range; kind = statement h k }))

abbrev modifier_word : BlockModifier → List ℕ
modifier_word modifiers.Unsafe = codes "unsafe"
modifier_word modifiers.Try = codes "try"
modifier_word modifiers.Const = codes "const"
modifier_word modifiers.Async = codes "async"
modifier_word modifiers.Gen = codes "gen"
modifier_word modifiers.AsyncGen = codes "asyncgen"

abbrev all_modifiers : List BlockModifier
all_modifiers = modifiers.Unsafe ∷ modifiers.Try ∷ modifiers.Const ∷ modifiers.Async ∷ modifiers.Gen ∷ modifiers.AsyncGen ∷ []

-- the modifier that a word is
abbrev pub modifier_of : List ℕ → Option BlockModifier
modifier_of word = with_word modifier_word all_modifiers word

unfoldable pub of_block : Here → Option ExprPart
of_block h = Some (expr_part.Block (roll-BlockExpr (record {
  id = h.id;
  range = h.range;
  mod_ = option_and_then modifier_of (text_in (codes "mod") h.value);
  label = part_in h as_label (codes "label");
  ty = part_in h as_type (codes "ty");
  move_ = flag_of (get (codes "move") h.value);
  stmts = list_in h as_stmt (codes "stmts");
  tail = part_in h as_expr (codes "tail");
})))

unfoldable pub label : Here → Option NamePart
label h = Some (name_part.Label (record { id = h.id; range = h.range; lifetime = part_in h as_lifetime (codes "lifetime") }))

abbrev pub lifetime : Here → Option NamePart
lifetime h = option_map (λ t. name_part.Lifetime (record { id = h.id; range = h.range; t = t })) (text_in (codes "t") h.value)

abbrev pub name : Here → Option NamePart
name h = option_map (λ t. name_part.Name (record { id = h.id; range = h.range; t = t })) (text_in (codes "t") h.value)

-- labels, lifetimes and names
abbrev pub other : Here → PartNode → Option NamePart
other h kind.Label = label h
other h kind.Lifetime = lifetime h
other h kind.Name = name h
other h _ = None
