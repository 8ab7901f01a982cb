-- Statements.
use Rattle.std.specs.Prelude.{[], ◌∷◌, codes}
use Rattle.json_errors.specs.Rows.{Row, ◌∶◌}
use Rattle.json_errors.specs.declared.kind.StmtNode.{StmtNode}
use Rattle.json_errors.specs.declared.kind.StmtNode.TheVariants as kind
use Rattle.json_errors.specs.declared.group.Group.TheVariants as group
use Rattle.json_errors.specs.declared.field.Sort.TheVariants as sort

abbrev pub stmt_row : StmtNode → Row
stmt_row kind.LetStmt = record {
  word = codes "LetStmt";
  groups = group.Stmt ∷ [];
  fields = (codes "pat" ∶ sort.Part group.Pat)
      ∷ (codes "ty" ∶ sort.Part group.Type_)
      ∷ (codes "init" ∶ sort.Part group.Expr)
      ∷ (codes "else" ∶ sort.Part group.LetElse)
      ∷ [];
}
stmt_row kind.ExprStmt = record {
  word = codes "ExprStmt";
  groups = group.Stmt ∷ [];
  fields = (codes "expr" ∶ sort.Part group.Expr) ∷ (codes "semi" ∶ sort.Flag) ∷ [];
}
stmt_row kind.MacroRules = record {
  word = codes "MacroRules";
  groups = group.Stmt ∷ [];
  fields = (codes "name" ∶ sort.Part group.Name) ∷ [];
}
stmt_row kind.MacroDef = record {
  word = codes "MacroDef";
  groups = group.Stmt ∷ [];
  fields = (codes "name" ∶ sort.Part group.Name) ∷ [];
}
stmt_row kind.Item = record { word = codes "Item"; groups = group.Stmt ∷ []; fields = [] }
