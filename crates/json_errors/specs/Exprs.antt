-- Expressions, except for `if`, blocks and literals.
use Rattle.std.specs.Prelude.{[], ◌∷◌, codes}
use Rattle.json_errors.specs.Rows.{Row, ◌∶◌}
use Rattle.json_errors.specs.declared.kind.ExprNode.{ExprNode}
use Rattle.json_errors.specs.declared.kind.ExprNode.TheVariants as kind
use Rattle.json_errors.specs.declared.group.Group.TheVariants as group
use Rattle.json_errors.specs.declared.words.Words.TheVariants as words
use Rattle.json_errors.specs.declared.field.Sort.TheVariants as sort

abbrev pub expr_row : ExprNode → Row
expr_row kind.LetExpr = record {
  word = codes "LetExpr";
  groups = group.Expr ∷ [];
  fields = (codes "pat" ∶ sort.Part group.Pat) ∷ (codes "expr" ∶ sort.Part group.Expr) ∷ [];
}
expr_row kind.LoopExpr = record {
  word = codes "LoopExpr";
  groups = group.Expr ∷ [];
  fields = (codes "label" ∶ sort.Part group.Label) ∷ (codes "body" ∶ sort.Part group.Block) ∷ [];
}
expr_row kind.WhileExpr = record {
  word = codes "WhileExpr";
  groups = group.Expr ∷ [];
  fields = (codes "label" ∶ sort.Part group.Label)
      ∷ (codes "condition" ∶ sort.Part group.Expr)
      ∷ (codes "body" ∶ sort.Part group.Block)
      ∷ [];
}
expr_row kind.ForExpr = record {
  word = codes "ForExpr";
  groups = group.Expr ∷ [];
  fields = (codes "label" ∶ sort.Part group.Label)
      ∷ (codes "pat" ∶ sort.Part group.Pat)
      ∷ (codes "iterable" ∶ sort.Part group.Expr)
      ∷ (codes "body" ∶ sort.Part group.Block)
      ∷ [];
}
expr_row kind.TryExpr = record {
  word = codes "TryExpr";
  groups = group.Expr ∷ [];
  fields = (codes "expr" ∶ sort.Part group.Expr) ∷ [];
}
expr_row kind.CallExpr = record {
  word = codes "CallExpr";
  groups = group.Expr ∷ [];
  fields = (codes "expr" ∶ sort.Part group.Expr) ∷ (codes "args" ∶ sort.List group.Expr) ∷ [];
}
expr_row kind.MethodCallExpr = record {
  word = codes "MethodCallExpr";
  groups = group.Expr ∷ [];
  fields = (codes "receiver" ∶ sort.Part group.Expr)
      ∷ (codes "name" ∶ sort.Part group.Name)
      ∷ (codes "generics" ∶ sort.Part group.GenericArgs)
      ∷ (codes "args" ∶ sort.List group.Expr)
      ∷ [];
}
expr_row kind.MatchExpr = record {
  word = codes "MatchExpr";
  groups = group.Expr ∷ [];
  fields = (codes "expr" ∶ sort.Part group.Expr) ∷ (codes "arms" ∶ sort.List group.Arm) ∷ [];
}
expr_row kind.PathExpr = record {
  word = codes "PathExpr";
  groups = group.Expr ∷ [];
  fields = (codes "path" ∶ sort.Part group.Path) ∷ [];
}
expr_row kind.ContinueExpr = record {
  word = codes "ContinueExpr";
  groups = group.Expr ∷ [];
  fields = (codes "lifetime" ∶ sort.Part group.Lifetime) ∷ [];
}
expr_row kind.BreakExpr = record {
  word = codes "BreakExpr";
  groups = group.Expr ∷ [];
  fields = (codes "lifetime" ∶ sort.Part group.Lifetime) ∷ (codes "expr" ∶ sort.Part group.Expr) ∷ [];
}
expr_row kind.ParenExpr = record {
  word = codes "ParenExpr";
  groups = group.Expr ∷ [];
  fields = (codes "expr" ∶ sort.Part group.Expr) ∷ [];
}
expr_row kind.ReturnExpr = record {
  word = codes "ReturnExpr";
  groups = group.Expr ∷ [];
  fields = (codes "expr" ∶ sort.Part group.Expr) ∷ [];
}
expr_row kind.BecomeExpr = record {
  word = codes "BecomeExpr";
  groups = group.Expr ∷ [];
  fields = (codes "expr" ∶ sort.Part group.Expr) ∷ [];
}
expr_row kind.YieldExpr = record {
  word = codes "YieldExpr";
  groups = group.Expr ∷ [];
  fields = (codes "expr" ∶ sort.Part group.Expr) ∷ [];
}
expr_row kind.YeetExpr = record {
  word = codes "YeetExpr";
  groups = group.Expr ∷ [];
  fields = (codes "expr" ∶ sort.Part group.Expr) ∷ [];
}
expr_row kind.AwaitExpr = record {
  word = codes "AwaitExpr";
  groups = group.Expr ∷ [];
  fields = (codes "expr" ∶ sort.Part group.Expr) ∷ [];
}
expr_row kind.RecordExpr = record {
  word = codes "RecordExpr";
  groups = group.Expr ∷ [];
  fields = (codes "path" ∶ sort.Part group.Path) ∷ (codes "list" ∶ sort.Part group.RecordList) ∷ [];
}
expr_row kind.FieldExpr = record {
  word = codes "FieldExpr";
  groups = group.Expr ∷ [];
  fields = (codes "expr" ∶ sort.Part group.Expr) ∷ (codes "name" ∶ sort.Part group.Name) ∷ [];
}
expr_row kind.CastExpr = record {
  word = codes "CastExpr";
  groups = group.Expr ∷ [];
  fields = (codes "expr" ∶ sort.Part group.Expr) ∷ (codes "ty" ∶ sort.Part group.Type_) ∷ [];
}
expr_row kind.RefExpr = record {
  word = codes "RefExpr";
  groups = group.Expr ∷ [];
  fields = (codes "raw" ∶ sort.Flag) ∷ (codes "mut" ∶ sort.Flag) ∷ (codes "expr" ∶ sort.Part group.Expr) ∷ [];
}
expr_row kind.PrefixExpr = record {
  word = codes "PrefixExpr";
  groups = group.Expr ∷ [];
  fields = (codes "op" ∶ sort.WordIfThere words.UnaryOps) ∷ (codes "expr" ∶ sort.Part group.Expr) ∷ [];
}
expr_row kind.BinExpr = record {
  word = codes "BinExpr";
  groups = group.Expr ∷ [];
  fields = (codes "op" ∶ sort.WordIfThere words.BinaryOps)
      ∷ (codes "lhs" ∶ sort.Part group.Expr)
      ∷ (codes "rhs" ∶ sort.Part group.Expr)
      ∷ [];
}
expr_row kind.TupleExpr = record {
  word = codes "TupleExpr";
  groups = group.Expr ∷ [];
  fields = (codes "leading_comma" ∶ sort.Flag) ∷ (codes "fields" ∶ sort.List group.Expr) ∷ [];
}
expr_row kind.ArrayExpr = record {
  word = codes "ArrayExpr";
  groups = group.Expr ∷ [];
  fields = (codes "semi" ∶ sort.Flag)
      ∷ (codes "elems" ∶ sort.Elements)
      ∷ (codes "init" ∶ sort.Repeated)
      ∷ (codes "len" ∶ sort.Repeated)
      ∷ [];
}
expr_row kind.IndexExpr = record {
  word = codes "IndexExpr";
  groups = group.Expr ∷ [];
  fields = (codes "base" ∶ sort.Part group.Expr) ∷ (codes "index" ∶ sort.Part group.Expr) ∷ [];
}
expr_row kind.RangeExpr = record {
  word = codes "RangeExpr";
  groups = group.Expr ∷ [];
  fields = (codes "op" ∶ sort.WordIfThere words.RangeOps)
      ∷ (codes "start" ∶ sort.Part group.Expr)
      ∷ (codes "end" ∶ sort.Part group.Expr)
      ∷ [];
}
expr_row kind.OffsetOfExpr = record {
  word = codes "OffsetOfExpr";
  groups = group.Expr ∷ [];
  fields = (codes "ty" ∶ sort.Part group.Type_) ∷ (codes "fields" ∶ sort.List group.Name) ∷ [];
}
expr_row kind.ClosureExpr = record {
  word = codes "ClosureExpr";
  groups = group.Expr ∷ [];
  fields = (codes "params" ∶ sort.List group.Param)
      ∷ (codes "ret" ∶ sort.Part group.Ret)
      ∷ (codes "body" ∶ sort.Part group.Expr)
      ∷ (codes "async" ∶ sort.Flag)
      ∷ (codes "gen" ∶ sort.Flag)
      ∷ (codes "move" ∶ sort.Flag)
      ∷ (codes "static" ∶ sort.Flag)
      ∷ [];
}
expr_row kind.CfgPredExpr = record {
  word = codes "CfgPredExpr";
  groups = group.Expr ∷ [];
  fields = (codes "pred" ∶ sort.Number) ∷ [];
}
expr_row kind.MacroExpr = record {
  word = codes "MacroExpr";
  groups = group.Expr ∷ [];
  fields = (codes "call" ∶ sort.Part group.MacroCall) ∷ [];
}
expr_row kind.UnderscoreExpr = record { word = codes "UnderscoreExpr"; groups = group.Expr ∷ []; fields = [] }
expr_row kind.IncludeBytesExpr = record { word = codes "IncludeBytesExpr"; groups = group.Expr ∷ []; fields = [] }
expr_row kind.AsmExpr = record { word = codes "AsmExpr"; groups = group.Expr ∷ []; fields = [] }
expr_row kind.FormatArgsExpr = record { word = codes "FormatArgsExpr"; groups = group.Expr ∷ []; fields = [] }
