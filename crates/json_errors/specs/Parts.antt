-- Parts of expressions, of types and of items.
use Rattle.std.specs.Prelude.{[], ◌∷◌, codes}
use Rattle.json_errors.specs.Rows.{Row, ◌∶◌}
use Rattle.json_errors.specs.declared.kind.PartNode.{PartNode}
use Rattle.json_errors.specs.declared.kind.PartNode.TheVariants as kind
use Rattle.json_errors.specs.declared.group.Group.TheVariants as group
use Rattle.json_errors.specs.declared.words.Words.TheVariants as words
use Rattle.json_errors.specs.declared.field.Sort.TheVariants as sort

abbrev pub part_row : PartNode → Row
part_row kind.TypeBound = record {
  word = codes "TypeBound";
  groups = group.Bound ∷ [];
  fields = (codes "b" ∶ sort.WordIfThere words.Bounds)
      ∷ (codes "ty" ∶ sort.Part group.PathType)
      ∷ (codes "binder" ∶ sort.Part group.Binder)
      ∷ (codes "maybe" ∶ sort.Flag)
      ∷ (codes "lifetime" ∶ sort.Part group.Lifetime)
      ∷ (codes "uses" ∶ sort.List group.UseArg)
      ∷ [];
}
part_row kind.ForBinder = record {
  word = codes "ForBinder";
  groups = group.Binder ∷ [];
  fields = (codes "params" ∶ sort.ListWithNulls group.Lifetime) ∷ [];
}
part_row kind.RetType = record {
  word = codes "RetType";
  groups = group.Ret ∷ [];
  fields = (codes "ty" ∶ sort.Part group.Type_) ∷ [];
}
part_row kind.MatchArm = record {
  word = codes "MatchArm";
  groups = group.Arm ∷ [];
  fields = (codes "pat" ∶ sort.Part group.Pat)
      ∷ (codes "guard" ∶ sort.Part group.Guard)
      ∷ (codes "expr" ∶ sort.Part group.Expr)
      ∷ [];
}
part_row kind.Guard = record {
  word = codes "Guard";
  groups = group.Guard ∷ [];
  fields = (codes "condition" ∶ sort.Part group.Expr) ∷ [];
}
part_row kind.LetElse = record {
  word = codes "LetElse";
  groups = group.LetElse ∷ [];
  fields = (codes "block" ∶ sort.Part group.Block) ∷ [];
}
part_row kind.RecordExprFieldList = record {
  word = codes "RecordExprFieldList";
  groups = group.RecordList ∷ [];
  fields = (codes "fields" ∶ sort.List group.RecordField)
      ∷ (codes "spread" ∶ sort.Part group.Expr)
      ∷ (codes "dotdot" ∶ sort.Flag)
      ∷ [];
}
part_row kind.RecordExprField = record {
  word = codes "RecordExprField";
  groups = group.RecordField ∷ [];
  fields = (codes "name" ∶ sort.Part group.Name) ∷ (codes "expr" ∶ sort.Part group.Expr) ∷ [];
}
part_row kind.RecordPatField = record {
  word = codes "RecordPatField";
  groups = group.PatField ∷ [];
  fields = (codes "name" ∶ sort.Part group.Name) ∷ (codes "pat" ∶ sort.Part group.Pat) ∷ [];
}
part_row kind.MacroCall = record {
  word = codes "MacroCall";
  groups = group.MacroCall ∷ [];
  fields = (codes "path" ∶ sort.Part group.Path) ∷ [];
}
part_row kind.MacroStmts = record {
  word = codes "MacroStmts";
  groups = group.MacroStmts ∷ [];
  fields = (codes "stmts" ∶ sort.List group.Stmt) ∷ (codes "expr" ∶ sort.Part group.Expr) ∷ [];
}
part_row kind.Param = record {
  word = codes "Param";
  groups = group.Param ∷ [];
  fields = (codes "pat" ∶ sort.Part group.Pat)
      ∷ (codes "ty" ∶ sort.Part group.Type_)
      ∷ (codes "variadic" ∶ sort.Flag)
      ∷ [];
}
part_row kind.SelfParam = record {
  word = codes "SelfParam";
  groups = group.SelfParam ∷ [];
  fields = (codes "name" ∶ sort.Part group.Name)
      ∷ (codes "ref" ∶ sort.Flag)
      ∷ (codes "mut" ∶ sort.Flag)
      ∷ (codes "lifetime" ∶ sort.Part group.Lifetime)
      ∷ (codes "ty" ∶ sort.Part group.Type_)
      ∷ [];
}
part_row kind.ParamList = record {
  word = codes "ParamList";
  groups = group.ParamList ∷ [];
  fields = (codes "self" ∶ sort.Part group.SelfParam) ∷ (codes "params" ∶ sort.List group.Param) ∷ [];
}
part_row kind.Label = record {
  word = codes "Label";
  groups = group.Label ∷ [];
  fields = (codes "lifetime" ∶ sort.Part group.Lifetime) ∷ [];
}
part_row kind.Lifetime = record {
  word = codes "Lifetime";
  groups = group.Lifetime ∷ group.UseArg ∷ [];
  fields = (codes "t" ∶ sort.Text) ∷ [];
}
part_row kind.Name = record {
  word = codes "Name";
  groups = group.Name ∷ group.UseArg ∷ [];
  fields = (codes "t" ∶ sort.Text) ∷ [];
}
