-- Paths, and what stands beside a name.
use Rattle.std.specs.Prelude.{[], ◌∷◌, codes}
use Rattle.json_errors.specs.Rows.{Row, ◌∶◌}
use Rattle.json_errors.specs.declared.kind.PathNode.{PathNode}
use Rattle.json_errors.specs.declared.kind.PathNode.TheVariants as kind
use Rattle.json_errors.specs.declared.group.Group.TheVariants as group
use Rattle.json_errors.specs.declared.words.Words.TheVariants as words
use Rattle.json_errors.specs.declared.field.Sort.TheVariants as sort

abbrev pub path_row : PathNode → Row
path_row kind.Path = record {
  word = codes "Path";
  groups = group.Path ∷ [];
  fields = (codes "leading" ∶ sort.Flag)
      ∷ (codes "in_macro" ∶ sort.Flag)
      ∷ (codes "use" ∶ sort.Part group.Path)
      ∷ (codes "segs" ∶ sort.ListWithNulls group.Segment)
      ∷ [];
}
path_row kind.PathSegment = record {
  word = codes "PathSegment";
  groups = group.Segment ∷ [];
  fields = (codes "seg" ∶ sort.WordIfThere words.Segments)
      ∷ (codes "name" ∶ sort.Part group.Name)
      ∷ (codes "generics" ∶ sort.Part group.GenericArgs)
      ∷ (codes "parens" ∶ sort.Part group.ParenArgs)
      ∷ (codes "ret" ∶ sort.Part group.Ret)
      ∷ (codes "rtn" ∶ sort.Flag)
      ∷ (codes "ty" ∶ sort.Part group.Type_)
      ∷ (codes "trait" ∶ sort.Part group.PathType)
      ∷ [];
}
path_row kind.GenericArgList = record {
  word = codes "GenericArgList";
  groups = group.GenericArgs ∷ [];
  fields = (codes "args" ∶ sort.List group.GenericArg) ∷ [];
}
path_row kind.TypeArg = record {
  word = codes "TypeArg";
  groups = group.GenericArg ∷ group.TypeArg ∷ [];
  fields = (codes "ty" ∶ sort.Part group.Type_) ∷ [];
}
path_row kind.AssocTypeArg = record {
  word = codes "AssocTypeArg";
  groups = group.GenericArg ∷ [];
  fields = (codes "name" ∶ sort.Part group.Name)
      ∷ (codes "params" ∶ sort.Flag)
      ∷ (codes "generics" ∶ sort.Part group.GenericArgs)
      ∷ (codes "rtn" ∶ sort.Flag)
      ∷ (codes "ty" ∶ sort.Part group.Type_)
      ∷ (codes "bounds" ∶ sort.List group.Bound)
      ∷ [];
}
path_row kind.LifetimeArg = record {
  word = codes "LifetimeArg";
  groups = group.GenericArg ∷ [];
  fields = (codes "lifetime" ∶ sort.Part group.Lifetime) ∷ [];
}
path_row kind.ConstArg = record {
  word = codes "ConstArg";
  groups = group.GenericArg ∷ group.ConstArg ∷ [];
  fields = (codes "expr" ∶ sort.Part group.Expr) ∷ [];
}
path_row kind.ParenArgs = record {
  word = codes "ParenArgs";
  groups = group.ParenArgs ∷ [];
  fields = (codes "args" ∶ sort.List group.TypeArg) ∷ [];
}
