-- Items, and what is generic in them.
use Rattle.std.specs.Prelude.{[], ◌∷◌, codes}
use Rattle.json_errors.specs.Rows.{Row, ◌∶◌}
use Rattle.json_errors.specs.declared.kind.ItemNode.{ItemNode}
use Rattle.json_errors.specs.declared.kind.ItemNode.TheVariants as kind
use Rattle.json_errors.specs.declared.group.Group.TheVariants as group
use Rattle.json_errors.specs.declared.field.Sort.TheVariants as sort

abbrev pub item_row : ItemNode → Row
item_row kind.TypeParam = record {
  word = codes "TypeParam";
  groups = group.GenericParam ∷ [];
  fields = (codes "name" ∶ sort.Part group.Name)
      ∷ (codes "bounds" ∶ sort.List group.Bound)
      ∷ (codes "default" ∶ sort.Part group.Type_)
      ∷ [];
}
item_row kind.ConstParam = record {
  word = codes "ConstParam";
  groups = group.GenericParam ∷ [];
  fields = (codes "name" ∶ sort.Part group.Name)
      ∷ (codes "ty" ∶ sort.Part group.Type_)
      ∷ (codes "default" ∶ sort.Part group.ConstArg)
      ∷ [];
}
item_row kind.LifetimeParam = record {
  word = codes "LifetimeParam";
  groups = group.GenericParam ∷ [];
  fields = (codes "lifetime" ∶ sort.Part group.Lifetime) ∷ (codes "bounds" ∶ sort.List group.Bound) ∷ [];
}
item_row kind.GenericParamList = record {
  word = codes "GenericParamList";
  groups = group.GenericParams ∷ [];
  fields = (codes "params" ∶ sort.List group.GenericParam) ∷ [];
}
item_row kind.WherePred = record {
  word = codes "WherePred";
  groups = group.WherePred ∷ [];
  fields = (codes "ty" ∶ sort.Part group.Type_)
      ∷ (codes "lifetime" ∶ sort.Part group.Lifetime)
      ∷ (codes "binder" ∶ sort.Part group.Binder)
      ∷ (codes "bounds" ∶ sort.List group.Bound)
      ∷ [];
}
item_row kind.WhereClause = record {
  word = codes "WhereClause";
  groups = group.Where ∷ [];
  fields = (codes "preds" ∶ sort.List group.WherePred) ∷ [];
}
item_row kind.Fn = record {
  word = codes "Fn";
  groups = group.Fn ∷ [];
  fields = (codes "generics" ∶ sort.Part group.GenericParams)
      ∷ (codes "where" ∶ sort.Part group.Where)
      ∷ (codes "params" ∶ sort.Part group.ParamList)
      ∷ (codes "ret" ∶ sort.Part group.Ret)
      ∷ (codes "body" ∶ sort.Part group.Expr)
      ∷ (codes "async" ∶ sort.Flag)
      ∷ (codes "gen" ∶ sort.Flag)
      ∷ [];
}
item_row kind.Impl = record {
  word = codes "Impl";
  groups = [];
  fields = (codes "self_ty" ∶ sort.Part group.Type_)
      ∷ (codes "trait" ∶ sort.Part group.Type_)
      ∷ (codes "generics" ∶ sort.Part group.GenericParams)
      ∷ (codes "where" ∶ sort.Part group.Where)
      ∷ [];
}
item_row kind.Trait = record {
  word = codes "Trait";
  groups = [];
  fields = (codes "bounds" ∶ sort.List group.Bound)
      ∷ (codes "generics" ∶ sort.Part group.GenericParams)
      ∷ (codes "where" ∶ sort.Part group.Where)
      ∷ [];
}
item_row kind.TypeAlias = record {
  word = codes "TypeAlias";
  groups = group.TypeAlias ∷ [];
  fields = (codes "bounds" ∶ sort.List group.Bound)
      ∷ (codes "generics" ∶ sort.Part group.GenericParams)
      ∷ (codes "where" ∶ sort.Part group.Where)
      ∷ (codes "ty" ∶ sort.Part group.Type_)
      ∷ [];
}
