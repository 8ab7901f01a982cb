-- Types, except for paths.
use Rattle.std.specs.Prelude.{[], ◌∷◌, codes}
use Rattle.json_errors.specs.Rows.{Row, ◌∶◌}
use Rattle.json_errors.specs.declared.kind.TypeNode.{TypeNode}
use Rattle.json_errors.specs.declared.kind.TypeNode.TheVariants as kind
use Rattle.json_errors.specs.declared.group.Group.TheVariants as group
use Rattle.json_errors.specs.declared.field.Sort.TheVariants as sort

abbrev pub type_row : TypeNode → Row
type_row kind.ParenType = record {
  word = codes "ParenType";
  groups = group.Type_ ∷ [];
  fields = (codes "ty" ∶ sort.Part group.Type_) ∷ [];
}
type_row kind.SliceType = record {
  word = codes "SliceType";
  groups = group.Type_ ∷ [];
  fields = (codes "ty" ∶ sort.Part group.Type_) ∷ [];
}
type_row kind.TupleType = record {
  word = codes "TupleType";
  groups = group.Type_ ∷ [];
  fields = (codes "fields" ∶ sort.List group.Type_) ∷ [];
}
type_row kind.PtrType = record {
  word = codes "PtrType";
  groups = group.Type_ ∷ [];
  fields = (codes "mut" ∶ sort.Flag) ∷ (codes "ty" ∶ sort.Part group.Type_) ∷ [];
}
type_row kind.ArrayType = record {
  word = codes "ArrayType";
  groups = group.Type_ ∷ [];
  fields = (codes "ty" ∶ sort.Part group.Type_) ∷ (codes "len" ∶ sort.Part group.ConstArg) ∷ [];
}
type_row kind.RefType = record {
  word = codes "RefType";
  groups = group.Type_ ∷ [];
  fields = (codes "lifetime" ∶ sort.Part group.Lifetime)
      ∷ (codes "mut" ∶ sort.Flag)
      ∷ (codes "ty" ∶ sort.Part group.Type_)
      ∷ [];
}
type_row kind.FnPtrType = record {
  word = codes "FnPtrType";
  groups = group.Type_ ∷ [];
  fields = (codes "unsafe" ∶ sort.Flag)
      ∷ (codes "abi" ∶ sort.TextIfThere)
      ∷ (codes "params" ∶ sort.List group.Param)
      ∷ (codes "ret" ∶ sort.Part group.Ret)
      ∷ [];
}
type_row kind.ForType = record {
  word = codes "ForType";
  groups = group.Type_ ∷ [];
  fields = (codes "binder" ∶ sort.Part group.Binder) ∷ (codes "ty" ∶ sort.Part group.Type_) ∷ [];
}
type_row kind.ImplTraitType = record {
  word = codes "ImplTraitType";
  groups = group.Type_ ∷ [];
  fields = (codes "bounds" ∶ sort.List group.Bound) ∷ [];
}
type_row kind.DynTraitType = record {
  word = codes "DynTraitType";
  groups = group.Type_ ∷ [];
  fields = (codes "bounds" ∶ sort.List group.Bound) ∷ [];
}
type_row kind.PatternType = record {
  word = codes "PatternType";
  groups = group.Type_ ∷ [];
  fields = (codes "ty" ∶ sort.Part group.Type_) ∷ (codes "pat" ∶ sort.Part group.Pat) ∷ [];
}
type_row kind.MacroType = record {
  word = codes "MacroType";
  groups = group.Type_ ∷ [];
  fields = (codes "call" ∶ sort.Part group.MacroCall) ∷ [];
}
type_row kind.NeverType = record { word = codes "NeverType"; groups = group.Type_ ∷ []; fields = [] }
type_row kind.InferType = record { word = codes "InferType"; groups = group.Type_ ∷ []; fields = [] }
