-- Patterns.
use Rattle.std.specs.Prelude.{[], ◌∷◌, codes}
use Rattle.json_errors.specs.Rows.{Row, ◌∶◌}
use Rattle.json_errors.specs.declared.kind.PatNode.{PatNode}
use Rattle.json_errors.specs.declared.kind.PatNode.TheVariants as kind
use Rattle.json_errors.specs.declared.group.Group.TheVariants as group
use Rattle.json_errors.specs.declared.words.Words.TheVariants as words
use Rattle.json_errors.specs.declared.field.Sort.TheVariants as sort

abbrev pub pat_row : PatNode → Row
pat_row kind.IdentPat = record {
  word = codes "IdentPat";
  groups = group.Pat ∷ [];
  fields = (codes "name" ∶ sort.Part group.Name)
      ∷ (codes "ref" ∶ sort.Flag)
      ∷ (codes "mut" ∶ sort.Flag)
      ∷ (codes "pat" ∶ sort.Part group.Pat)
      ∷ [];
}
pat_row kind.TupleStructPat = record {
  word = codes "TupleStructPat";
  groups = group.Pat ∷ [];
  fields = (codes "path" ∶ sort.Part group.Path)
      ∷ (codes "leading_comma" ∶ sort.Flag)
      ∷ (codes "fields" ∶ sort.List group.Pat)
      ∷ [];
}
pat_row kind.TuplePat = record {
  word = codes "TuplePat";
  groups = group.Pat ∷ [];
  fields = (codes "leading_comma" ∶ sort.Flag) ∷ (codes "fields" ∶ sort.List group.Pat) ∷ [];
}
pat_row kind.RefPat = record {
  word = codes "RefPat";
  groups = group.Pat ∷ [];
  fields = (codes "mut" ∶ sort.Flag) ∷ (codes "pat" ∶ sort.Part group.Pat) ∷ [];
}
pat_row kind.PathPat = record {
  word = codes "PathPat";
  groups = group.Pat ∷ [];
  fields = (codes "path" ∶ sort.Part group.Path) ∷ [];
}
pat_row kind.OrPat = record {
  word = codes "OrPat";
  groups = group.Pat ∷ [];
  fields = (codes "pats" ∶ sort.List group.Pat) ∷ [];
}
pat_row kind.ParenPat = record {
  word = codes "ParenPat";
  groups = group.Pat ∷ [];
  fields = (codes "pat" ∶ sort.Part group.Pat) ∷ [];
}
pat_row kind.BoxPat = record {
  word = codes "BoxPat";
  groups = group.Pat ∷ [];
  fields = (codes "pat" ∶ sort.Part group.Pat) ∷ [];
}
pat_row kind.DerefPat = record {
  word = codes "DerefPat";
  groups = group.Pat ∷ [];
  fields = (codes "pat" ∶ sort.Part group.Pat) ∷ [];
}
pat_row kind.RecordPat = record {
  word = codes "RecordPat";
  groups = group.Pat ∷ [];
  fields = (codes "path" ∶ sort.Part group.Path)
      ∷ (codes "fields" ∶ sort.List group.PatField)
      ∷ (codes "rest" ∶ sort.Flag)
      ∷ [];
}
pat_row kind.SlicePat = record {
  word = codes "SlicePat";
  groups = group.Pat ∷ [];
  fields = (codes "prefix" ∶ sort.List group.Pat)
      ∷ (codes "slice" ∶ sort.Part group.Pat)
      ∷ (codes "suffix" ∶ sort.List group.Pat)
      ∷ [];
}
pat_row kind.LiteralPat = record {
  word = codes "LiteralPat";
  groups = group.Pat ∷ [];
  fields = (codes "lit" ∶ sort.Part group.Literal) ∷ (codes "minus" ∶ sort.Flag) ∷ [];
}
pat_row kind.RangePat = record {
  word = codes "RangePat";
  groups = group.Pat ∷ [];
  fields = (codes "op" ∶ sort.WordIfThere words.RangeOps)
      ∷ (codes "start" ∶ sort.Part group.Pat)
      ∷ (codes "end" ∶ sort.Part group.Pat)
      ∷ [];
}
pat_row kind.CfgPredPat = record {
  word = codes "CfgPredPat";
  groups = group.Pat ∷ [];
  fields = (codes "pred" ∶ sort.Number) ∷ [];
}
pat_row kind.MacroPat = record {
  word = codes "MacroPat";
  groups = group.Pat ∷ [];
  fields = (codes "call" ∶ sort.Part group.MacroCall) ∷ [];
}
pat_row kind.WildcardPat = record { word = codes "WildcardPat"; groups = group.Pat ∷ []; fields = [] }
pat_row kind.RestPat = record { word = codes "RestPat"; groups = group.Pat ∷ []; fields = [] }
pat_row kind.NotNullPat = record { word = codes "NotNullPat"; groups = group.Pat ∷ []; fields = [] }
pat_row kind.ConstBlockPat = record { word = codes "ConstBlockPat"; groups = group.Pat ∷ []; fields = [] }
