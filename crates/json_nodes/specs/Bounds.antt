-- Bounds, binders and return types.
use Rattle.std.specs.Prelude.{codes, ℕ, List, [], ◌∷◌, Option, Some, None, option_and_then}
use Rattle.serde_json.specs.Find.{get}
use Rattle.hir_syntax.specs.declared.types.BoundKind.{BoundKind}
use Rattle.hir_syntax.specs.declared.types.BoundKind.TheVariants as bound_kinds
use Rattle.hir_syntax.specs.declared.types.TypeBound.{TypeBound, roll-TypeBound}
use Rattle.json_errors.specs.ByWord.{with_word}
use Rattle.json_errors.specs.declared.kind.PartNode.{PartNode}
use Rattle.json_errors.specs.declared.kind.PartNode.TheVariants as kind
use Rattle.json_nodes.specs.Fields.{flag_of, text_in}
use Rattle.json_nodes.specs.Groups.{as_type, as_path_type, as_binder, as_lifetime, as_use_arg}
use Rattle.json_nodes.specs.Parts.{Here, part_in, list_in, list_with_nulls_in}
use Rattle.json_nodes.specs.Any.{TypePart}
use Rattle.json_nodes.specs.declared.type_parts.TypeOf.TheVariants as type_part

-- the word of a kind of bounds
abbrev pub bound_word : BoundKind → List ℕ
bound_word bound_kinds.Path = codes "path"
bound_word bound_kinds.Use = codes "use"
bound_word bound_kinds.Lifetime = codes "lifetime"

-- the kind of bounds whose word it is
abbrev pub bound_kind_of : List ℕ → Option BoundKind
bound_kind_of word = with_word bound_word (bound_kinds.Path ∷ bound_kinds.Use ∷ bound_kinds.Lifetime ∷ []) word

unfoldable pub bound : Here → TypeBound
bound h = roll-TypeBound (record {
  id = h.id;
  range = h.range;
  b = option_and_then bound_kind_of (text_in (codes "b") h.value);
  ty = part_in h as_path_type (codes "ty");
  binder = part_in h as_binder (codes "binder");
  maybe = flag_of (get (codes "maybe") h.value);
  lifetime = part_in h as_lifetime (codes "lifetime");
  uses = list_in h as_use_arg (codes "uses");
})

-- a bound, or what else stands beside types
unfoldable pub of_bound : Here → PartNode → Option TypePart
of_bound h kind.TypeBound = Some (type_part.Bound (bound h))
of_bound h kind.ForBinder = Some (type_part.Binder (record {
  id = h.id;
  range = h.range;
  params = list_with_nulls_in h as_lifetime (codes "params");
}))
of_bound h kind.RetType = Some (type_part.Ret (part_in h as_type (codes "ty")))
of_bound h _ = None
