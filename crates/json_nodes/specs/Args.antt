-- Arguments of names.
use Rattle.std.specs.Prelude.{codes, Option, Some, None}
use Rattle.serde_json.specs.Find.{get}
use Rattle.hir_syntax.specs.declared.types.AssocTypeArg.{AssocTypeArg, roll-AssocTypeArg}
use Rattle.hir_syntax.specs.declared.types.GenericArg.TheVariants as arguments
use Rattle.hir_syntax.specs.declared.types.LifetimeArg.{LifetimeArg}
use Rattle.json_errors.specs.ByWord.{or_else}
use Rattle.json_errors.specs.declared.kind.PathNode.{PathNode}
use Rattle.json_errors.specs.declared.kind.PathNode.TheVariants as kind
use Rattle.json_nodes.specs.Fields.{flag_of}
use Rattle.json_nodes.specs.Groups.{as_expr, as_type, as_name, as_lifetime, as_generic_args, as_generic_arg, as_type_arg, as_bound}
use Rattle.json_nodes.specs.Parts.{Here, part_in, list_in}
use Rattle.json_nodes.specs.Any.{PathPart}
use Rattle.json_nodes.specs.declared.path_parts.PathOf.TheVariants as path_part

unfoldable pub assoc_arg : Here → AssocTypeArg
assoc_arg h = roll-AssocTypeArg (record {
  id = h.id;
  range = h.range;
  name = part_in h as_name (codes "name");
  params = flag_of (get (codes "params") h.value);
  generics = part_in h as_generic_args (codes "generics");
  rtn = flag_of (get (codes "rtn") h.value);
  ty = part_in h as_type (codes "ty");
  bounds = list_in h as_bound (codes "bounds");
})

unfoldable pub lifetime_arg : Here → LifetimeArg
lifetime_arg h = record {
  id = h.id;
  range = h.range;
  lifetime = part_in h as_lifetime (codes "lifetime");
}

unfoldable pub arg : Here → PathNode → Option PathPart
arg h kind.TypeArg = Some (path_part.TypeArg (part_in h as_type (codes "ty")))
arg h kind.AssocTypeArg = Some (path_part.GenericArg (arguments.AssocTypeArg (assoc_arg h)))
arg h kind.LifetimeArg = Some (path_part.GenericArg (arguments.LifetimeArg (lifetime_arg h)))
arg h kind.ConstArg = Some (path_part.ConstArg (part_in h as_expr (codes "expr")))
arg h _ = None

unfoldable pub arg_list : Here → PathNode → Option PathPart
arg_list h kind.GenericArgList = Some (path_part.GenericArgs (list_in h as_generic_arg (codes "args")))
arg_list h kind.ParenArgs = Some (path_part.ParenArgs (list_in h as_type_arg (codes "args")))
arg_list h _ = None

-- an argument, or a list of some
abbrev pub of_args : Here → PathNode → Option PathPart
of_args h k = or_else (arg h k) (arg_list h k)
