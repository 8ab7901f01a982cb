-- Parameters.
use Rattle.std.specs.Prelude.{codes, Option, Some, None}
use Rattle.serde_json.specs.Find.{get}
use Rattle.hir_syntax.specs.declared.types.Param.{roll-Param}
use Rattle.hir_syntax.specs.declared.params.SelfParam.{SelfParam}
use Rattle.hir_syntax.specs.declared.params.ParamList.{ParamList}
use Rattle.json_errors.specs.declared.kind.PartNode.{PartNode}
use Rattle.json_errors.specs.declared.kind.PartNode.TheVariants as kind
use Rattle.json_nodes.specs.Fields.{flag_of}
use Rattle.json_nodes.specs.Groups.{as_name, as_lifetime, as_pat, as_type, as_param, as_self_param}
use Rattle.json_nodes.specs.Parts.{Here, part_in, list_in}
use Rattle.json_nodes.specs.Any.{ParamPart}
use Rattle.json_nodes.specs.declared.param_parts.ParamOf.TheVariants as param_part

unfoldable pub self_param : Here → SelfParam
self_param h = record {
  id = h.id;
  range = h.range;
  name = part_in h as_name (codes "name");
  ref_ = flag_of (get (codes "ref") h.value);
  mut_ = flag_of (get (codes "mut") h.value);
  lifetime = part_in h as_lifetime (codes "lifetime");
  ty = part_in h as_type (codes "ty");
}

unfoldable pub param_list : Here → ParamList
param_list h = record {
  id = h.id;
  range = h.range;
  self_ = part_in h as_self_param (codes "self");
  params = list_in h as_param (codes "params");
}

-- a parameter, a `self`, or all of a function
unfoldable pub of_param : Here → PartNode → Option ParamPart
of_param h kind.Param = Some (param_part.Param (roll-Param (record {
  id = h.id;
  range = h.range;
  pat = part_in h as_pat (codes "pat");
  ty = part_in h as_type (codes "ty");
  variadic = flag_of (get (codes "variadic") h.value);
})))
of_param h kind.SelfParam = Some (param_part.SelfParam (self_param h))
of_param h kind.ParamList = Some (param_part.ParamList (param_list h))
of_param h _ = None
