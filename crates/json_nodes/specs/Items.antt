-- Functions and aliases of types.
use Rattle.std.specs.Prelude.{codes}
use Rattle.serde_json.specs.Find.{get}
use Rattle.hir_syntax.specs.declared.items.Fn.{Fn}
use Rattle.hir_syntax.specs.declared.items.TypeAlias.{TypeAlias}
use Rattle.json_nodes.specs.Fields.{flag_of}
use Rattle.json_nodes.specs.Groups.{as_bound, as_expr, as_param_list, as_ret, as_type}
use Rattle.json_nodes.specs.Parts.{Here, part_in, list_in}
use Rattle.json_nodes.specs.Generics.{generics, where_clause}
use Rattle.json_nodes.specs.Listed.{Listed}

-- a function: what is generic in it, its parameters, what it returns, its body, and what makes a coroutine of that
unfoldable pub function : Here → Listed → Fn
function h l = record {
  id = h.id;
  range = h.range;
  generics = generics l h.value;
  where_ = where_clause l h.value;
  params = part_in h as_param_list (codes "params");
  ret = part_in h as_ret (codes "ret");
  body = part_in h as_expr (codes "body");
  async_ = flag_of (get (codes "async") h.value);
  gen_ = flag_of (get (codes "gen") h.value);
}

-- another name for a type
unfoldable pub type_alias : Here → Listed → TypeAlias
type_alias h l = record {
  id = h.id;
  range = h.range;
  bounds = list_in h as_bound (codes "bounds");
  generics = generics l h.value;
  where_ = where_clause l h.value;
  ty = part_in h as_type (codes "ty");
}
