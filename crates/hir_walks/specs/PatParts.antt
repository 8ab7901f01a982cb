-- The patterns of an expression that are still to come.
use Rattle.std.specs.Prelude.{List, ◌++◌, map, Option}
use Rattle.std.specs.List.{flat_map}
use Rattle.std.specs.Option.{option_to_list}
use Rattle.hir_store.specs.declared.ids.PatId.{PatId}
use Rattle.hir_walks.specs.Exprs.{arm_pat, statement_pats}
use Rattle.hir_walks.specs.declared.expr_pats.PatParts.{PatParts}
use Rattle.hir_walks.specs.declared.expr_pats.PatParts.TheVariants as parts

abbrev pub in_parts : PatParts → List PatId
in_parts (parts.Pats ids) = ids.now
in_parts (parts.Statements ss) = flat_map statement_pats ss.now
in_parts (parts.Arms arms) = map arm_pat arms.now

abbrev pub left : Option PatId → PatParts → List PatId
left first ps = option_to_list first ++ in_parts ps
